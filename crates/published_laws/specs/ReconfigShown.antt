-- The machine's runs as behaviours of `Reconfig`.
use Rattle.std.specs.Prelude.{◌≡◌, ℕ, Bool, true, false, List, [], ◌∷◌, map, Option, None, Some, ⊤}
use Rattle.commit_machine.specs.Machine.{Action, AreAllowed, after}
use Rattle.commit_machine.specs.Machine as machine
use Rattle.commit_machine.specs.Nodes as nodes
use Rattle.commit_machine.specs.Nodes.{Snapshot, State, anchor, now, opening}
use Rattle.commit_machine.specs.Words.{NoneTwice}
use Rattle.published_laws.specs.Histories.{History, Path, Steps}
use Rattle.published_laws.specs.Reconfig.{Init, Next, Primary, Role, Secondary, Server, Variables}
use Rattle.published_laws.specs.ReconfigNames.{Name}
use Rattle.published_laws.specs.ReconfigNames as names

-- ---- what a node shows

-- who is draining doesn't write yet
abbrev pub role_shown : nodes.Role → Role
role_shown nodes.Primary = Primary
role_shown _ = Secondary

abbrev pub shown : Snapshot → Server
shown node = record {
  currentTerm = node.term;
  state = role_shown node.role;
  log = node.log;
  config = node.config.voters;
  configVersion = node.config.version;
  configTerm = node.config.term;
  votedFor = node.vote;
  durable = node.durable;
}

-- The servers are as the nodes. Committed is, for each count, the commit point where it is of the term, and
-- else the first entry of the term, which the count covers.
pub record IsShown (variables : Variables) (state : State) : Type 0 where
  pub servers : (number : ℕ) → variables.servers number ≡ shown (now state number)
  pub committed : variables.committed ≡ map (λ stamp. anchor stamp.node) state.evaluations

-- ---- what an action does

-- by which of their actions each of the machine's is done; the others leave their variables as they were
abbrev pub theirs : Action → Option Name
theirs (machine.Raise node term) = Some names.UpdateTerms
theirs (machine.Campaign node) = Some names.AskForVotes
theirs (machine.Grant node candidate seen) = Some names.Vote
theirs (machine.Win node) = None
theirs (machine.Drain node) = Some names.BecomeLeader
theirs (machine.Lose node) = Some names.StepDown
theirs (machine.Append node entry) = Some names.ClientRequest
theirs (machine.Take node source seen many) = Some names.GetEntries
theirs (machine.Flush node point) = Some names.Flush
theirs (machine.Back node commit) = Some names.Restart
theirs (machine.Rollback node source seen point) = Some names.RollbackEntries
theirs (machine.Evaluate node point) = Some names.CommitEntry
theirs (machine.Learn node source seen) = None
theirs (machine.Install node source seen) = Some names.SendConfig
theirs (machine.Reconfig node version voters) = Some names.Reconfig
theirs (machine.Send node) = None

-- a step of the others is for one entry
abbrev pub is_one : Name → Bool
is_one names.GetEntries = false
is_one names.RollbackEntries = false
is_one _ = true

-- one step of the action does it, or one for each entry that is taken or removed
abbrev pub IsDoneBy : Option Name → History Variables → History Variables → Type 0
IsDoneBy None old new = new ≡ old
IsDoneBy (Some name) old new =
    (count : ℕ) × Steps (Next name) count old new × (is_one name ≡ true → count ≡ 1)

-- after each action the behaviour goes on by steps of the one action, and shows what the machine is then
abbrev pub GoesOn : State → List Action → History Variables → Type 0
GoesOn state [] history = ⊤
GoesOn state (action ∷ actions) history =
    (next : History Variables) × IsDoneBy (theirs action) history next × IsShown next.now (after state action)
    × GoesOn (after state action) actions next

-- where a behaviour of these members begins
abbrev pub start : List ℕ → History Variables
start members = record { now = Init members; past = [] }

-- Each run of the machine is a behaviour of MongoRaftReconfig, from its first state on.
abbrev pub RunsAreReconfigs : Type 0
RunsAreReconfigs =
    (voters : List ℕ) (actions : List Action) → NoneTwice voters → AreAllowed (opening voters) actions
    → IsShown (Init voters) (opening voters)
    × GoesOn (opening voters) actions (start voters)

-- Of three servers, each action happens in some behaviour.
abbrev pub EachHappens : Type 0
EachHappens =
    (name : Name) → (path : List Name) × (history : History Variables) × (next : Variables)
    × Path Next path (start (0 ∷ 1 ∷ 2 ∷ [])) history × Next name history next
