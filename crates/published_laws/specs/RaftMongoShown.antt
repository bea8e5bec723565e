-- The machine's runs as behaviours of `RaftMongo`, where no reconfiguration changes the voters.
use Rattle.std.specs.Prelude.{◌≡◌, ℕ, Bool, true, false, List, [], ◌∷◌, Option, None, Some, ⊤}
use Rattle.commit_machine.specs.Machine.{Action, AreAllowed, after}
use Rattle.commit_machine.specs.Machine as machine
use Rattle.commit_machine.specs.Nodes as nodes
use Rattle.commit_machine.specs.Nodes.{Snapshot, State, now, opening}
use Rattle.commit_machine.specs.Words.{NoneTwice}
use Rattle.published_laws.specs.Histories.{History, Path, Steps}
use Rattle.published_laws.specs.RaftMongo.{Follower, Init, Leader, Next, Role, Server, Variables}
use Rattle.published_laws.specs.RaftMongoNames.{Name}
use Rattle.published_laws.specs.RaftMongoNames as names

-- ---- what a node shows

-- who is draining doesn't write yet
abbrev pub role_shown : nodes.Role → Role
role_shown nodes.Primary = Leader
role_shown _ = Follower

abbrev pub shown : Snapshot → Server
shown node = record {
  currentTerm = node.term;
  state = role_shown node.role;
  log = node.log;
  commitPoint = node.commit;
  votedFor = node.vote;
  durable = node.durable;
}

abbrev pub IsShown : Variables → State → Type 0
IsShown variables state = (number : ℕ) → variables.servers number ≡ shown (now state number)

-- ---- what an action does

-- by which of their actions each of the machine's is done; the others leave their variables as they were
abbrev pub theirs : Action → Option Name
theirs (machine.Raise node term) = Some names.UpdateTermThroughHeartbeat
theirs (machine.Campaign node) = Some names.AskForVotes
theirs (machine.Grant node candidate seen) = Some names.Vote
theirs (machine.Win node) = None
theirs (machine.Drain node) = Some names.BecomePrimaryByMagic
theirs (machine.Lose node) = Some names.Stepdown
theirs (machine.Append node entry) = Some names.ClientWrite
theirs (machine.Take node source seen many) = Some names.AppendOplog
theirs (machine.Flush node point) = Some names.Flush
theirs (machine.Back node commit) = Some names.Restart
theirs (machine.Rollback node source seen point) = Some names.RollbackOplog
theirs (machine.Evaluate node point) = Some names.AdvanceCommitPoint
theirs (machine.Learn node source seen) = Some names.LearnCommitPoint
theirs (machine.Install node source seen) = None
theirs (machine.Reconfig node version voters) = None
theirs (machine.Send node) = None

-- a step of the others is for one entry
abbrev pub is_one : Name → Bool
is_one names.AppendOplog = false
is_one names.RollbackOplog = false
is_one _ = true

-- one step of the action does it, or one for each entry that is taken or removed
abbrev pub IsDoneBy : List ℕ → Option Name → History Variables → History Variables → Type 0
IsDoneBy members None old new = new ≡ old
IsDoneBy members (Some name) old new =
    (count : ℕ) × Steps (Next members name) count old new × (is_one name ≡ true → count ≡ 1)

-- after each action the behaviour goes on by steps of the one action, and shows what the machine is then
abbrev pub GoesOn : List ℕ → State → List Action → History Variables → Type 0
GoesOn members state [] history = ⊤
GoesOn members state (action ∷ actions) history =
    (next : History Variables) × IsDoneBy members (theirs action) history next
    × IsShown next.now (after state action) × GoesOn members (after state action) actions next

-- a reconfiguration leaves the voters as they are
abbrev pub KeepsVoters : List ℕ → Action → Type 0
KeepsVoters members (machine.Reconfig node version voters) = voters ≡ members
KeepsVoters members action = ⊤

abbrev pub AllKeepVoters : List ℕ → List Action → Type 0
AllKeepVoters members [] = ⊤
AllKeepVoters members (action ∷ actions) = KeepsVoters members action × AllKeepVoters members actions

abbrev pub start : History Variables
start = record { now = Init; past = [] }

-- Each run of the machine in which the voters stay is a behaviour of RaftMongo, from its first state on.
abbrev pub RunsAreRaftMongos : Type 0
RunsAreRaftMongos =
    (voters : List ℕ) (actions : List Action) → NoneTwice voters → AreAllowed (opening voters) actions
    → AllKeepVoters voters actions
    → IsShown Init (opening voters) × GoesOn voters (opening voters) actions start

-- Of three servers, each action happens in some behaviour.
abbrev pub EachHappens : Type 0
EachHappens =
    (name : Name) → (path : List Name) × (history : History Variables) × (next : Variables)
    × Path (Next (0 ∷ 1 ∷ 2 ∷ [])) path start history × Next (0 ∷ 1 ∷ 2 ∷ []) name history next
