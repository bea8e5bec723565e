-- MongoRaftReconfig (Schultz, Dardik and Tripakis, 2021), from memory of the public papers, with its names.
--
-- What is otherwise here, each of it an action, a variable or a condition of its own:
-- 1. A server reads of another what that had at some moment (`seen`), since a message brings it. In the paper
--    it reads what the other has.
-- 2. An election takes steps, since votes are messages: `AskForVotes`, `Vote`, and `BecomeLeader`, which does
--    the rest. So there is `votedFor`, and a term may pass without a leader. In the paper one step does all.
-- 3. Servers restart, and lose what they haven't flushed: `durable`, `Flush`, `Restart`. What is committed is
--    durable at a quorum. In the paper all is durable at once.
-- 4. A leader may step down by itself (`StepDown`), and a term that a server learns may be any higher one.
-- 5. A reconfiguration may raise the version by more than one, and takes a quorum of the old configuration in
--    which something of the term is committed; the paper allows it also where nothing was ever committed.
-- 6. That a leader is a member of its configuration isn't asked here.
use Rattle.std.specs.Prelude.{◌≡◌, ◌⊎◌, ◌<◌, ◌≤◌, ◌+◌, ℕ, Bool, true, List, [], ◌∷◌, ◌++◌, Option, None, Some}
use Rattle.rs_optime.specs.Later.{earlier_of}
use Rattle.rs_optime.specs.Membership.{In}
use Rattle.rs_optime.specs.Order.{AtMost}
use Rattle.rs_optime.specs.declared.optime.OpTime.{OpTime}
use Rattle.oplog_entry.specs.Visible.{ZERO, last_of, log_up_to}
use Rattle.oplog_entry.specs.declared.entry.Entry.{Entry}
use Rattle.member_config.specs.Counting.{Meets, Most}
use Rattle.commit_machine.specs.Words.{Has}
use Rattle.published_laws.specs.Histories.{Had, History, Turned}
use Rattle.published_laws.specs.Oplog.{CanRollback, CanSyncFrom}
use Rattle.published_laws.specs.ReconfigNames.{Name}
use Rattle.published_laws.specs.ReconfigNames as names

pub data Role : Type 0 where
  Primary : Role
  Secondary : Role

-- the variables of one server
pub record Server : Type 0 where
  pub currentTerm : ℕ
  pub state : Role
  pub log : List Entry
  pub config : List ℕ
  pub configVersion : ℕ
  pub configTerm : ℕ
  -- not the paper's
  pub votedFor : Option ℕ
  pub durable : OpTime

pub record Variables : Type 0 where
  pub servers : ℕ → Server
  -- the entries that were committed, by their optimes
  pub committed : List OpTime

abbrev pub servers_of : Variables → ℕ → Server
servers_of variables = variables.servers

-- ---- the beginning

abbrev pub first_server : List ℕ → Server
first_server members = record {
  currentTerm = 0;
  state = Secondary;
  log = [];
  config = members;
  configVersion = 1;
  configTerm = 0;
  votedFor = None;
  durable = ZERO;
}

abbrev pub Init : List ℕ → Variables
Init members = record { servers = λ number. first_server members; committed = [] }

-- ---- one configuration and another

abbrev pub IsNewerConfig : Server → Server → Type 0
IsNewerConfig one two = (two.configTerm < one.configTerm)
    ⊎ ((two.configTerm ≡ one.configTerm) × (two.configVersion < one.configVersion))

abbrev pub IsNoOlderConfig : Server → Server → Type 0
IsNoOlderConfig one two = (two.configTerm < one.configTerm)
    ⊎ ((two.configTerm ≡ one.configTerm) × (two.configVersion ≤ one.configVersion))

-- in a term, a server may vote for one with this log and configuration
pub record CanVote (term : ℕ) (voter candidate : Server) : Type 0 where
  pub first : (voter.currentTerm < term) ⊎ ((voter.currentTerm ≡ term) × (voter.votedFor ≡ None))
  pub log : AtMost (last_of voter.log) (last_of candidate.log)
  pub config : IsNoOlderConfig candidate voter

-- in a term, the server has the entry where no restart loses it
pub record HasCommitted (term : ℕ) (at : OpTime) (server : Server) : Type 0 where
  pub term_is : server.currentTerm ≡ term
  pub there : Has at server.log
  pub durable : AtMost at server.durable

-- ---- what a history tells

module _ (history : History Variables) where
  abbrev old : ℕ → Server
  old number = history.now.servers number

  -- the server was so at some moment
  abbrev pub WasSeen : ℕ → Server → Type 0
  WasSeen number seen = Had servers_of history number seen

  -- each of a quorum was so at some moment
  pub record IsOfQuorum (members : List ℕ) (P : Server → Type 0) : Type 0 where
    pub quorum : ℕ → Bool
    pub most : Most members quorum
    pub each : (v : ℕ) → quorum v ≡ true → (seen : Server) × WasSeen v seen × P seen

  -- v voted for i, in the term of i, as one that could vote for what i is now
  pub record GaveVote (i v : ℕ) : Type 0 where
    pub before : Server
    pub voted : Server
    pub turned : Turned servers_of history v before voted
    pub could : CanVote (old i).currentTerm before (old i)
    pub term : voted.currentTerm ≡ (old i).currentTerm
    pub for_it : voted.votedFor ≡ Some i

-- ConfigQuorumCheck and TermQuorumCheck
pub record HasConfig (config server : Server) : Type 0 where
  pub term : server.currentTerm ≡ config.currentTerm
  pub version : server.configVersion ≡ config.configVersion
  pub config_term : server.configTerm ≡ config.configTerm

-- ---- the actions, each from what was to the next state

module _ (history : History Variables) (new : Variables) where
  abbrev own : ℕ → Server
  own number = history.now.servers number

  -- the server changed so, and no other did
  pub record Becomes (i : ℕ) (it : Server) : Type 0 where
    pub changed : new.servers i ≡ it
    pub others : (s : ℕ) → (s ≡ i → ⊥) → new.servers s ≡ own s
    pub committed : new.committed ≡ history.now.committed

  pub record BecomeLeader (i : ℕ) : Type 0 where
    -- not in this term before
    pub first : (own i).configTerm < (own i).currentTerm
    pub quorum : ℕ → Bool
    pub most : Most (own i).config quorum
    pub votes : (v : ℕ) → quorum v ≡ true → GaveVote history i v
    pub leads : Becomes i (record (own i) { state = Primary; configTerm = (own i).currentTerm })

  pub record ClientRequest (i : ℕ) : Type 0 where
    pub entry : Entry
    pub primary : (own i).state ≡ Primary
    pub term : entry.optime.term ≡ (own i).currentTerm
    pub writes : Becomes i (record (own i) { log = (own i).log ++ entry ∷ [] })

  pub record GetEntries (i : ℕ) : Type 0 where
    pub j : ℕ
    pub seen : Server
    pub was_seen : WasSeen history j seen
    pub secondary : (own i).state ≡ Secondary
    pub entry : Entry
    pub can : CanSyncFrom (own i).log seen.log entry
    pub takes : Becomes i (record (own i) { log = (own i).log ++ entry ∷ [] })

  pub record RollbackEntries (i : ℕ) : Type 0 where
    pub j : ℕ
    pub seen : Server
    pub was_seen : WasSeen history j seen
    pub secondary : (own i).state ≡ Secondary
    pub front : List Entry
    pub can : CanRollback (own i).log seen.log front
    pub removes : Becomes i (record (own i) {
      log = front;
      durable = earlier_of (own i).durable (last_of front);
    })

  pub record CommitEntry (i : ℕ) : Type 0 where
    pub at : OpTime
    pub primary : (own i).state ≡ Primary
    pub there : Has at (own i).log
    pub term : at.term ≡ (own i).currentTerm
    pub quorum : IsOfQuorum history (own i).config (HasCommitted (own i).currentTerm at)
    pub commits : new.committed ≡ at ∷ history.now.committed
    pub servers : (s : ℕ) → new.servers s ≡ own s

  pub record UpdateTerms (i : ℕ) : Type 0 where
    pub term : ℕ
    pub higher : (own i).currentTerm < term
    pub takes : Becomes i (record (own i) { currentTerm = term; state = Secondary; votedFor = None })

  pub record SendConfig (i : ℕ) : Type 0 where
    pub j : ℕ
    pub seen : Server
    pub was_seen : WasSeen history j seen
    pub secondary : (own i).state ≡ Secondary
    pub newer : IsNewerConfig seen (own i)
    pub takes : Becomes i (record (own i) {
      config = seen.config;
      configVersion = seen.configVersion;
      configTerm = seen.configTerm;
    })

  pub record Reconfig (i : ℕ) : Type 0 where
    pub members : List ℕ
    pub version : ℕ
    pub primary : (own i).state ≡ Primary
    pub newer : (own i).configVersion < version
    -- QuorumsOverlap
    pub overlap : Meets (own i).config members
    pub settled : IsOfQuorum history (own i).config (HasConfig (own i))
    -- OplogCommitment
    pub at : OpTime
    pub committed : In at history.now.committed
    pub term : at.term ≡ (own i).currentTerm
    pub all_committed : (other : OpTime) → In other history.now.committed → other.term ≡ (own i).currentTerm
        → IsOfQuorum history (own i).config (HasCommitted (own i).currentTerm other)
    pub installs : Becomes i (record (own i) {
      config = members;
      configVersion = version;
      configTerm = (own i).currentTerm;
    })

  -- ---- not the paper's

  pub record AskForVotes (i : ℕ) : Type 0 where
    pub asks : Becomes i (record (own i) {
      currentTerm = (own i).currentTerm + 1;
      votedFor = Some i;
      state = Secondary;
    })

  pub record Vote (i : ℕ) : Type 0 where
    pub j : ℕ
    pub seen : Server
    pub was_seen : WasSeen history j seen
    pub asked : seen.votedFor ≡ Some j
    pub can : CanVote seen.currentTerm (own i) seen
    pub votes : Becomes i (record (own i) {
      currentTerm = seen.currentTerm;
      votedFor = Some j;
      state = Secondary;
    })

  pub record StepDown (i : ℕ) : Type 0 where
    pub steps : Becomes i (record (own i) { state = Secondary })

  pub record Flush (i : ℕ) : Type 0 where
    pub point : OpTime
    pub there : Has point (own i).log
    pub later : AtMost (own i).durable point
    pub flushes : Becomes i (record (own i) { durable = point })

  pub record Restart (i : ℕ) : Type 0 where
    pub restarts : Becomes i (record (own i) {
      state = Secondary;
      log = log_up_to (own i).durable (own i).log;
    })

-- by name, at some server
abbrev pub Next : Name → History Variables → Variables → Type 0
Next names.BecomeLeader history new = (i : ℕ) × BecomeLeader history new i
Next names.ClientRequest history new = (i : ℕ) × ClientRequest history new i
Next names.GetEntries history new = (i : ℕ) × GetEntries history new i
Next names.RollbackEntries history new = (i : ℕ) × RollbackEntries history new i
Next names.CommitEntry history new = (i : ℕ) × CommitEntry history new i
Next names.UpdateTerms history new = (i : ℕ) × UpdateTerms history new i
Next names.SendConfig history new = (i : ℕ) × SendConfig history new i
Next names.Reconfig history new = (i : ℕ) × Reconfig history new i
Next names.AskForVotes history new = (i : ℕ) × AskForVotes history new i
Next names.Vote history new = (i : ℕ) × Vote history new i
Next names.StepDown history new = (i : ℕ) × StepDown history new i
Next names.Flush history new = (i : ℕ) × Flush history new i
Next names.Restart history new = (i : ℕ) × Restart history new i
