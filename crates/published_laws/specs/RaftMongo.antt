-- RaftMongo (MongoDB's published specification of its replication), from memory of the public text, with its
-- names.
--
-- What is otherwise here, each of it an action, a variable or a condition of its own:
-- 1. A server reads of another what that had at some moment (`seen`), since a message brings it. There it
--    reads what the other has.
-- 2. An election takes steps, since votes are messages: `AskForVotes`, `Vote`, and `BecomePrimaryByMagic`,
--    which does the rest. So there is `votedFor`, and a term may pass without a leader. There one step does
--    all.
-- 3. Servers restart, and lose what they haven't flushed: `durable`, `Flush`, `Restart`. A commit point is no
--    later than what is durable at a quorum, and at the server itself. There all is durable at once.
-- 4. A term that a server learns may be any higher one.
use Rattle.std.specs.Prelude.{◌≡◌, ◌⊎◌, ◌<◌, ◌≤◌, ◌+◌, ℕ, Bool, true, List, [], ◌∷◌, ◌++◌, Option, None, Some}
use Rattle.rs_optime.specs.Later.{earlier_of, later_of}
use Rattle.rs_optime.specs.Order.{AtMost, Before}
use Rattle.rs_optime.specs.declared.optime.OpTime.{OpTime}
use Rattle.oplog_entry.specs.Visible.{ZERO, last_of, log_up_to}
use Rattle.oplog_entry.specs.declared.entry.Entry.{Entry}
use Rattle.member_config.specs.Counting.{Most}
use Rattle.commit_machine.specs.Words.{Has}
use Rattle.published_laws.specs.Histories.{Had, History, Turned}
use Rattle.published_laws.specs.Oplog.{CanRollback, CanSyncFrom, LastTerm}
use Rattle.published_laws.specs.RaftMongoNames.{Name}
use Rattle.published_laws.specs.RaftMongoNames as names

pub data Role : Type 0 where
  Leader : Role
  Follower : Role

-- the variables of one server
pub record Server : Type 0 where
  pub currentTerm : ℕ
  pub state : Role
  pub log : List Entry
  pub commitPoint : OpTime
  -- not published
  pub votedFor : Option ℕ
  pub durable : OpTime

pub record Variables : Type 0 where
  pub servers : ℕ → Server

abbrev pub servers_of : Variables → ℕ → Server
servers_of variables = variables.servers

-- ---- the beginning

abbrev pub first_server : Server
first_server = record {
  currentTerm = 0;
  state = Follower;
  log = [];
  commitPoint = ZERO;
  votedFor = None;
  durable = ZERO;
}

abbrev pub Init : Variables
Init = record { servers = λ number. first_server }

-- ---- one server and another

-- in a term, a server may vote for one with this log
pub record CanVote (term : ℕ) (voter candidate : Server) : Type 0 where
  pub first : (voter.currentTerm < term) ⊎ ((voter.currentTerm ≡ term) × (voter.votedFor ≡ None))
  pub log : AtMost (last_of voter.log) (last_of candidate.log)

-- in a term, the server has the entry where no restart loses it
pub record HasAcknowledged (term : ℕ) (at : OpTime) (server : Server) : Type 0 where
  pub term_is : server.currentTerm ≡ term
  pub there : Has at server.log
  pub durable : AtMost at server.durable

-- in its term, the other's commit point is of the term of the server's last entry; or the other, of no higher
-- term, is one that it can sync from
abbrev pub CanLearnFrom : Server → Server → Type 0
CanLearnFrom server other =
    ((other.currentTerm ≡ server.currentTerm) × (other.commitPoint.term ≡ LastTerm server.log))
    ⊎ ((other.currentTerm ≤ server.currentTerm) × ((server.log ≡ []) ⊎ Has (last_of server.log) other.log))

-- ---- what a history tells

module _ (history : History Variables) where
  abbrev old : ℕ → Server
  old number = history.now.servers number

  -- the server was so at some moment
  abbrev pub WasSeen : ℕ → Server → Type 0
  WasSeen number seen = Had servers_of history number seen

  -- each of a quorum was so at some moment
  pub record IsOfQuorum (members : List ℕ) (P : Server → Type 0) : Type 0 where
    pub quorum : ℕ → Bool
    pub most : Most members quorum
    pub each : (v : ℕ) → quorum v ≡ true → (seen : Server) × WasSeen v seen × P seen

  -- v voted for i, in the term of i, as one that could vote for what i is now
  pub record GaveVote (i v : ℕ) : Type 0 where
    pub before : Server
    pub voted : Server
    pub turned : Turned servers_of history v before voted
    pub could : CanVote (old i).currentTerm before (old i)
    pub term : voted.currentTerm ≡ (old i).currentTerm
    pub for_it : voted.votedFor ≡ Some i

-- ---- the actions of these members, each from what was to the next state

module _ (members : List ℕ) (history : History Variables) (new : Variables) where
  abbrev own : ℕ → Server
  own number = history.now.servers number

  -- the server changed so, and no other did
  pub record Becomes (i : ℕ) (it : Server) : Type 0 where
    pub changed : new.servers i ≡ it
    pub others : (s : ℕ) → (s ≡ i → ⊥) → new.servers s ≡ own s

  pub record AppendOplog (i : ℕ) : Type 0 where
    pub j : ℕ
    pub seen : Server
    pub was_seen : WasSeen history j seen
    pub follower : (own i).state ≡ Follower
    pub entry : Entry
    pub can : CanSyncFrom (own i).log seen.log entry
    pub appends : Becomes i (record (own i) { log = (own i).log ++ entry ∷ [] })

  pub record RollbackOplog (i : ℕ) : Type 0 where
    pub j : ℕ
    pub seen : Server
    pub was_seen : WasSeen history j seen
    pub follower : (own i).state ≡ Follower
    pub front : List Entry
    pub can : CanRollback (own i).log seen.log front
    pub removes : Becomes i (record (own i) {
      log = front;
      durable = earlier_of (own i).durable (last_of front);
    })

  pub record BecomePrimaryByMagic (i : ℕ) : Type 0 where
    -- it has written nothing in this term yet
    pub first : (at : OpTime) → Has at (own i).log → at.term < (own i).currentTerm
    pub ayeVoters : ℕ → Bool
    pub most : Most members ayeVoters
    pub votes : (v : ℕ) → ayeVoters v ≡ true → GaveVote history i v
    pub leads : Becomes i (record (own i) { state = Leader })

  pub record ClientWrite (i : ℕ) : Type 0 where
    pub entry : Entry
    pub leader : (own i).state ≡ Leader
    pub term : entry.optime.term ≡ (own i).currentTerm
    pub writes : Becomes i (record (own i) { log = (own i).log ++ entry ∷ [] })

  pub record AdvanceCommitPoint (i : ℕ) : Type 0 where
    pub at : OpTime
    pub leader : (own i).state ≡ Leader
    pub there : Has at (own i).log
    pub term : at.term ≡ (own i).currentTerm
    pub acknowledgers : IsOfQuorum history members (HasAcknowledged (own i).currentTerm at)
    pub rises : Before (own i).commitPoint (earlier_of at (own i).durable)
    pub advances : Becomes i (record (own i) { commitPoint = earlier_of at (own i).durable })

  pub record LearnCommitPoint (i : ℕ) : Type 0 where
    pub j : ℕ
    pub seen : Server
    pub was_seen : WasSeen history j seen
    pub follower : (own i).state ≡ Follower
    pub can : CanLearnFrom (own i) seen
    pub learns : Becomes i (record (own i) {
      commitPoint = later_of (own i).commitPoint (earlier_of seen.commitPoint (own i).durable);
    })

  pub record UpdateTermThroughHeartbeat (i : ℕ) : Type 0 where
    pub term : ℕ
    pub higher : (own i).currentTerm < term
    pub takes : Becomes i (record (own i) { currentTerm = term; state = Follower; votedFor = None })

  pub record Stepdown (i : ℕ) : Type 0 where
    pub steps : Becomes i (record (own i) { state = Follower })

  -- ---- not published

  pub record AskForVotes (i : ℕ) : Type 0 where
    pub asks : Becomes i (record (own i) {
      currentTerm = (own i).currentTerm + 1;
      votedFor = Some i;
      state = Follower;
    })

  pub record Vote (i : ℕ) : Type 0 where
    pub j : ℕ
    pub seen : Server
    pub was_seen : WasSeen history j seen
    pub asked : seen.votedFor ≡ Some j
    pub can : CanVote seen.currentTerm (own i) seen
    pub votes : Becomes i (record (own i) {
      currentTerm = seen.currentTerm;
      votedFor = Some j;
      state = Follower;
    })

  pub record Flush (i : ℕ) : Type 0 where
    pub point : OpTime
    pub there : Has point (own i).log
    pub later : AtMost (own i).durable point
    pub flushes : Becomes i (record (own i) { durable = point })

  -- its commit point may be an earlier one, or none
  pub record Restart (i : ℕ) : Type 0 where
    pub commit : OpTime
    pub known : (commit ≡ ZERO)
        ⊎ (Has commit (log_up_to (own i).durable (own i).log) × AtMost commit (own i).commitPoint)
    pub restarts : Becomes i (record (own i) {
      state = Follower;
      log = log_up_to (own i).durable (own i).log;
      commitPoint = commit;
    })

-- by name, at some server
abbrev pub Next : List ℕ → Name → History Variables → Variables → Type 0
Next members names.AppendOplog history new = (i : ℕ) × AppendOplog members history new i
Next members names.RollbackOplog history new = (i : ℕ) × RollbackOplog members history new i
Next members names.BecomePrimaryByMagic history new = (i : ℕ) × BecomePrimaryByMagic members history new i
Next members names.ClientWrite history new = (i : ℕ) × ClientWrite members history new i
Next members names.AdvanceCommitPoint history new = (i : ℕ) × AdvanceCommitPoint members history new i
Next members names.LearnCommitPoint history new = (i : ℕ) × LearnCommitPoint members history new i
Next members names.UpdateTermThroughHeartbeat history new =
    (i : ℕ) × UpdateTermThroughHeartbeat members history new i
Next members names.Stepdown history new = (i : ℕ) × Stepdown members history new i
Next members names.AskForVotes history new = (i : ℕ) × AskForVotes members history new i
Next members names.Vote history new = (i : ℕ) × Vote members history new i
Next members names.Flush history new = (i : ℕ) × Flush members history new i
Next members names.Restart history new = (i : ℕ) × Restart members history new i
