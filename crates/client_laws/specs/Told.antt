-- What a client is told about its session's writes (MongoDB manual, retryable writes).
use Rattle.std.specs.Prelude.{◌≡◌, ◌<◌, ◌≤◌, ◌⊎◌, ℕ, suc, true, List, Some}
use Rattle.rs_optime.specs.Membership.{In}
use Rattle.rs_optime.specs.declared.optime.OpTime.{OpTime}
use Rattle.doc_update.specs.declared.write.WriteOp.{WriteOp}
use Rattle.oplog_entry.specs.declared.entry.Entry.{Entry}
use Rattle.oplog_entry.specs.declared.entry.Session.{Session}
use Rattle.set_model.specs.declared.command.Command.TheVariants as commands
use Rattle.set_model.specs.declared.command.Event.{Event}
use Rattle.set_model.specs.declared.reply.Refusal.TheVariants.{OldNumber}
use Rattle.set_model.specs.declared.reply.Reply.{Reply}
use Rattle.set_model.specs.declared.reply.Reply.TheVariants as reply
use Rattle.set_model.specs.declared.role.Role.TheVariants.{Primary}
use Rattle.set_model.specs.Node.{Node}
use Rattle.set_model.specs.Run.{Sizes}
use Rattle.set_model.specs.Safety.{Answers, IsAt}
use Rattle.set_model.specs.Sessions.{is_write}
use Rattle.linear_read.specs.Linear.{IsConfirmed}
use Rattle.linear_read.specs.Written.{WasWritten}
use Rattle.client_laws.specs.Acknowledged.{IsAcked, WasAcknowledged}

module _ (sizes : Sizes) (events : List Event) where
  -- this entry is the session's write, and its optime was acknowledged at majority
  pub record IsAckedWrite (session : Session) (entry : Entry) : Type 0 where
    pub session_is : entry.session ≡ Some session
    pub place : ℕ
    pub number : ℕ
    pub node : Node
    pub acked : IsAcked sizes events place number entry.optime node
    pub there : In entry node.log

  -- a primary of a later term, at any place, or of the entry's term after the entry was written
  pub record IsPrimarySince (entry : Entry) (place number : ℕ) (node : Node) : Type 0 where
    pub node_at : IsAt sizes events place number node
    pub role : node.role ≡ Primary
    pub since : (entry.optime.term < node.term)
        ⊎ ((entry.optime.term ≡ node.term) × WasWritten sizes events place entry)

  -- the event after a place retries a session's write at such a primary, with this reply
  pub record IsRetried (session : Session) (entry : Entry) (answer : Reply) : Type 0 where
    pub place : ℕ
    pub number : ℕ
    pub node : Node
    pub by : IsPrimarySince entry place number node
    pub event : Event
    pub own : ℕ
    pub op : WriteOp
    pub command_is : event.command ≡ commands.Retry own session op
    pub answers : Answers sizes events place number event answer

  -- the session moved on: it has a write of this number, or of a greater one
  abbrev pub IsTooOld : ℕ → Reply → Type 0
  IsTooOld number answer = (last : ℕ) × (number ≤ last) × (answer ≡ reply.Refused (OldNumber last))

  -- Where a session's write was acknowledged, a retry of it is told its optime, or that the session moved on.
  abbrev pub RetriesAreTold : Type 0
  RetriesAreTold =
      (session : Session) (entry : Entry) (answer : Reply) → IsAckedWrite session entry
      → IsRetried session entry answer
      → (answer ≡ reply.Written entry.optime) ⊎ IsTooOld (suc session.number) answer

  -- Where a greater number of the session was acknowledged, a retry is told that the session moved on.
  abbrev pub GreaterNumbersAreTold : Type 0
  GreaterNumbersAreTold =
      (session greater : Session) (entry : Entry) (answer : Reply) → greater.id ≡ session.id
      → session.number < greater.number → IsAckedWrite greater entry → IsRetried session entry answer
      → IsTooOld greater.number answer

  -- A write of a session is acknowledged at one optime at most.
  abbrev pub WritesAreAcknowledgedOnce : Type 0
  WritesAreAcknowledgedOnce =
      (session : Session) (one two : Entry) → one.session ≡ Some session → two.session ≡ Some session
      → WasAcknowledged sizes events one → WasAcknowledged sizes events two → one ≡ two

  -- Where a node tells a retry an optime, and its log just after it is confirmed, the write at that optime is
  -- an acknowledged one.
  abbrev pub ConfirmedRetriesAreAcknowledged : Type 0
  ConfirmedRetriesAreAcknowledged =
      (place number own : ℕ) (event : Event) (session : Session) (op : WriteOp) (at : OpTime) (node : Node)
      → Answers sizes events place number event (reply.Written at)
      → event.command ≡ commands.Retry own session op
      → IsConfirmed sizes events (suc place) number node
      → (entry : Entry) × (entry.optime ≡ at) × (is_write session entry ≡ true)
      × WasAcknowledged sizes events entry
