-- What a linear read asks, in five points, and what it answers.
use Rattle.std.specs.Prelude.{ℕ, zero, suc, ◌+◌, ◌==◌, Bool, true, false, not, ◌&&◌, List, Option, None, Some, Result, Ok, Err, if◌then◌else◌, is_some}
use Rattle.bson_doc.specs.declared.doc.Value.{Value}
use Rattle.rs_optime.specs.Order.{is_before}
use Rattle.rs_optime.specs.declared.optime.OpTime.{OpTime}
use Rattle.set_model.specs.declared.command.AckConcern.TheVariants as concerns
use Rattle.set_model.specs.declared.command.Command.{Command}
use Rattle.set_model.specs.declared.command.Command.TheVariants as commands
use Rattle.set_model.specs.declared.command.ReadLevel.TheVariants as levels
use Rattle.set_model.specs.declared.command.Target.TheVariants as targets
use Rattle.set_model.specs.declared.reply.Refusal.{Refusal}
use Rattle.set_model.specs.declared.reply.Refusal.TheVariants.{NotPrimary, SteppedDown}
use Rattle.set_model.specs.declared.reply.Reply.{Reply}
use Rattle.set_model.specs.declared.reply.Reply.TheVariants as reply
use Rattle.set_model.specs.declared.role.Role.TheVariants.{Primary}
use Rattle.linear_read.specs.declared.answer.LinearAnswer.{LinearAnswer}
use Rattle.linear_read.specs.declared.answer.LinearAnswer.TheVariants.{Found, Missing, Refused}
use Rattle.linear_read.specs.Talk.{Talk, tells, asks, and_then}

-- ---- 1. the node's state: its term, where it is primary

abbrev pub term_shown : Reply → Result ℕ Refusal
term_shown (reply.State Primary term vote last durable applied commit config rollback) = Ok term
term_shown (reply.Refused why) = Err why
term_shown _ = Err NotPrimary

-- ---- 2. a local read, and a note in the same term

abbrev pub document_shown : Reply → Result LinearAnswer Refusal
document_shown (reply.Found document) = Ok (Found document)
document_shown (reply.Refused why) = Err why
document_shown _ = Ok Missing

abbrev pub note_written : ℕ → Reply → Result OpTime Refusal
note_written term (reply.Written at) = if at.term == term then Ok at else Err (SteppedDown term)
note_written term (reply.Refused why) = Err why
note_written term _ = Err (SteppedDown term)

-- ---- 3. the node's log is flushed

abbrev pub is_flushed : Reply → Bool
is_flushed (reply.Flushed count point) = true
is_flushed _ = false

-- at most this many times, while there is something to flush
abbrev pub flushes : ℕ → ℕ → Talk (Unit {0})
flushes node zero = tells tt
flushes node (suc more) =
    asks (commands.Flush node) (λ told. if is_flushed told then flushes node more else tells tt)

-- ---- 4. each other node gets the log, and reports

-- the message that a command sent
abbrev pub message_sent : Reply → Option ℕ
message_sent (reply.Sent message) = Some message
message_sent (reply.SentTo message source) = Some message
message_sent (reply.Replied message) = Some message
message_sent _ = None

-- the message that answers a delivery
abbrev pub message_replied : Option Reply → Option ℕ
message_replied (Some told) = message_sent told
message_replied None = None

-- delivers a message, if one was sent
abbrev pub delivers : Option ℕ → Talk (Option Reply)
delivers None = tells None
delivers (Some message) = asks (commands.Deliver message) (λ told. tells (Some told))

-- a command, and the delivery of what it sent
abbrev pub carries : Command → Talk (Option Reply)
carries command = asks command (λ told. delivers (message_sent told))

-- entries were taken, and the last one is before the optime
abbrev pub took_some : OpTime → Option Reply → Bool
took_some at (Some (reply.Took count last)) = not (count == 0) && is_before last at
took_some at _ = false

-- One round: the other node hears of this one, fetches from its source, and flushes. Another round is
-- worthwhile if each command before the flushes got what it asked for, and there is more to fetch.
abbrev pub round : ℕ → ℕ → OpTime → Talk Bool
round node other at =
    and_then (carries (commands.Heartbeat node other)) (λ heard.
    and_then (carries (commands.Fetch other)) (λ found.
    and_then (delivers (message_replied found)) (λ taken.
    and_then (flushes other 3) (λ done.
    tells (is_some (message_replied heard) && took_some at taken)))))

-- at most this many rounds, while another one is worthwhile
abbrev pub rounds : ℕ → ℕ → OpTime → ℕ → Talk (Unit {0})
rounds node other at zero = tells tt
rounds node other at (suc more) =
    and_then (round node other at) (λ goes_on. if goes_on then rounds node other at more else tells tt)

-- another node does its rounds, and reports how far it is durable
abbrev pub told : ℕ → ℕ → OpTime → Talk (Unit {0})
told node other at =
    if other == node then tells tt
    else and_then (rounds node other at 50) (λ done.
    and_then (carries (commands.Report other node)) (λ counted. tells tt))

-- this many nodes, from this one on
abbrev pub others_told : ℕ → OpTime → ℕ → ℕ → Talk (Unit {0})
others_told node at other zero = tells tt
others_told node at other (suc more) =
    and_then (told node other at) (λ done. others_told node at (other + 1) more)

-- ---- 5. a majority acknowledges the note, or it is refused

abbrev pub refusal_of : Reply → Option Refusal
refusal_of (reply.Refused why) = Some why
refusal_of _ = None

-- points 3 to 5
abbrev pub acknowledges : ℕ → ℕ → OpTime → Talk (Option Refusal)
acknowledges node nodes at =
    and_then (flushes node 200) (λ flushed. and_then (others_told node at 0 nodes) (λ done.
    asks (commands.Ack node (targets.At at) concerns.Majority) (λ told. tells (refusal_of told))))

-- ---- the five points

-- after the read: why no note of this term was written, or what follows if one was
abbrev pub unless_noted : Result OpTime Refusal → (OpTime → Talk (Option Refusal)) → Talk (Option Refusal)
unless_noted (Err why) next = tells (Some why)
unless_noted (Ok at) next = next at

abbrev pub confirms : ℕ → ℕ → ℕ → Talk (Option Refusal)
confirms node nodes term =
    asks (commands.Note node) (λ note. unless_noted (note_written term note) (acknowledges node nodes))

-- a refusal becomes the answer
abbrev pub unless_refused : {A : Type 0} → Result A Refusal → (A → Talk LinearAnswer)
    → Talk LinearAnswer
unless_refused (Err why) next = tells (Refused why)
unless_refused (Ok found) next = next found

abbrev pub answer_of : LinearAnswer → Option Refusal → LinearAnswer
answer_of shown None = shown
answer_of shown (Some why) = Refused why

-- what a primary of a term is asked, the read first
abbrev pub in_term : ℕ → ℕ → Command → ℕ → Talk LinearAnswer
in_term node nodes read term =
    asks read (λ found. unless_refused (document_shown found) (λ shown.
    and_then (confirms node nodes term) (λ refused. tells (answer_of shown refused))))

abbrev pub linear : ℕ → ℕ → List ℕ → Value → Talk LinearAnswer
linear node nodes collection id =
    asks (commands.State node) (λ state. unless_refused (term_shown state) (λ term.
    in_term node nodes (commands.Read node levels.Local collection id) term))
