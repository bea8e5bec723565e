-- What a trace is: a run, printed so that it can be played again.
--
--     trace NODES VOTERS MEMBERS          the sizes of the set
--     event LINE FAILED KEPT COMMAND      an event, and after it
--     LINE: ..                            the text of its reply
--
-- LINE is the number of the event's line. FAILED is the number of the store that failed in it, or `-`. KEPT
-- is 1 if a restart found what was being stored when a disk failed, and otherwise 0.
use Rattle.std.specs.Prelude.{◌≡◌, ◌<◌, ◌^◌, ℕ, Bool, true, false, List, ◌++◌, Option, None, Some, IfSome, codes}
use Rattle.std.specs.Fmt.{decimal}
use Rattle.std.specs.List.{flat_map, zip}
use Rattle.std.specs.Str.{is_utf8}
use Rattle.set_model.specs.declared.command.Event.{Event}
use Rattle.set_model.specs.declared.reply.Reply.{Reply}
use Rattle.transcript.specs.Replies.{line_text}
use Rattle.run_checker.specs.Commands.{command_text}

-- how many nodes a set has, how many of its members vote, and how many members there are
abbrev pub header_text : ℕ × ℕ × ℕ → List ℕ
header_text sizes =
    codes "trace " ++ decimal sizes.0 ++ codes " " ++ decimal sizes.1 ++ codes " " ++ decimal sizes.2
    ++ codes "\n"

abbrev pub failed_word : Option ℕ → List ℕ
failed_word None = codes "-"
failed_word (Some store) = decimal store

abbrev pub kept_word : Bool → List ℕ
kept_word true = codes "1"
kept_word false = codes "0"

-- the words of an event's line
abbrev pub event_words : Event → List ℕ
event_words event =
    codes "event " ++ decimal event.line ++ codes " " ++ failed_word event.failed ++ codes " "
    ++ kept_word event.kept ++ codes " " ++ command_text event.command

abbrev pub event_text : Event → List ℕ
event_text event = event_words event ++ codes "\n"

-- its numbers are below 2^32, and its words are UTF-8
pub record IsPlain (event : Event) : Type 0 where
  pub line : event.line < 2 ^ 32
  pub failed : IfSome event.failed (λ store. store < 2 ^ 32)
  pub utf8 : is_utf8 (event_words event) ≡ true

-- an event, and its reply
abbrev pub entry_text : Event × Reply → List ℕ
entry_text (event, reply) = event_text event ++ line_text (event.line, reply)

abbrev pub entries_text : List Event → List Reply → List ℕ
entries_text events replies = flat_map entry_text (zip events replies)

-- the trace of a set of these sizes that did these events and gave these replies
abbrev pub trace_text : ℕ × ℕ × ℕ → List Event → List Reply → List ℕ
trace_text sizes events replies = header_text sizes ++ entries_text events replies
