-- How a trace is read: which lines are a header, and which an event.
--
-- Single spaces separate words, as in a script, and a number is one or more decimal digits. Only a line feed
-- ends a line. A header and a reply have one; an event's line at the end of the bytes is read without one,
-- and then has no reply.
use Rattle.std.specs.Prelude.{ℕ, Bool, ◌==◌, List, Option, None, Some, codes, Result, Ok, Err, if◌then◌else◌}
use Rattle.std.specs.List.{before_first, after_first, list_any}
use Rattle.std.specs.Str.{bytes_eq, is_utf8}
use Rattle.bson_doc.specs.Bind.{◌>>=◌}
use Rattle.set_model.specs.declared.command.Event.{Event}
use Rattle.script_words.specs.declared.rule.ScriptRule.{ScriptRule}
use Rattle.script_words.specs.declared.rule.ScriptRule.TheVariants.{BadNumber, BadWord, NotUtf8, UnknownCommand}
use Rattle.script_words.specs.Commands.{command_at}
use Rattle.script_words.specs.Values.{text_at}
use Rattle.script_words.specs.Set.{most_voters}
use Rattle.script_words.specs.Words.{Left, Read, ended, number_at, number_of, word_at}

-- ---- lines

abbrev pub is_line_feed : ℕ → Bool
is_line_feed byte = byte == 10

-- the first line, without its end
abbrev pub line_at : List ℕ → List ℕ
line_at bytes = before_first is_line_feed bytes

-- what follows the first line's end, if it has one
abbrev pub after_line : List ℕ → Left
after_line bytes = if list_any is_line_feed bytes then Some (after_first is_line_feed bytes) else None

-- the text of a line, which is UTF-8
abbrev pub text_of : List ℕ → Result (List ℕ) ScriptRule
text_of line = if is_utf8 line then Ok line else Err NotUtf8

-- what is left after this first word
abbrev pub without_first : List ℕ → List ℕ × Left → Result Left ScriptRule
without_first name first = if bytes_eq first.0 name then Ok first.1 else Err UnknownCommand

-- ---- the header

-- `trace`, then 1 to 50 nodes, up to seven of them with a vote, and as many members as these, up to all
-- nodes.
unfoldable pub header_at : List ℕ → Result (ℕ × ℕ × ℕ) ScriptRule
header_at text = do
  first ← word_at (Some text)
  left ← without_first (codes "trace") first
  nodes ← number_at 1 50 left
  voters ← number_at 1 (most_voters nodes.0) nodes.1
  members ← number_at voters.0 nodes.0 voters.1
  ended members.1 (nodes.0, voters.0, members.0)

-- the sizes of the header that a line is
unfoldable pub header_of : List ℕ → Result (ℕ × ℕ × ℕ) ScriptRule
header_of line = do
  text ← text_of line
  header_at text

abbrev pub sizes_in : Result (ℕ × ℕ × ℕ) ScriptRule → Option (ℕ × ℕ × ℕ)
sizes_in (Ok sizes) = Some sizes
sizes_in (Err rule) = None

abbrev pub with_rest : Option (ℕ × ℕ × ℕ) → Left → Option ((ℕ × ℕ × ℕ) × List ℕ)
with_rest (Some sizes) (Some rest) = Some (sizes, rest)
with_rest (Some sizes) None = None
with_rest None left = None

-- the sizes that a trace's header names, and what follows the header
abbrev pub header_in : List ℕ → Option ((ℕ × ℕ × ℕ) × List ℕ)
header_in bytes = with_rest (sizes_in (header_of (line_at bytes))) (after_line bytes)

-- ---- an event

-- `-`, or a store's number
abbrev pub failed_of : List ℕ → Result (Option ℕ) ScriptRule
failed_of word =
    if bytes_eq word (codes "-") then Ok None
    else (number_of BadWord BadNumber 0 4294967295 word >>= λ store. Ok (Some store))

unfoldable pub failed_at : Left → Read (Option ℕ)
failed_at left = do
  word ← word_at left
  failed ← failed_of word.0
  Ok (failed, word.1)

-- `event`, the line, what failed and whether it was kept, and then a command of a set of this size
unfoldable pub event_at : ℕ → List ℕ → Result Event ScriptRule
event_at nodes text = do
  first ← word_at (Some text)
  left ← without_first (codes "event") first
  line ← number_at 0 4294967295 left
  failed ← failed_at line.1
  kept ← number_at 0 1 failed.1
  words ← text_at kept.1
  command ← command_at nodes words
  Ok (record { command = command; line = line.0; failed = failed.0; kept = kept.0 == 1 })

-- the event that a line is
unfoldable pub event_in : ℕ → List ℕ → Result Event ScriptRule
event_in nodes line = do
  text ← text_of line
  event_at nodes text
