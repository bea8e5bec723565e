-- What a script is.
--
-- Its lines are those of `str::lines`: a line feed ends a line, a carriage return right before it belongs to
-- that end, and the last line may have no end. They are counted from 1. There are at most 200,000, of at most
-- 1,048,576 bytes each without the end, and each is UTF-8. Empty lines, and lines whose first byte is `#`,
-- say nothing.
--
-- Single spaces separate words, so two spaces have an empty word between them. A line has as many words as
-- its form below has; words in brackets may be left out from the right. A DOC, the ID at the end of a line,
-- and a JSON go on to the line's end, with spaces of their own, and have at least one byte.
--
--     set NODES [VOTERS [MEMBERS]]   the first line that says something, and no other
--     insert N COLL DOC              replace N COLL ID DOC       update N COLL ID DOC      delete N COLL ID
--     retry N SID NUMBER insert COLL DOC          (or `replace`, `update`, `delete` with their words)
--     begin N W insert COLL DOC                   (or these, too)
--     commit N W                     abort N W                   ack N TARGET CONCERN
--     read N LEVEL COLL ID           dump N LEVEL                log N                     state N
--     campaign N                     dryrun N                    drain N                   stepdown N
--     heartbeat N N                  report N N                  common N N                fetch N
--     deliver M                      deliver N N                 rolled N                  apply N [WORKERS]
--     flush N                        checkpoint N                reconfig N JSON           crash N [PICK]
--     restart N                      diskfail N DISK CALL [PICK] clock N SECONDS
--     note N                         par                         thread                    end
--
-- A number is one or more decimal digits. N is `n` and the number of a node of the set, and two nodes on a
-- line differ; W is `w` and a number up to 999; M is `m` and a number of 64 bits. NODES is from 1 to 50,
-- VOTERS from 1 to the lesser of 7 and NODES, and MEMBERS from VOTERS to NODES: without MEMBERS only the
-- voters are members, and with NODES alone all nodes are members and as many vote as may. COLL is an ASCII
-- letter and up to 63 letters, digits, `_` and `.`. TARGET is W or TERM/SECONDS/INCREMENT, of 64, 32 and 32
-- bits. CONCERN is `majority` or 1 to 50; LEVEL is `local` or `majority`; DISK is `journal` or `checkpoint`;
-- WORKERS is 1 to 16, by default 4; PICK is of 64 bits, at `crash` by default 0; CALL is 1 to 1000; SECONDS
-- is below 2^31. ID is a value and DOC a document in the notation of documents; an ID that a DOC follows has
-- one space after it. JSON is a configuration. SID is a session, below 2^32, and NUMBER that of a write in
-- it, from 1 on and below 2^31.
--
-- `par` begins a block and `end` ends it. In between each `thread` begins one of at most 16 threads, and the
-- commands after it are that thread's.
--
-- The first faulty line is reported, with its first fault in this order: too many lines, too long, not UTF-8,
-- an unknown first word (of the first command: not `set`), the number of words, a first word that isn't
-- allowed there, and then the words from left to right. A missing `set` and an open block are faults of the
-- line after the last one.
use Rattle.std.specs.Prelude.{ℕ, ◌≡◌, ◌+◌, Bool, nat_lt, List, [], ◌∷◌, ◌++◌, length, Option, None, Some, Result, Ok, Err, if◌then◌else◌}
use Rattle.std.specs.List.{list_all, flat_map}
use Rattle.std.specs.Str.Lines.{lines}
use Rattle.bson_doc.specs.Bind.{◌>>=◌}
use Rattle.set_model.specs.declared.command.Command.{Command}
use Rattle.set_model.specs.Limits.{is_for}
use Rattle.set_model.specs.Run.{Sizes}
use Rattle.fault_script.specs.declared.reading.Reading.{Reading}
use Rattle.fault_script.specs.declared.fault.ScriptError.{ScriptError}
use Rattle.fault_script.specs.declared.fault.ScriptError.TheVariants.{Fault, Memory}
use Rattle.fault_script.specs.declared.fault.ScriptFault.{ScriptFault}
use Rattle.script_words.specs.declared.rule.ScriptRule.{ScriptRule}
use Rattle.script_words.specs.declared.rule.ScriptRule.TheVariants.{NoSetLine, NestedPar, StrayLine, TooManyThreads, OpenPar}
use Rattle.fault_script.specs.declared.script.Part.{Part}
use Rattle.fault_script.specs.declared.script.Part.TheVariants as parts
use Rattle.fault_script.specs.declared.script.Script.{Script}
use Rattle.script_words.specs.declared.set.SetLine.{SetLine}
use Rattle.script_words.specs.declared.verb.Keyword.{Keyword}
use Rattle.script_words.specs.declared.verb.Keyword.TheVariants as keywords
use Rattle.script_words.specs.Words.{Left}
use Rattle.script_words.specs.Set.{set_line}
use Rattle.script_words.specs.Commands.{keyword_at, words_at}
use Rattle.fault_script.specs.Lines.{text_of, is_passed_over}

-- the commands of a thread, each with the number of its line
abbrev pub Thread : Type 0
Thread = List (ℕ × Command)

-- one more command in the last thread
abbrev pub in_last : List Thread → ℕ × Command → List Thread
in_last [] line = []
in_last (own ∷ []) line = (own ++ line ∷ []) ∷ []
in_last (own ∷ next ∷ threads) line = own ∷ in_last (next ∷ threads) line

-- ---- what is known after some lines: the sizes of the set, the parts, and the threads of an open block

abbrev pub start : Reading
start = record { set = None; parts = []; block = None }

abbrev pub with_sizes : Reading → SetLine → Reading
with_sizes reading sizes = record { set = Some sizes; parts = reading.parts; block = reading.block }

abbrev pub with_part : Reading → Part → Reading
with_part reading part = record { set = reading.set; parts = reading.parts ++ part ∷ []; block = None }

abbrev pub with_block : Reading → List Thread → Reading
with_block reading threads = record { set = reading.set; parts = reading.parts; block = Some threads }

-- ---- what a line adds

abbrev pub begin_block : Reading → Option (List Thread) → Result Reading ScriptRule
begin_block reading None = Ok (with_block reading [])
begin_block reading (Some threads) = Err NestedPar

abbrev pub begin_thread : Reading → Option (List Thread) → Result Reading ScriptRule
begin_thread reading None = Err StrayLine
begin_thread reading (Some threads) =
    if nat_lt (length threads) 16 then Ok (with_block reading (threads ++ [] ∷ [])) else Err TooManyThreads

abbrev pub end_block : Reading → Option (List Thread) → Result Reading ScriptRule
end_block reading None = Err StrayLine
end_block reading (Some threads) = Ok (with_part reading (parts.Par threads))

-- a command outside a block is a part, and one inside it belongs to the last thread
abbrev pub add_command : ℕ → Reading → Option (List Thread) → Result Command ScriptRule
    → Result Reading ScriptRule
add_command number reading None read = read >>= λ command. Ok (with_part reading (parts.Line number command))
add_command number reading (Some []) read = Err StrayLine
add_command number reading (Some (thread ∷ threads)) read =
    read >>= λ command. Ok (with_block reading (in_last (thread ∷ threads) (number, command)))

abbrev pub with_keyword : ℕ → ℕ → Reading → Keyword × Left → Result Reading ScriptRule
with_keyword nodes number reading (keywords.Par, left) = begin_block reading reading.block
with_keyword nodes number reading (keywords.Thread, left) = begin_thread reading reading.block
with_keyword nodes number reading (keywords.End, left) = end_block reading reading.block
with_keyword nodes number reading (keywords.Command verb, left) =
    add_command number reading reading.block (words_at nodes verb left)

-- in a set of this size
unfoldable pub with_command : ℕ → ℕ → Reading → List ℕ → Result Reading ScriptRule
with_command nodes number reading text = do
  keyword ← keyword_at text
  with_keyword nodes number reading keyword

abbrev pub with_set : Reading → List ℕ → Result Reading ScriptRule
with_set reading text = set_line text >>= λ sizes. Ok (with_sizes reading sizes)

-- the first command is `set`
abbrev pub with_text : ℕ → Reading → List ℕ → Option SetLine → Result Reading ScriptRule
with_text number reading text None = with_set reading text
with_text number reading text (Some set) = with_command set.nodes number reading text

unfoldable pub with_line : ℕ → Reading → List ℕ → Result Reading ScriptRule
with_line number reading line = do
  text ← text_of number line
  if is_passed_over text then Ok reading else with_text number reading text reading.set

-- ---- the whole

abbrev pub faulty : {A : Type 0} → ℕ → ScriptRule → Result A ScriptFault
faulty number rule = Err (record { line = number; rule = rule })

-- after the last line there has been a `set` line, and no block is open; this is the number of the
-- line after it
abbrev pub whole : ℕ → Reading → Option SetLine → Option (List Thread) → Result Script ScriptFault
whole number reading None block = faulty number NoSetLine
whole number reading (Some set) (Some threads) = faulty number OpenPar
whole number reading (Some set) None =
    Ok (record { nodes = set.nodes; voters = set.voters; members = set.members; parts = reading.parts })

-- the later lines, if this one has no fault
abbrev pub and_then : {A : Type 0} → ℕ → Result Reading ScriptRule → (Reading → Result A ScriptFault)
    → Result A ScriptFault
and_then number (Err rule) later = faulty number rule
and_then number (Ok reading) later = later reading

-- the script after these lines, the first of which has this number, or the first faulty one with its rule
abbrev pub script_from : ℕ → Reading → List (List ℕ) → Result Script ScriptFault
script_from number reading [] = whole number reading reading.set reading.block
script_from number reading (line ∷ later) =
    and_then number (with_line number reading line) (λ next. script_from (number + 1) next later)

-- the script that these bytes are, or the first faulty line with its rule
unfoldable pub script : List ℕ → Result Script ScriptFault
script bytes = script_from 1 start (lines bytes)

-- ---- whose commands they are

-- each command of a part is one of a set of this size
abbrev pub is_part_for : ℕ → Part → Bool
is_part_for nodes (parts.Line number command) = is_for nodes command
is_part_for nodes (parts.Par threads) = list_all (list_all (λ line. is_for nodes line.1)) threads

-- the threads' commands, one thread after another
abbrev pub joined : List Thread → List (ℕ × Command)
joined threads = flat_map (λ (thread : Thread). thread) threads

-- the commands of a part, in the order of the script
abbrev pub lines_of : Part → List (ℕ × Command)
lines_of (parts.Line number command) = (number, command) ∷ []
lines_of (parts.Par threads) = joined threads

-- the same for several parts
abbrev pub lines_in : List Part → List (ℕ × Command)
lines_in parts = flat_map lines_of parts

-- the sizes of a script's set
abbrev pub sizes_of : Script → Sizes
sizes_of read = record { nodes = read.nodes; voters = read.voters; members = read.members }

-- ---- why nothing was read

abbrev pub Stops : {A : Type 0} → Result A ScriptFault → ScriptError → Type 0
Stops read (Fault fault) = read ≡ Err fault
Stops read Memory = Unit {0}

abbrev pub IsCause : List ℕ → ScriptError → Type 0
IsCause bytes error = Stops (script bytes) error

-- this line has that fault
abbrev pub StopsLine : ℕ → Result Reading ScriptRule → ScriptError → Type 0
StopsLine number read error = Stops (and_then number read (λ next. Ok next)) error
