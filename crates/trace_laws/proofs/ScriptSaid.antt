-- Each command of a script that is read can be said.
use Rattle.std.proofs.Common.{◌≡◌, ℕ, ◌+◌, List, [], ◌∷◌, ◌++◌, length, Option, None, Some, Result, Ok, Err, refl, sym, subst}
use Rattle.std.specs.Prelude.{nat_lt}
use Rattle.std.specs.Str.Lines.{lines}
use Rattle.std.proofs.lemmas.List.Concat.{flat_map-append}
use Rattle.bson_doc.proofs.BindLemmas.{Gets, bind_gets, cond_gets}
use Rattle.fault_script.specs.declared.fault.ScriptFault.{ScriptFault}
use Rattle.fault_script.specs.declared.reading.Reading.{Reading}
use Rattle.fault_script.specs.declared.script.Part.{Part}
use Rattle.fault_script.specs.declared.script.Part.TheVariants as parts
use Rattle.fault_script.specs.declared.script.Script.{Script}
use Rattle.fault_script.specs.Lines.{is_passed_over, text_of}
use Rattle.fault_script.specs.Script.{Thread, add_command, and_then, begin_block, begin_thread, end_block, in_last, joined, lines_in, lines_of, script, script_from, start, whole, with_block, with_command, with_keyword, with_line, with_part, with_set, with_text}
use Rattle.script_words.specs.declared.rule.ScriptRule.{ScriptRule}
use Rattle.script_words.specs.declared.rule.ScriptRule.TheVariants.{TooManyThreads}
use Rattle.script_words.specs.declared.set.SetLine.{SetLine}
use Rattle.script_words.specs.declared.verb.Keyword.{Keyword}
use Rattle.script_words.specs.declared.verb.Keyword.TheVariants as keywords
use Rattle.script_words.specs.Commands.{keyword_at, words_at}
use Rattle.script_words.specs.Set.{set_line}
use Rattle.script_words.specs.Words.{Left}
use Rattle.script_words.proofs.Gets.{bind_any, tested}
use Rattle.set_model.specs.declared.command.Command.{Command}
use Rattle.trace_laws.specs.Said.{AreSaid, CanBeSaid}
use Rattle.trace_laws.proofs.CommandsSaid.{words_said}

-- ---- lists of lines

pub said_both : (nodes : ℕ) (first later : List (ℕ × Command)) → AreSaid nodes first → AreSaid nodes later → AreSaid nodes (first ++ later)
said_both nodes [] later one other = other
said_both nodes (line ∷ first) later one other = (one.0, said_both nodes first later one.1 other)

pub said_first : (nodes : ℕ) (first later : List (ℕ × Command)) → AreSaid nodes (first ++ later) → AreSaid nodes first
said_first nodes [] later all = tt
said_first nodes (line ∷ first) later all = (all.0, said_first nodes first later all.1)

pub said_later : (nodes : ℕ) (first later : List (ℕ × Command)) → AreSaid nodes (first ++ later) → AreSaid nodes later
said_later nodes [] later all = all
said_later nodes (line ∷ first) later all = said_later nodes first later all.1

part_more : (nodes : ℕ) (before : List Part) (part : Part) → AreSaid nodes (lines_in before) → AreSaid nodes (lines_of part) → AreSaid nodes (lines_in (before ++ part ∷ []))
part_more nodes before part all one =
    subst (AreSaid nodes) (sym (flat_map-append lines_of before (part ∷ []))) (said_both nodes (lines_in before) (lines_of part ++ []) all (said_both nodes (lines_of part) [] one tt))

thread_more : (nodes : ℕ) (threads : List Thread) → AreSaid nodes (joined threads) → AreSaid nodes (joined (threads ++ [] ∷ []))
thread_more nodes threads all =
    subst (AreSaid nodes) (sym (flat_map-append (λ (thread : Thread). thread) threads ([] ∷ []))) (said_both nodes (joined threads) [] all tt)

last_said : (nodes : ℕ) (threads : List Thread) (line : ℕ × Command) → AreSaid nodes (joined threads) → CanBeSaid nodes line.1 → AreSaid nodes (joined (in_last threads line))
last_said nodes [] line all one = tt
last_said nodes (own ∷ []) line all one = said_both nodes (own ++ line ∷ []) [] (said_both nodes own (line ∷ []) (said_first nodes own [] all) (one, tt)) tt
last_said nodes (own ∷ next ∷ threads) line all one =
    said_both nodes own (joined (in_last (next ∷ threads) line)) (said_first nodes own (joined (next ∷ threads)) all) (last_said nodes (next ∷ threads) line (said_later nodes own (joined (next ∷ threads)) all) one)

-- ---- one line, after the `set` line

abbrev threads_in : Option (List Thread) → List Thread
threads_in None = []
threads_in (Some threads) = threads

-- after the `set` line all commands can be said, and before it there is none
abbrev SaidAfter : Option SetLine → List Part → Option (List Thread) → Type 0
SaidAfter None before block = (before ≡ []) × (block ≡ None)
SaidAfter (Some set) before block = AreSaid set.nodes (lines_in before) × AreSaid set.nodes (joined (threads_in block))

abbrev IsSaid : Reading → Type 0
IsSaid reading = SaidAfter reading.set reading.parts reading.block

-- what was read after this `set` line
module _ (set : SetLine) (reading : Reading) (known : reading.set ≡ Some set) (all : AreSaid set.nodes (lines_in reading.parts)) where
  said_as : (ps : List Part) (block : Option (List Thread)) → AreSaid set.nodes (lines_in ps) → AreSaid set.nodes (joined (threads_in block)) → SaidAfter reading.set ps block
  said_as ps block one two = subst (λ (o : Option SetLine). SaidAfter o ps block) (sym known) (one, two)

  part_said : (part : Part) → AreSaid set.nodes (lines_of part) → IsSaid (with_part reading part)
  part_said part one = said_as (reading.parts ++ part ∷ []) None (part_more set.nodes reading.parts part all one) tt

  block_said : (threads : List Thread) → AreSaid set.nodes (joined threads) → IsSaid (with_block reading threads)
  block_said threads one = said_as reading.parts (Some threads) all one

  begin_block_said : (block : Option (List Thread)) → Gets (begin_block reading block) IsSaid
  begin_block_said None = block_said [] tt
  begin_block_said (Some threads) = tt

  begin_thread_said : (block : Option (List Thread)) → AreSaid set.nodes (joined (threads_in block)) → Gets (begin_thread reading block) IsSaid
  begin_thread_said None open_said = tt
  begin_thread_said (Some threads) open_said =
      tested (nat_lt (length threads) 16) _ TooManyThreads IsSaid (λ few. block_said (threads ++ [] ∷ []) (thread_more set.nodes threads open_said))

  end_block_said : (block : Option (List Thread)) → AreSaid set.nodes (joined (threads_in block)) → Gets (end_block reading block) IsSaid
  end_block_said None open_said = tt
  end_block_said (Some threads) open_said = part_said (parts.Par threads) open_said

  command_said : (number : ℕ) (block : Option (List Thread)) (read : Result Command ScriptRule) → AreSaid set.nodes (joined (threads_in block)) → Gets read (CanBeSaid set.nodes) → Gets (add_command number reading block read) IsSaid
  command_said number None read open_said one = bind_gets read _ (CanBeSaid set.nodes) IsSaid one (λ command can. part_said (parts.Line number command) (can, tt))
  command_said number (Some []) read open_said one = tt
  command_said number (Some (thread ∷ threads)) read open_said one =
      bind_gets read _ (CanBeSaid set.nodes) IsSaid one (λ command can. block_said (in_last (thread ∷ threads) (number, command)) (last_said set.nodes (thread ∷ threads) (number, command) open_said can))

  keyword_said : (number : ℕ) (keyword : Keyword) (left : Left) → AreSaid set.nodes (joined (threads_in reading.block)) → Gets (with_keyword set.nodes number reading (keyword, left)) IsSaid
  keyword_said number keywords.Par left open_said = begin_block_said reading.block
  keyword_said number keywords.Thread left open_said = begin_thread_said reading.block open_said
  keyword_said number keywords.End left open_said = end_block_said reading.block open_said
  keyword_said number (keywords.Command verb) left open_said = command_said number reading.block (words_at set.nodes verb left) open_said (words_said set.nodes verb left)

-- ---- any line

set_said : (reading : Reading) (text : List ℕ) → reading.parts ≡ [] → reading.block ≡ None → Gets (with_set reading text) IsSaid
set_said reading text none closed = bind_any (set_line text) _ IsSaid (λ set. (rw none tt, rw closed tt))

text_said : (number : ℕ) (reading : Reading) (text : List ℕ) (set : Option SetLine) → reading.set ≡ set → SaidAfter set reading.parts reading.block → Gets (with_text number reading text set) IsSaid
unfolding with_command
text_said number reading text None is said = set_said reading text said.0 said.1
text_said number reading text (Some set) is said = bind_any (keyword_at text) _ IsSaid (λ keyword. keyword_said set reading is said.0 number keyword.0 keyword.1 said.1)

line_said : (number : ℕ) (reading : Reading) (line : List ℕ) → IsSaid reading → Gets (with_line number reading line) IsSaid
unfolding with_line
line_said number reading line said =
    bind_any (text_of number line) _ IsSaid (λ text. cond_gets (is_passed_over text) _ _ IsSaid (λ passed. said) (λ other. text_said number reading text reading.set refl said))

-- ---- the whole

-- a fact of a script, if there is one
abbrev Becomes : Result Script ScriptFault → Type 0
Becomes (Ok read) = AreSaid read.nodes (lines_in read.parts)
Becomes (Err fault) = Unit {0}

whole_said : (number : ℕ) (reading : Reading) (set : Option SetLine) (block : Option (List Thread)) → SaidAfter set reading.parts block → Becomes (whole number reading set block)
whole_said number reading None block said = tt
whole_said number reading (Some set) (Some threads) said = tt
whole_said number reading (Some set) None said = said.0

then_said : (number : ℕ) (read : Result Reading ScriptRule) (later : Reading → Result Script ScriptFault) → Gets read IsSaid → ((next : Reading) → IsSaid next → Becomes (later next)) → Becomes (and_then number read later)
then_said number (Ok next) later said each = each next said
then_said number (Err rule) later said each = tt

lines_said : (later : List (List ℕ)) (number : ℕ) (reading : Reading) → IsSaid reading → Becomes (script_from number reading later)
lines_said [] number reading said = whole_said number reading reading.set reading.block said
lines_said (line ∷ later) number reading said = then_said number (with_line number reading line) _ (line_said number reading line said) (λ next ours. lines_said later (number + 1) next ours)

pub script_said : (bytes : List ℕ) (read : Script) → script bytes ≡ Ok read → AreSaid read.nodes (lines_in read.parts)
unfolding script
script_said bytes read is = told (script bytes) is (lines_said (lines bytes) 1 start (refl, refl))
  where
    told : (r : Result Script ScriptFault) → r ≡ Ok read → Becomes r → AreSaid read.nodes (lines_in read.parts)
    told r same holds = rw same at holds
