-- A script has no more commands than lines.
use Rattle.std.proofs.Common.{◌≡◌, ℕ, ◌+◌, ◌≤◌, List, [], ◌∷◌, ◌++◌, length, length-append, Option, None, Some, Result, Ok, Err, refl, ap, arith, ◌∙◌}
use Rattle.std.specs.Prelude.{nat_lt}
use Rattle.std.specs.Str.Lines.{lines}
use Rattle.std.proofs.lemmas.List.{append-nil}
use Rattle.std.proofs.lemmas.List.Concat.{flat_map-append}
use Rattle.set_model.specs.declared.command.Command.{Command}
use Rattle.fault_script.specs.declared.reading.Reading.{Reading}
use Rattle.fault_script.specs.declared.fault.ScriptFault.{ScriptFault}
use Rattle.script_words.specs.declared.rule.ScriptRule.{ScriptRule}
use Rattle.script_words.specs.declared.rule.ScriptRule.TheVariants.{TooManyThreads}
use Rattle.fault_script.specs.declared.script.Part.{Part}
use Rattle.fault_script.specs.declared.script.Part.TheVariants as parts
use Rattle.fault_script.specs.declared.script.Script.{Script}
use Rattle.script_words.specs.declared.set.SetLine.{SetLine}
use Rattle.script_words.specs.declared.verb.Keyword.{Keyword}
use Rattle.script_words.specs.declared.verb.Keyword.TheVariants as keywords
use Rattle.script_words.specs.Words.{Left}
use Rattle.script_words.specs.Set.{set_line}
use Rattle.fault_script.specs.Lines.{text_of, is_passed_over}
use Rattle.script_words.specs.Commands.{keyword_at, words_at}
use Rattle.fault_script.specs.Script.{Thread, in_last, start, begin_block, begin_thread, end_block, add_command, with_keyword, with_command, with_text, with_line, whole, and_then, script_from, script, lines_of, lines_in}
use Rattle.bson_doc.proofs.BindLemmas.{Gets, cond_gets}
use Rattle.script_words.proofs.Gets.{bind_any, tested}
use Rattle.fault_script.proofs.WholeRead.{counted}

-- ---- how many commands there are

abbrev of_threads : List Thread → ℕ
of_threads threads = length (lines_of (parts.Par threads))

abbrev of_block : Option (List Thread) → ℕ
of_block None = 0
of_block (Some threads) = of_threads threads

abbrev count : List Part → Option (List Thread) → ℕ
count parts block = length (lines_in parts) + of_block block

part_more : (ps : List Part) (part : Part) → length (lines_in (ps ++ part ∷ [])) ≡ length (lines_in ps) + length (lines_of part)
part_more ps part =
    ap (λ (xs : List (ℕ × Command)). length xs) (flat_map-append lines_of ps (part ∷ []))
    ∙ length-append (lines_in ps) (lines_of part ++ [])
    ∙ ap (λ (xs : List (ℕ × Command)). length (lines_in ps) + length xs) (append-nil (lines_of part))

thread_more : (threads : List Thread) → of_threads (threads ++ [] ∷ []) ≡ of_threads threads
thread_more threads =
    ap (λ (xs : List (ℕ × Command)). length xs) (flat_map-append (λ (thread : Thread). thread) threads ([] ∷ []) ∙ append-nil (lines_of (parts.Par threads)))

line_more : (threads : List Thread) (line : ℕ × Command) → of_threads (in_last threads line) ≤ of_threads threads + 1
line_more [] line = omega arith
line_more (own ∷ []) line =
    let longer = length-append own (line ∷ []) in
    let before = length-append own [] in
    let after = length-append (own ++ line ∷ []) [] in
    omega (arith, longer, before, after)
line_more (own ∷ next ∷ threads) line =
    let before = length-append own (lines_of (parts.Par (next ∷ threads))) in
    let after = length-append own (lines_of (parts.Par (in_last (next ∷ threads) line))) in
    omega (arith, before, after, line_more (next ∷ threads) line)

-- ---- one line

-- at most one command more
abbrev OneMore : Reading → Reading → Type 0
OneMore old new = count new.parts new.block ≤ count old.parts old.block + 1

begin_counts : (reading : Reading) (block : Option (List Thread)) → reading.block ≡ block → Gets (begin_block reading block) (OneMore reading)
begin_counts reading None is = omega arith
begin_counts reading (Some threads) is = tt

thread_counts : (reading : Reading) (block : Option (List Thread)) → reading.block ≡ block → Gets (begin_thread reading block) (OneMore reading)
thread_counts reading None is = tt
thread_counts reading (Some threads) is =
    let was : of_block reading.block ≡ of_threads threads = ap of_block is in
    tested (nat_lt (length threads) 16) _ TooManyThreads (OneMore reading) (λ few. omega (arith, was, thread_more threads))

end_counts : (reading : Reading) (block : Option (List Thread)) → reading.block ≡ block → Gets (end_block reading block) (OneMore reading)
end_counts reading None is = tt
end_counts reading (Some threads) is =
    let was : of_block reading.block ≡ of_threads threads = ap of_block is in
    omega (arith, was, part_more reading.parts (parts.Par threads))

command_counts : (number : ℕ) (reading : Reading) (block : Option (List Thread)) (read : Result Command ScriptRule) → reading.block ≡ block → Gets (add_command number reading block read) (OneMore reading)
command_counts number reading None read is =
    bind_any read _ (OneMore reading) (λ command. omega (arith, part_more reading.parts (parts.Line number command)))
command_counts number reading (Some []) read is = tt
command_counts number reading (Some (thread ∷ threads)) read is =
    let was : of_block reading.block ≡ of_threads (thread ∷ threads) = ap of_block is in
    bind_any read _ (OneMore reading) (λ command. omega (arith, was, line_more (thread ∷ threads) (number, command)))

keyword_counts : (nodes number : ℕ) (reading : Reading) (keyword : Keyword) (left : Left) → Gets (with_keyword nodes number reading (keyword, left)) (OneMore reading)
keyword_counts nodes number reading keywords.Par left = begin_counts reading reading.block refl
keyword_counts nodes number reading keywords.Thread left = thread_counts reading reading.block refl
keyword_counts nodes number reading keywords.End left = end_counts reading reading.block refl
keyword_counts nodes number reading (keywords.Command verb) left = command_counts number reading reading.block (words_at nodes verb left) refl

text_counts : (number : ℕ) (reading : Reading) (text : List ℕ) (set : Option SetLine) → Gets (with_text number reading text set) (OneMore reading)
unfolding with_command
text_counts number reading text None = bind_any (set_line text) _ (OneMore reading) (λ sizes. omega arith)
text_counts number reading text (Some set) = bind_any (keyword_at text) _ (OneMore reading) (λ keyword. keyword_counts set.nodes number reading keyword.0 keyword.1)

line_counts : (number : ℕ) (reading : Reading) (line : List ℕ) → Gets (with_line number reading line) (OneMore reading)
unfolding with_line
line_counts number reading line =
    bind_any (text_of number line) _ (OneMore reading) (λ text.
    cond_gets (is_passed_over text) _ _ (OneMore reading) (λ passed. omega arith) (λ other. text_counts number reading text reading.set))

-- ---- the whole

abbrev IsFew : Result Script ScriptFault → Type 0
IsFew (Ok read) = length (lines_in read.parts) ≤ 200000
IsFew (Err fault) = Unit {0}

whole_few : (number : ℕ) (reading : Reading) (set : Option SetLine) (block : Option (List Thread)) → count reading.parts reading.block + 1 ≤ number → number ≤ 200001 → IsFew (whole number reading set block)
whole_few number reading None block few low = tt
whole_few number reading (Some set) (Some threads) few low = tt
whole_few number reading (Some set) None few low = omega (arith, few, low)

then_few : (number : ℕ) (reading : Reading) (read : Result Reading ScriptRule) (later : Reading → Result Script ScriptFault) → Gets read (OneMore reading)
    → ((next : Reading) → read ≡ Ok next → OneMore reading next → IsFew (later next)) → IsFew (and_then number read later)
then_few number reading (Ok next) later more each = each next refl more
then_few number reading (Err rule) later more each = tt

lines_few : (later : List (List ℕ)) (number : ℕ) (reading : Reading) → count reading.parts reading.block + 1 ≤ number → number ≤ 200001 → IsFew (script_from number reading later)
lines_few [] number reading few low = whole_few number reading reading.set reading.block few low
lines_few (line ∷ later) number reading few low =
    then_few number reading (with_line number reading line) _ (line_counts number reading line) (λ next read more.
    let early = counted number reading next line read in lines_few later (number + 1) next (omega (arith, few, more)) (omega (arith, early)))

pub script_few : (bytes : List ℕ) (read : Script) → script bytes ≡ Ok read → length (lines_in read.parts) ≤ 200000
unfolding script
script_few bytes read is = told (script bytes) is (lines_few (lines bytes) 1 start (omega arith) (omega arith))
  where
    told : (r : Result Script ScriptFault) → r ≡ Ok read → IsFew r → length (lines_in read.parts) ≤ 200000
    told r same holds = rw same at holds
