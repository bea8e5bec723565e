-- A script that is read has few threads in each block.
use Rattle.std.proofs.Common.{◌≡◌, ℕ, suc, ◌+◌, ◌≤◌, Bool, true, ◌&&◌, List, [], ◌∷◌, ◌++◌, length, length-append, Option, None, Some, Result, Ok, Err, refl, arith, ◌∙◌}
use Rattle.std.specs.Prelude.{nat_lt, ⊤}
use Rattle.std.specs.List.{list_all}
use Rattle.std.specs.Str.Lines.{lines}
use Rattle.std.proofs.lemmas.Bool.{and_parts, leb-true, le-leb}
use Rattle.std.proofs.lemmas.List.Folds.{list_all-append}
use Rattle.bson_doc.proofs.BindLemmas.{Gets, cond_gets}
use Rattle.script_words.proofs.Gets.{bind_any, both, tested}
use Rattle.script_words.specs.declared.rule.ScriptRule.{ScriptRule}
use Rattle.script_words.specs.declared.rule.ScriptRule.TheVariants.{TooManyThreads}
use Rattle.script_words.specs.declared.set.SetLine.{SetLine}
use Rattle.script_words.specs.declared.verb.Keyword.{Keyword}
use Rattle.script_words.specs.declared.verb.Keyword.TheVariants as keywords
use Rattle.script_words.specs.Commands.{keyword_at, words_at}
use Rattle.script_words.specs.Set.{set_line}
use Rattle.script_words.specs.Words.{Left}
use Rattle.set_model.specs.declared.command.Command.{Command}
use Rattle.fault_script.specs.declared.fault.ScriptFault.{ScriptFault}
use Rattle.fault_script.specs.declared.reading.Reading.{Reading}
use Rattle.fault_script.specs.declared.script.Part.{Part}
use Rattle.fault_script.specs.declared.script.Part.TheVariants as parts
use Rattle.fault_script.specs.declared.script.Script.{Script}
use Rattle.fault_script.specs.Lines.{text_of, is_passed_over}
use Rattle.fault_script.specs.Script.{Thread, add_command, and_then, begin_block, begin_thread, end_block, in_last, is_part_for, script, script_from, start, whole, with_block, with_command, with_keyword, with_line, with_part, with_text}
use Rattle.set_program.specs.Parts.{can_be_run, has_few_threads}

-- the threads of an open block
abbrev IsWithin : Option (List Thread) → Type 0
IsWithin None = ⊤
IsWithin (Some threads) = length threads ≤ 16

record AreFew (reading : Reading) : Type 0 where
  parts : list_all has_few_threads reading.parts ≡ true
  block : IsWithin reading.block

part_few : (reading : Reading) (part : Part) → AreFew reading → has_few_threads part ≡ true → AreFew (with_part reading part)
part_few reading part few one = record {
  parts = list_all-append has_few_threads reading.parts (part ∷ []) ∙ both (list_all has_few_threads reading.parts) (has_few_threads part && true) few.parts (both (has_few_threads part) true one refl);
  block = tt;
}

block_few : (reading : Reading) (threads : List Thread) → AreFew reading → length threads ≤ 16 → AreFew (with_block reading threads)
block_few reading threads few within = record { parts = few.parts; block = within }

in_last_long : (threads : List Thread) (line : ℕ × Command) → length (in_last threads line) ≡ length threads
in_last_long [] line = refl
in_last_long (own ∷ []) line = refl
in_last_long (own ∷ next ∷ threads) line = let again = in_last_long (next ∷ threads) line in omega (arith, again)

-- ---- one line

begin_block_few : (reading : Reading) (block : Option (List Thread)) → AreFew reading → Gets (begin_block reading block) AreFew
begin_block_few reading None few = block_few reading [] few (omega arith)
begin_block_few reading (Some threads) few = tt

begin_thread_few : (reading : Reading) (block : Option (List Thread)) → AreFew reading → Gets (begin_thread reading block) AreFew
begin_thread_few reading None few = tt
begin_thread_few reading (Some threads) few =
    tested (nat_lt (length threads) 16) _ TooManyThreads AreFew (λ less.
    let room = leb-true (suc (length threads)) 16 less in
    let long = length-append threads ([] ∷ []) in
    block_few reading (threads ++ [] ∷ []) few (omega (arith, room, long)))

end_block_few : (reading : Reading) (block : Option (List Thread)) → AreFew reading → IsWithin block → Gets (end_block reading block) AreFew
end_block_few reading None few within = tt
end_block_few reading (Some threads) few within = part_few reading (parts.Par threads) few (le-leb (length threads) 16 within)

command_few : (number : ℕ) (reading : Reading) (block : Option (List Thread)) (read : Result Command ScriptRule) → AreFew reading → IsWithin block → Gets (add_command number reading block read) AreFew
command_few number reading None read few within = bind_any read _ AreFew (λ command. part_few reading (parts.Line number command) few refl)
command_few number reading (Some []) read few within = tt
command_few number reading (Some (thread ∷ threads)) read few within =
    bind_any read _ AreFew (λ command.
    let same = in_last_long (thread ∷ threads) (number, command) in
    block_few reading (in_last (thread ∷ threads) (number, command)) few (omega (arith, same, within)))

keyword_few : (nodes number : ℕ) (reading : Reading) (keyword : Keyword) (left : Left) → AreFew reading → Gets (with_keyword nodes number reading (keyword, left)) AreFew
keyword_few nodes number reading keywords.Par left few = begin_block_few reading reading.block few
keyword_few nodes number reading keywords.Thread left few = begin_thread_few reading reading.block few
keyword_few nodes number reading keywords.End left few = end_block_few reading reading.block few few.block
keyword_few nodes number reading (keywords.Command verb) left few = command_few number reading reading.block (words_at nodes verb left) few few.block

text_few : (number : ℕ) (reading : Reading) (text : List ℕ) (set : Option SetLine) → AreFew reading → Gets (with_text number reading text set) AreFew
unfolding with_command
text_few number reading text None few = bind_any (set_line text) _ AreFew (λ sizes. record { parts = few.parts; block = few.block })
text_few number reading text (Some set) few = bind_any (keyword_at text) _ AreFew (λ keyword. keyword_few set.nodes number reading keyword.0 keyword.1 few)

line_few : (number : ℕ) (reading : Reading) (line : List ℕ) → AreFew reading → Gets (with_line number reading line) AreFew
unfolding with_line
line_few number reading line few =
    bind_any (text_of number line) _ AreFew (λ text.
    cond_gets (is_passed_over text) _ _ AreFew (λ passed. few) (λ other. text_few number reading text reading.set few))

-- ---- the whole

abbrev Becomes : Result Script ScriptFault → Type 0
Becomes (Ok read) = list_all has_few_threads read.parts ≡ true
Becomes (Err fault) = ⊤

whole_few : (number : ℕ) (reading : Reading) (set : Option SetLine) (block : Option (List Thread)) → AreFew reading → Becomes (whole number reading set block)
whole_few number reading None block few = tt
whole_few number reading (Some set) (Some threads) few = tt
whole_few number reading (Some set) None few = few.parts

then_few : (number : ℕ) (read : Result Reading ScriptRule) (later : Reading → Result Script ScriptFault) → Gets read AreFew → ((next : Reading) → AreFew next → Becomes (later next)) → Becomes (and_then number read later)
then_few number (Ok next) later few each = each next few
then_few number (Err rule) later few each = tt

lines_few : (later : List (List ℕ)) (number : ℕ) (reading : Reading) → AreFew reading → Becomes (script_from number reading later)
lines_few [] number reading few = whole_few number reading reading.set reading.block few
lines_few (line ∷ later) number reading few = then_few number (with_line number reading line) _ (line_few number reading line few) (λ next ours. lines_few later (number + 1) next ours)

script_few : (bytes : List ℕ) (read : Script) → script bytes ≡ Ok read → list_all has_few_threads read.parts ≡ true
unfolding script
script_few bytes read is = told (script bytes) is (lines_few (lines bytes) 1 start (record { parts = refl; block = tt }))
  where
    told : (r : Result Script ScriptFault) → r ≡ Ok read → Becomes r → list_all has_few_threads read.parts ≡ true
    told r same holds = rw same at holds

-- so its parts can be run
all_both : {A : Type 0} (p q : A → Bool) (xs : List A) → list_all p xs ≡ true → list_all q xs ≡ true → list_all (λ x. p x && q x) xs ≡ true
all_both p q [] one two = refl
all_both p q (x ∷ xs) one two =
    let first = and_parts (p x) (list_all p xs) one in
    let second = and_parts (q x) (list_all q xs) two in
    both (p x && q x) (list_all (λ y. p y && q y) xs) (both (p x) (q x) first.0 second.0) (all_both p q xs first.1 second.1)

pub script_can_run : (bytes : List ℕ) (read : Script) → script bytes ≡ Ok read → list_all (is_part_for read.nodes) read.parts ≡ true → list_all (can_be_run read.nodes) read.parts ≡ true
script_can_run bytes read is fits = all_both has_few_threads (is_part_for read.nodes) read.parts (script_few bytes read is) fits
