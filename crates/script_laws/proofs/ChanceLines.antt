-- Lines of plain bytes, one after the other, which are commands.
use Rattle.std.proofs.Common.{◌≡◌, ℕ, zero, suc, ◌+◌, ◌-◌, ◌≤◌, ◌<◌, Bool, true, false, ◌==◌, ◌&&◌, List, [], ◌∷◌, ◌++◌, length, None, Some, Ok, refl, ap, sym, ◌∙◌, arith, append_assoc}
use Rattle.std.specs.Prelude.{nat_lt, slice_index, All}
use Rattle.std.specs.List.{slice_split, list_all, AllByRecursion}
use Rattle.std.specs.Str.Lines.{lines, lines_of_parts}
use Rattle.std.proofs.lemmas.List.{length-append}
use Rattle.std.proofs.lemmas.List.Splits.{slice_split_at}
use Rattle.std.proofs.lemmas.List.Sums.{AllPass-from_list_all}
use Rattle.std.proofs.lemmas.Str.{IsUtf8-from_ascii}
use Rattle.set_model.specs.declared.command.Command.{Command}
use Rattle.fault_script.specs.declared.reading.Reading.{Reading}
use Rattle.fault_script.specs.declared.script.Part.TheVariants as parts
use Rattle.fault_script.specs.declared.script.Script.{Script}
use Rattle.script_words.specs.declared.set.SetLine.{SetLine}
use Rattle.script_words.specs.declared.verb.Keyword.TheVariants as keywords
use Rattle.script_words.specs.declared.verb.Verb.{Verb}
use Rattle.fault_script.specs.Lines.{text_of, is_passed_over}
use Rattle.script_words.specs.Words.{Left}
use Rattle.script_words.specs.Commands.{keyword_at, words_at}
use Rattle.fault_script.specs.Script.{with_part, with_command, with_line, script_from}
use Rattle.fault_script.proofs.LinesCut.{line_feed, some_part, line_of, text_line}

-- ---- bytes

-- neither a control character nor beyond ASCII
abbrev pub is_text : ℕ → Bool
is_text c = nat_lt 31 c && nat_lt c 127

-- the same, and no space
abbrev pub is_inside : ℕ → Bool
is_inside c = nat_lt 32 c && nat_lt c 127

pub each_true : (a b : Bool) → (a && b) ≡ true → (a ≡ true) × (b ≡ true)
each_true true b is = (refl, is)
each_true false b is = absurd cc

pub low_byte : (c : ℕ) → is_text c ≡ true → (c < 128) × ((c == 13) ≡ false) × ((c == 10) ≡ false)
low_byte c is = let bounds = each_true (nat_lt 31 c) (nat_lt c 127) is in let low = bounds.0 in let high = bounds.1 in (grind arith, grind arith, grind arith)

pub plain_at : (text : List ℕ) (place : ℕ) → list_all is_text text ≡ true → (slice_index text place < 128) × ((slice_index text place == 13) ≡ false)
plain_at [] place plain = (omega arith, refl)
plain_at (c ∷ text) zero plain = let low = low_byte c (each_true (is_text c) (list_all is_text text) plain).0 in (low.0, low.1)
plain_at (c ∷ text) (suc place) plain = plain_at text place (each_true (is_text c) (list_all is_text text) plain).1

no_feed : (text : List ℕ) → list_all is_text text ≡ true → All (λ c. line_feed c ≡ false) text
no_feed text plain place default within = (low_byte _ (AllPass-from_list_all is_text text plain place default within)).2

-- ---- lines

pub one_line : (line rest : List ℕ) → list_all is_text line ≡ true → lines (line ++ 10 ∷ rest) ≡ line ∷ lines rest
one_line line rest plain =
    ap lines_of_parts (slice_split_at line_feed line 10 rest (no_feed line plain) refl) ∙ line_of line (slice_split line_feed rest) (some_part rest) ∙ rw ((plain_at line (length line - 1) plain).1) refl

pub text_is : (number : ℕ) (line : List ℕ) → number ≤ 200000 → length line ≤ 1048576 → list_all is_text line ≡ true → text_of number line ≡ Ok line
text_is number line few short plain = text_line number line line (grind arith) (grind arith) refl (IsUtf8-from_ascii line (λ place. (plain_at line place plain).0))

-- a line that is a command in a set of so many nodes
pub record IsCommand (nodes : ℕ) (line : List ℕ) : Type 0 where
  pub plain : list_all is_text line ≡ true
  pub short : length line ≤ 1048576
  pub said : is_passed_over line ≡ false
  pub verb : Verb
  pub left : Left
  pub command : Command
  pub named : keyword_at line ≡ Ok (keywords.Command verb, left)
  pub asked : words_at nodes verb left ≡ Ok command

command_read : (number : ℕ) (reading : Reading) (set : SetLine) (line : List ℕ) (one : IsCommand set.nodes line) → number ≤ 200000 → reading.set ≡ Some set → reading.block ≡ None
    → with_line number reading line ≡ Ok (with_part reading (parts.Line number one.command))
unfolding with_line with_command
command_read number reading set line one few known closed = rw (text_is number line few one.short one.plain, one.said, known, one.named, closed, one.asked) refl

-- such lines after the `set` line
pub commands_read : (set : SetLine) (later : List (List ℕ)) (number : ℕ) (reading : Reading) → AllByRecursion (IsCommand set.nodes) later → number + length later ≤ 200001 → reading.set ≡ Some set → reading.block ≡ None
    → (read : Script) × (script_from number reading later ≡ Ok read) × (read.nodes ≡ set.nodes) × (read.voters ≡ set.voters) × (read.members ≡ set.members)
commands_read set [] number reading all few known closed =
    (record { nodes = set.nodes; voters = set.voters; members = set.members; parts = reading.parts }, rw (known, closed) refl, refl, refl, refl)
commands_read set (line ∷ later) number reading all few known closed =
    let one = command_read number reading set line all.0 (omega arith) known closed in
    let rest = commands_read set later (number + 1) (with_part reading (parts.Line number all.0.command)) all.1 (omega arith) known refl in
    (rest.0, rw one rest.1, rest.2, rest.3, rest.4)

-- ---- texts of several lines

abbrev pub joined_lines : List (List ℕ) → List ℕ
joined_lines [] = []
joined_lines (line ∷ later) = line ++ 10 ∷ joined_lines later

pub lines_joined : (nodes : ℕ) (later : List (List ℕ)) → AllByRecursion (IsCommand nodes) later → lines (joined_lines later) ≡ later
lines_joined nodes [] all = refl
lines_joined nodes (line ∷ later) all = one_line line (joined_lines later) all.0.plain ∙ ap (λ (ls : List (List ℕ)). line ∷ ls) (lines_joined nodes later all.1)

joined_both : (first later : List (List ℕ)) → joined_lines (first ++ later) ≡ joined_lines first ++ joined_lines later
joined_both [] later = refl
joined_both (line ∷ first) later = ap (λ (t : List ℕ). line ++ 10 ∷ t) (joined_both first later) ∙ sym (append_assoc line (10 ∷ joined_lines first) (joined_lines later))

all_both : (nodes : ℕ) (first later : List (List ℕ)) → AllByRecursion (IsCommand nodes) first → AllByRecursion (IsCommand nodes) later → AllByRecursion (IsCommand nodes) (first ++ later)
all_both nodes [] later one other = other
all_both nodes (line ∷ first) later one other = (one.0, all_both nodes first later one.1 other)

-- a text of at most so many commands
pub record AreCommands (nodes most : ℕ) (text : List ℕ) : Type 0 where
  pub parts : List (List ℕ)
  pub each : AllByRecursion (IsCommand nodes) parts
  pub few : length parts ≤ most
  pub spelled : text ≡ joined_lines parts

pub no_command : (nodes : ℕ) → AreCommands nodes 0 []
no_command nodes = record { parts = []; each = tt; few = omega arith; spelled = refl }

pub one_command : (nodes : ℕ) (line text : List ℕ) → IsCommand nodes line → text ≡ line ++ 10 ∷ [] → AreCommands nodes 1 text
one_command nodes line text one is = record { parts = line ∷ []; each = (one, tt); few = omega arith; spelled = is }

pub more_commands : (nodes first_most later_most : ℕ) (first later : List ℕ) → AreCommands nodes first_most first → AreCommands nodes later_most later → AreCommands nodes (first_most + later_most) (first ++ later)
more_commands nodes first_most later_most first later one other = record {
  parts = one.parts ++ other.parts;
  each = all_both nodes one.parts other.parts one.each other.each;
  few = omega (arith, length-append one.parts other.parts, one.few, other.few);
  spelled = rw (one.spelled, other.spelled) (sym (joined_both one.parts other.parts));
}

pub at_most : (nodes few most : ℕ) (text : List ℕ) → few ≤ most → AreCommands nodes few text → AreCommands nodes most text
at_most nodes few most text within all = record { parts = all.parts; each = all.each; few = omega (arith, all.few); spelled = all.spelled }
