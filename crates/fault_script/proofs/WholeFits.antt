-- The set of a script that is read has lawful sizes, and each command is one of it.
use Rattle.std.proofs.Common.{◌≡◌, ◌≤◌, ◌<◌, ℕ, ◌+◌, Bool, true, false, ◌&&◌, if◌then◌else◌, nat_le, le-leb, leb-true, ltb-true, ltb-false, List, [], ◌∷◌, ◌++◌, length, Option, None, Some, Result, Ok, Err, refl, sym, subst, arith, ◌∙◌}
use Rattle.std.specs.Prelude.{nat_lt, codes}
use Rattle.std.specs.Str.{bytes_eq}
use Rattle.std.specs.List.{list_all}
use Rattle.std.specs.Str.Lines.{lines}
use Rattle.std.proofs.lemmas.Bool.{and_from, and_parts}
use Rattle.std.proofs.lemmas.List.Folds.{list_all-append}
use Rattle.set_model.specs.declared.command.Command.{Command}
use Rattle.set_model.specs.Limits.{is_for}
use Rattle.set_model.specs.Run.{Sizes, AreSizes}
use Rattle.fault_script.specs.declared.reading.Reading.{Reading}
use Rattle.fault_script.specs.declared.fault.ScriptFault.{ScriptFault}
use Rattle.script_words.specs.declared.rule.ScriptRule.{ScriptRule}
use Rattle.script_words.specs.declared.rule.ScriptRule.TheVariants.{TooManyThreads, NoSetLine, WordCount}
use Rattle.fault_script.specs.declared.script.Part.{Part}
use Rattle.fault_script.specs.declared.script.Part.TheVariants as parts
use Rattle.fault_script.specs.declared.script.Script.{Script}
use Rattle.script_words.specs.declared.set.SetLine.{SetLine}
use Rattle.script_words.specs.declared.shape.Shape.TheVariants.{Words}
use Rattle.script_words.specs.declared.verb.Keyword.{Keyword}
use Rattle.script_words.specs.declared.verb.Keyword.TheVariants as keywords
use Rattle.script_words.specs.Words.{Left, has_shape, word_at, number_at, optional_at}
use Rattle.script_words.specs.Set.{members_or, most_voters, set_line, sizes_at}
use Rattle.fault_script.specs.Lines.{text_of, is_passed_over}
use Rattle.script_words.specs.Commands.{keyword_at, words_at}
use Rattle.fault_script.specs.Script.{Thread, in_last, start, with_part, with_block, begin_block, begin_thread, end_block, add_command, with_keyword, with_command, with_set, with_text, with_line, whole, and_then, script_from, script, is_part_for, sizes_of}
use Rattle.bson_doc.proofs.BindLemmas.{Gets, bind_gets, cond_gets}
use Rattle.script_words.proofs.Gets.{bind_any, tested, ended_gets, both}
use Rattle.script_words.proofs.CommandsFit.{IsIn, number_within, optional_within, words_within}

abbrev is_thread_for : ℕ → Thread → Bool
is_thread_for nodes = list_all (λ line. is_for nodes line.1)

abbrev threads_in : Option (List Thread) → List Thread
threads_in None = []
threads_in (Some threads) = threads

abbrev pub line_sizes : SetLine → Sizes
line_sizes set = record { nodes = set.nodes; voters = set.voters; members = set.members }

-- after the `set` line all commands are the set's, and before it there is none
abbrev FitAfter : Option SetLine → List Part → Option (List Thread) → Type 0
FitAfter None parts block = (parts ≡ []) × (block ≡ None)
FitAfter (Some set) parts block = AreSizes (line_sizes set) × (list_all (is_part_for set.nodes) parts ≡ true) × (list_all (is_thread_for set.nodes) (threads_in block) ≡ true)

abbrev AreFit : Reading → Type 0
AreFit reading = FitAfter reading.set reading.parts reading.block

pushed : {A : Type 0} (p : A → Bool) (xs : List A) (x : A) → list_all p xs ≡ true → p x ≡ true → list_all p (xs ++ x ∷ []) ≡ true
pushed p xs x all one = list_all-append p xs (x ∷ []) ∙ both (list_all p xs) (p x && true) all (both (p x) true one refl)

last_fit : (nodes : ℕ) (threads : List Thread) (line : ℕ × Command) → list_all (is_thread_for nodes) threads ≡ true → is_for nodes line.1 ≡ true → list_all (is_thread_for nodes) (in_last threads line) ≡ true
last_fit nodes [] line all one = refl
last_fit nodes (own ∷ []) line all one = both (is_thread_for nodes (own ++ line ∷ [])) true (pushed (λ l. is_for nodes l.1) own line (front (is_thread_for nodes own) true all) one) refl
  where
    front : (a b : Bool) → (a && b) ≡ true → a ≡ true
    front true b is = refl
    front false b is = absurd cc
last_fit nodes (own ∷ next ∷ threads) line all one =
    both (is_thread_for nodes own) (list_all (is_thread_for nodes) (in_last (next ∷ threads) line)) (front (is_thread_for nodes own) (list_all (is_thread_for nodes) (next ∷ threads)) all)
    (last_fit nodes (next ∷ threads) line (back (is_thread_for nodes own) (list_all (is_thread_for nodes) (next ∷ threads)) all) one)
  where
    front : (a b : Bool) → (a && b) ≡ true → a ≡ true
    front true b is = refl
    front false b is = absurd cc

    back : (a b : Bool) → (a && b) ≡ true → b ≡ true
    back true b is = is
    back false b is = absurd cc

-- ---- one line, after the `set` line

-- the facts of a reading with this `set` line
record After (set : SetLine) (reading : Reading) : Type 0 where
  known : reading.set ≡ Some set
  sizes : AreSizes (line_sizes set)
  parts : list_all (is_part_for set.nodes) reading.parts ≡ true
  block : list_all (is_thread_for set.nodes) (threads_in reading.block) ≡ true

fit_as : (set : SetLine) (reading : Reading) (ps : List Part) (block : Option (List Thread)) → After set reading → list_all (is_part_for set.nodes) ps ≡ true → list_all (is_thread_for set.nodes) (threads_in block) ≡ true → FitAfter reading.set ps block
fit_as set reading ps block fit one two = subst (λ (o : Option SetLine). FitAfter o ps block) (sym fit.known) (fit.sizes, one, two)

part_fit : (set : SetLine) (reading : Reading) (part : Part) → After set reading → is_part_for set.nodes part ≡ true → AreFit (with_part reading part)
part_fit set reading part fit one = fit_as set reading (reading.parts ++ part ∷ []) None fit (pushed (is_part_for set.nodes) reading.parts part fit.parts one) refl

block_fit : (set : SetLine) (reading : Reading) (threads : List Thread) → After set reading → list_all (is_thread_for set.nodes) threads ≡ true → AreFit (with_block reading threads)
block_fit set reading threads fit all = fit_as set reading reading.parts (Some threads) fit fit.parts all

begin_block_fit : (set : SetLine) (reading : Reading) (block : Option (List Thread)) → After set reading → Gets (begin_block reading block) AreFit
begin_block_fit set reading None fit = block_fit set reading [] fit refl
begin_block_fit set reading (Some threads) fit = tt

begin_thread_fit : (set : SetLine) (reading : Reading) (block : Option (List Thread)) → After set reading → list_all (is_thread_for set.nodes) (threads_in block) ≡ true → Gets (begin_thread reading block) AreFit
begin_thread_fit set reading None fit all = tt
begin_thread_fit set reading (Some threads) fit all =
    tested (nat_lt (length threads) 16) _ TooManyThreads AreFit (λ few. block_fit set reading (threads ++ [] ∷ []) fit (pushed (is_thread_for set.nodes) threads [] all refl))

end_block_fit : (set : SetLine) (reading : Reading) (block : Option (List Thread)) → After set reading → list_all (is_thread_for set.nodes) (threads_in block) ≡ true → Gets (end_block reading block) AreFit
end_block_fit set reading None fit all = tt
end_block_fit set reading (Some threads) fit all = part_fit set reading (parts.Par threads) fit all

command_fit : (set : SetLine) (number : ℕ) (reading : Reading) (block : Option (List Thread)) (read : Result Command ScriptRule) → After set reading → list_all (is_thread_for set.nodes) (threads_in block) ≡ true
    → Gets read (λ command. is_for set.nodes command ≡ true) → Gets (add_command number reading block read) AreFit
command_fit set number reading None read fit all one = bind_gets read _ (λ command. is_for set.nodes command ≡ true) AreFit one (λ command ours. part_fit set reading (parts.Line number command) fit ours)
command_fit set number reading (Some []) read fit all one = tt
command_fit set number reading (Some (thread ∷ threads)) read fit all one =
    bind_gets read _ (λ command. is_for set.nodes command ≡ true) AreFit one (λ command ours.
    block_fit set reading (in_last (thread ∷ threads) (number, command)) fit (last_fit set.nodes (thread ∷ threads) (number, command) all ours))

keyword_fit : (set : SetLine) (number : ℕ) (reading : Reading) (keyword : Keyword) (left : Left) → After set reading → Gets (with_keyword set.nodes number reading (keyword, left)) AreFit
keyword_fit set number reading keywords.Par left fit = begin_block_fit set reading reading.block fit
keyword_fit set number reading keywords.Thread left fit = begin_thread_fit set reading reading.block fit fit.block
keyword_fit set number reading keywords.End left fit = end_block_fit set reading reading.block fit fit.block
keyword_fit set number reading (keywords.Command verb) left fit = command_fit set number reading reading.block (words_at set.nodes verb left) fit fit.block (words_within set.nodes verb left)

-- ---- the `set` line

in_range : (least most number : ℕ) → least ≤ number → number ≤ most → IsIn least most number
in_range least most number above below = and_from (nat_le least number) (nat_le number most) (le-leb least number above) (le-leb number most below)

range_of : (least most number : ℕ) → IsIn least most number → (least ≤ number) × (number ≤ most)
range_of least most number within =
    let both : (nat_le least number ≡ true) × (nat_le number most ≡ true) = and_parts (nat_le least number) (nat_le number most) within in
    (leb-true least number both.0, leb-true number most both.1)

-- as many voters as may
most_few : (nodes : ℕ) → (most_voters nodes ≤ 7) × (most_voters nodes ≤ nodes) × (1 ≤ nodes → 1 ≤ most_voters nodes)
most_few nodes = go (nat_lt nodes 7) refl
  where
    go : (b : Bool) → nat_lt nodes 7 ≡ b → ((if b then nodes else 7) ≤ 7) × ((if b then nodes else 7) ≤ nodes) × (1 ≤ nodes → 1 ≤ (if b then nodes else 7))
    go true is = let less : nodes < 7 = ltb-true nodes 7 is in (omega (arith, less), omega arith, λ some. some)
    go false is = let many : 7 ≤ nodes = ltb-false nodes 7 is in (omega arith, many, λ some. omega arith)

most_within : (nodes : ℕ) → IsIn 1 50 nodes → IsIn 1 (most_voters nodes) (most_voters nodes)
most_within nodes within = in_range 1 (most_voters nodes) (most_voters nodes) ((most_few nodes).2 (range_of 1 50 nodes within).0) (omega arith)

some_voters : (nodes voters : ℕ) → IsIn 1 (most_voters nodes) voters → (1 ≤ voters) × (voters ≤ 7) × (voters ≤ nodes)
some_voters nodes voters within =
    let range = range_of 1 (most_voters nodes) voters within in
    let few = most_few nodes in
    (range.0, omega (arith, range.1, few.0), omega (arith, range.1, few.1))

-- the members that a line without them has
default_within : (left : Left) (nodes voters : ℕ) → voters ≤ nodes → IsIn voters nodes (members_or left nodes voters)
default_within None nodes voters within = in_range voters nodes nodes within (omega arith)
default_within (Some left) nodes voters within = in_range voters nodes voters (omega arith) within

sized : (nodes voters members : ℕ) → IsIn 1 50 nodes → IsIn 1 (most_voters nodes) voters → IsIn voters nodes members → AreSizes (record { nodes = nodes; voters = voters; members = members })
sized nodes voters members some few within =
    let votes = some_voters nodes voters few in
    let range = range_of voters nodes members within in
    record { one = votes.0; few = votes.1; voting = range.0; within = range.1; most = (range_of 1 50 nodes some).1 }

sizes_sized : (left : Left) → Gets (sizes_at left) (λ set. AreSizes (line_sizes set))
unfolding sizes_at
sizes_sized left =
    bind_gets (number_at 1 50 left) _ (λ x. IsIn 1 50 x.0) (λ set. AreSizes (line_sizes set)) (number_within 1 50 left) (λ nodes some.
    bind_gets (optional_at (most_voters nodes.0) 1 (most_voters nodes.0) nodes.1) _ (λ x. IsIn 1 (most_voters nodes.0) x.0) (λ set. AreSizes (line_sizes set))
    (optional_within (most_voters nodes.0) 1 (most_voters nodes.0) nodes.1 (most_within nodes.0 some)) (λ voters few.
    bind_gets (optional_at (members_or nodes.1 nodes.0 voters.0) voters.0 nodes.0 voters.1) _ (λ x. IsIn voters.0 nodes.0 x.0) (λ set. AreSizes (line_sizes set))
    (optional_within (members_or nodes.1 nodes.0 voters.0) voters.0 nodes.0 voters.1 (default_within nodes.1 nodes.0 voters.0 (some_voters nodes.0 voters.0 few).2)) (λ members within.
    ended_gets members.1 _ (λ set. AreSizes (line_sizes set)) (sized nodes.0 voters.0 members.0 some few within))))

pub set_sized : (text : List ℕ) → Gets (set_line text) (λ set. AreSizes (line_sizes set))
unfolding set_line
set_sized text =
    bind_any (word_at (Some text)) _ (λ set. AreSizes (line_sizes set)) (λ first.
    tested (bytes_eq first.0 (codes "set")) _ NoSetLine (λ set. AreSizes (line_sizes set)) (λ named.
    tested (has_shape (Words 1 3) first.1) _ WordCount (λ set. AreSizes (line_sizes set)) (λ shaped. sizes_sized first.1)))

-- ---- any line

set_fit : (reading : Reading) (text : List ℕ) → reading.parts ≡ [] → reading.block ≡ None → Gets (with_set reading text) AreFit
set_fit reading text none closed =
    bind_gets (set_line text) _ (λ set. AreSizes (line_sizes set)) AreFit (set_sized text) (λ set sizes. (sizes, rw none refl, rw closed refl))

text_fit : (number : ℕ) (reading : Reading) (text : List ℕ) (set : Option SetLine) → reading.set ≡ set → FitAfter set reading.parts reading.block → Gets (with_text number reading text set) AreFit
unfolding with_command
text_fit number reading text None is fit = set_fit reading text fit.0 fit.1
text_fit number reading text (Some set) is fit =
    bind_any (keyword_at text) _ AreFit (λ keyword.
    keyword_fit set number reading keyword.0 keyword.1 (record { known = is; sizes = fit.0; parts = fit.1; block = fit.2 }))

line_fit : (number : ℕ) (reading : Reading) (line : List ℕ) → AreFit reading → Gets (with_line number reading line) AreFit
unfolding with_line
line_fit number reading line fit =
    bind_any (text_of number line) _ AreFit (λ text.
    cond_gets (is_passed_over text) _ _ AreFit (λ passed. fit) (λ other. text_fit number reading text reading.set refl fit))

-- ---- the whole

abbrev pub IsOfItsSet : Script → Type 0
IsOfItsSet read = AreSizes (sizes_of read) × (list_all (is_part_for read.nodes) read.parts ≡ true)

-- a fact of a script, if there is one
abbrev Becomes : Result Script ScriptFault → Type 0
Becomes (Ok read) = IsOfItsSet read
Becomes (Err fault) = Unit {0}

whole_fit : (number : ℕ) (reading : Reading) (set : Option SetLine) (block : Option (List Thread)) → FitAfter set reading.parts block → Becomes (whole number reading set block)
whole_fit number reading None block fit = tt
whole_fit number reading (Some set) (Some threads) fit = tt
whole_fit number reading (Some set) None fit = (fit.0, fit.1)

then_fit : (number : ℕ) (read : Result Reading ScriptRule) (later : Reading → Result Script ScriptFault) → Gets read AreFit → ((next : Reading) → AreFit next → Becomes (later next)) → Becomes (and_then number read later)
then_fit number (Ok next) later fit each = each next fit
then_fit number (Err rule) later fit each = tt

lines_fit : (later : List (List ℕ)) (number : ℕ) (reading : Reading) → AreFit reading → Becomes (script_from number reading later)
lines_fit [] number reading fit = whole_fit number reading reading.set reading.block fit
lines_fit (line ∷ later) number reading fit = then_fit number (with_line number reading line) _ (line_fit number reading line fit) (λ next ours. lines_fit later (number + 1) next ours)

pub script_fits : (bytes : List ℕ) (read : Script) → script bytes ≡ Ok read → IsOfItsSet read
unfolding script
script_fits bytes read is = told (script bytes) is (lines_fit (lines bytes) 1 start (refl, refl))
  where
    told : (r : Result Script ScriptFault) → r ≡ Ok read → Becomes r → IsOfItsSet read
    told r same holds = rw same at holds
