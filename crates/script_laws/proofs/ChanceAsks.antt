-- Lines that ask a node for something are commands.
use Rattle.std.proofs.Common.{◌≡◌, ℕ, ◌≤◌, ◌<◌, true, false, List, [], ◌∷◌, ◌++◌, length, None, Some, Ok, refl, ◌∙◌, arith, append_assoc}
use Rattle.std.specs.Prelude.{codes}
use Rattle.std.specs.Fmt.{decimal}
use Rattle.std.specs.List.{list_all}
use Rattle.std.proofs.lemmas.List.{length-append}
use Rattle.std.proofs.lemmas.List.Folds.{list_all-append}
use Rattle.set_model.specs.declared.command.Command.{Command}
use Rattle.set_model.specs.declared.command.Command.TheVariants as commands
use Rattle.script_words.specs.declared.verb.Keyword.TheVariants as keywords
use Rattle.script_words.specs.declared.verb.Verb.{Verb}
use Rattle.script_words.specs.declared.verb.Verb.TheVariants as verbs
use Rattle.script_words.specs.declared.verb.NodeVerb.{NodeVerb}
use Rattle.script_words.specs.declared.verb.NodeVerb.TheVariants as asks
use Rattle.chance_script.specs.Generated.{ask, ask_with}
use Rattle.fault_script.specs.Lines.{is_passed_over}
use Rattle.script_words.specs.Words.{Left, has_shape, word_at, word_count, number_at, pick_at}
use Rattle.script_words.specs.Commands.{keyword_of, keyword_at, shape_of, words_at, of_node, heartbeat_at, report_at, common_at, apply_at, crash_at, clock_at, deliver_latest}
use Rattle.script_words.proofs.Gets.{both}
use Rattle.script_laws.proofs.ChanceLines.{is_text, is_inside, IsCommand, AreCommands, one_command}
use Rattle.script_laws.proofs.ChanceWords.{word_is_text, word_is, after_is, one_more_word, only_word, is_written, name_of, name_inside, node_is, last_node, other_last_node, last_number}

-- ---- first words

pub record IsFirstWord (word : List ℕ) (verb : Verb) : Type 0 where
  pub inside : list_all is_inside word ≡ true
  pub short : length word ≤ 100
  pub said : (rest : List ℕ) → is_passed_over (word ++ rest) ≡ false
  pub named : keyword_of word ≡ Some (keywords.Command verb)

keyword_is : (word left : List ℕ) (verb : Verb) → IsFirstWord word verb → has_shape (shape_of verb) (Some left) ≡ true → keyword_at (word ++ 32 ∷ left) ≡ Ok (keywords.Command verb, Some left)
unfolding keyword_at
keyword_is word left verb first shaped = rw (word_is word left first.inside, first.named, shaped) refl

pub texts : (xs ys : List ℕ) → list_all is_text xs ≡ true → list_all is_text ys ≡ true → list_all is_text (xs ++ ys) ≡ true
texts xs ys one other = list_all-append is_text xs ys ∙ both (list_all is_text xs) (list_all is_text ys) one other

pub a_command : (nodes : ℕ) (word left : List ℕ) (verb : Verb) (command : Command) → IsFirstWord word verb → list_all is_text left ≡ true → length left ≤ 1000
    → has_shape (shape_of verb) (Some left) ≡ true → words_at nodes verb (Some left) ≡ Ok command → IsCommand nodes (word ++ 32 ∷ left)
a_command nodes word left verb command first plain short shaped asked = record {
  plain = texts word (32 ∷ left) (word_is_text word first.inside) plain;
  short = omega (arith, length-append word (32 ∷ left), first.short);
  said = first.said (32 ∷ left);
  verb = verb;
  left = Some left;
  command = command;
  named = keyword_is word left verb first shaped;
  asked = asked;
}

pub ask_is : (word : List ℕ) (node : ℕ) (after : List ℕ) → ask word node after ≡ (word ++ 32 ∷ (name_of node ++ after)) ++ 10 ∷ []
ask_is word node after = simp append_assoc

-- the name of a node of a small set
pub record IsName (node : ℕ) : Type 0 where
  pub inside : list_all is_inside (name_of node) ≡ true
  pub short : length (name_of node) ≤ 20

pub is_name : (nodes node : ℕ) → node < nodes → nodes ≤ 50 → IsName node
is_name nodes node within few = record { inside = name_inside node (omega arith); short = omega (arith, (is_written node (omega arith)).short) }

-- a word and a node
pub alone : (nodes node : ℕ) (word : List ℕ) (verb : Verb) (command : Command) → IsFirstWord word verb → node < nodes → nodes ≤ 50
    → ((left : Left) → word_count left ≡ 1 → has_shape (shape_of verb) left ≡ true) → words_at nodes verb (Some (name_of node)) ≡ Ok command → AreCommands nodes 1 (ask word node [])
alone nodes node word verb command first within few shaped asked =
    let name = is_name nodes node within few in
    let one = a_command nodes word (name_of node) verb command first (word_is_text (name_of node) name.inside) (omega (arith, name.short)) (shaped (Some (name_of node)) (only_word (name_of node) name.inside)) asked in
    one_command nodes (word ++ 32 ∷ name_of node) (ask word node []) one (simp append_assoc)

-- a word, a node and a last word
pub with_word : (nodes node : ℕ) (word after : List ℕ) (verb : Verb) (command : Command) → IsFirstWord word verb → node < nodes → nodes ≤ 50 → list_all is_inside after ≡ true → length after ≤ 100
    → ((left : Left) → word_count left ≡ 2 → has_shape (shape_of verb) left ≡ true) → words_at nodes verb (Some (name_of node ++ 32 ∷ after)) ≡ Ok command → AreCommands nodes 1 (ask word node (32 ∷ after))
with_word nodes node word after verb command first within few inside short shaped asked =
    let name = is_name nodes node within few in
    let left = name_of node ++ 32 ∷ after in
    let words : word_count (Some left) ≡ 2 = omega (arith, one_more_word (name_of node) after name.inside, only_word after inside) in
    let one = a_command nodes word left verb command first (texts (name_of node) (32 ∷ after) (word_is_text (name_of node) name.inside) (word_is_text after inside)) (omega (arith, name.short, short, length-append (name_of node) (32 ∷ after))) (shaped (Some left) words) asked in
    one_command nodes (word ++ 32 ∷ left) (ask word node (32 ∷ after)) one (ask_is word node (32 ∷ after))

-- ---- words with one node

one_node : (nodes node : ℕ) (word : List ℕ) (verb : NodeVerb) (command : Command) → IsFirstWord word (verbs.Node verb) → node < nodes → nodes ≤ 50
    → ((left : Left) → word_count left ≡ 1 → has_shape (shape_of (verbs.Node verb)) left ≡ true) → of_node nodes verb node None ≡ Ok command → AreCommands nodes 1 (ask word node [])
one_node nodes node word verb command first within few shaped asked =
    alone nodes node word (verbs.Node verb) command first within few shaped (rw (last_node nodes node within few) asked)

pub flushes : (nodes node : ℕ) → node < nodes → nodes ≤ 50 → AreCommands nodes 1 (ask (codes "flush") node [])
flushes nodes node within few = one_node nodes node (codes "flush") asks.Flush (commands.Flush node) (record { inside = refl; short = omega arith; said = λ rest. refl; named = refl }) within few (λ left one. rw one refl) refl

pub fetches : (nodes node : ℕ) → node < nodes → nodes ≤ 50 → AreCommands nodes 1 (ask (codes "fetch") node [])
fetches nodes node within few = one_node nodes node (codes "fetch") asks.Fetch (commands.Fetch node) (record { inside = refl; short = omega arith; said = λ rest. refl; named = refl }) within few (λ left one. rw one refl) refl

pub campaigns : (nodes node : ℕ) → node < nodes → nodes ≤ 50 → AreCommands nodes 1 (ask (codes "campaign") node [])
campaigns nodes node within few = one_node nodes node (codes "campaign") asks.Campaign (commands.Campaign node) (record { inside = refl; short = omega arith; said = λ rest. refl; named = refl }) within few (λ left one. rw one refl) refl

pub drains : (nodes node : ℕ) → node < nodes → nodes ≤ 50 → AreCommands nodes 1 (ask (codes "drain") node [])
drains nodes node within few = one_node nodes node (codes "drain") asks.Drain (commands.Drain node) (record { inside = refl; short = omega arith; said = λ rest. refl; named = refl }) within few (λ left one. rw one refl) refl

pub checkpoints : (nodes node : ℕ) → node < nodes → nodes ≤ 50 → AreCommands nodes 1 (ask (codes "checkpoint") node [])
checkpoints nodes node within few = one_node nodes node (codes "checkpoint") asks.Checkpoint (commands.Checkpoint node) (record { inside = refl; short = omega arith; said = λ rest. refl; named = refl }) within few (λ left one. rw one refl) refl

pub crashes : (nodes node : ℕ) → node < nodes → nodes ≤ 50 → AreCommands nodes 1 (ask (codes "crash") node [])
unfolding crash_at pick_at
crashes nodes node within few = one_node nodes node (codes "crash") asks.Crash (commands.Crash node 0) (record { inside = refl; short = omega arith; said = λ rest. refl; named = refl }) within few (λ left one. rw one refl) refl

pub restarts : (nodes node : ℕ) → node < nodes → nodes ≤ 50 → AreCommands nodes 1 (ask (codes "restart") node [])
restarts nodes node within few = one_node nodes node (codes "restart") asks.Restart (commands.Restart node) (record { inside = refl; short = omega arith; said = λ rest. refl; named = refl }) within few (λ left one. rw one refl) refl

pub steps_down : (nodes node : ℕ) → node < nodes → nodes ≤ 50 → AreCommands nodes 1 (ask (codes "stepdown") node [])
steps_down nodes node within few = one_node nodes node (codes "stepdown") asks.StepDown (commands.StepDown node) (record { inside = refl; short = omega arith; said = λ rest. refl; named = refl }) within few (λ left one. rw one refl) refl

-- ---- words with a node and a number

four_workers : number_at 1 16 (Some (codes "4")) ≡ Ok (4, None)
unfolding number_at word_at
four_workers = refl

pub applies : (nodes node : ℕ) → node < nodes → nodes ≤ 50 → AreCommands nodes 1 (ask (codes "apply") node (codes " 4"))
unfolding apply_at
applies nodes node within few =
    with_word nodes node (codes "apply") (codes "4") (verbs.Node asks.Apply) (commands.Apply node 4) (record { inside = refl; short = omega arith; said = λ rest. refl; named = refl }) within few refl (omega arith) (λ left two. rw two refl)
    (rw (node_is nodes node (codes "4") within few, four_workers) refl)

pub clocks : (nodes node seconds : ℕ) → node < nodes → nodes ≤ 50 → seconds < 1000 → AreCommands nodes 1 (ask (codes "clock") node (codes " " ++ decimal seconds))
unfolding clock_at
clocks nodes node seconds within few low =
    let written = is_written seconds (omega arith) in
    with_word nodes node (codes "clock") (decimal seconds) (verbs.Node asks.Clock) (commands.Clock node seconds) (record { inside = refl; short = omega arith; said = λ rest. refl; named = refl }) within few written.inside (omega (arith, written.short)) (λ left two. rw two refl)
    (rw (node_is nodes node (decimal seconds) within few, last_number 0 2147483647 seconds (omega arith) (omega arith) (omega arith)) refl)

-- ---- words with two nodes

two_nodes : (nodes node other : ℕ) (word : List ℕ) (verb : NodeVerb) (command : Command) → IsFirstWord word (verbs.Node verb) → node < nodes → other < nodes → nodes ≤ 50
    → ((left : Left) → word_count left ≡ 2 → has_shape (shape_of (verbs.Node verb)) left ≡ true) → of_node nodes verb node (Some (name_of other)) ≡ Ok command → AreCommands nodes 1 (ask_with word node other)
two_nodes nodes node other word verb command first within second few shaped asked =
    let name = is_name nodes other second few in
    with_word nodes node word (name_of other) (verbs.Node verb) command first within few name.inside (omega (arith, name.short)) shaped (rw (node_is nodes node (name_of other) within few) asked)

pub hears : (nodes node other : ℕ) → node < nodes → other < nodes → nodes ≤ 50 → (other ≡ node → ⊥) → AreCommands nodes 1 (ask_with (codes "heartbeat") node other)
unfolding heartbeat_at
hears nodes node other within second few apart =
    two_nodes nodes node other (codes "heartbeat") asks.Heartbeat (commands.Heartbeat node other) (record { inside = refl; short = omega arith; said = λ rest. refl; named = refl }) within second few (λ left two. rw two refl)
    (rw (other_last_node nodes node other second few apart) refl)

pub reports : (nodes node other : ℕ) → node < nodes → other < nodes → nodes ≤ 50 → (other ≡ node → ⊥) → AreCommands nodes 1 (ask_with (codes "report") node other)
unfolding report_at
reports nodes node other within second few apart =
    two_nodes nodes node other (codes "report") asks.Report (commands.Report node other) (record { inside = refl; short = omega arith; said = λ rest. refl; named = refl }) within second few (λ left two. rw two refl)
    (rw (other_last_node nodes node other second few apart) refl)

pub compares : (nodes node other : ℕ) → node < nodes → other < nodes → nodes ≤ 50 → (other ≡ node → ⊥) → AreCommands nodes 1 (ask_with (codes "common") node other)
unfolding common_at
compares nodes node other within second few apart =
    two_nodes nodes node other (codes "common") asks.Common (commands.Common node other) (record { inside = refl; short = omega arith; said = λ rest. refl; named = refl }) within second few (λ left two. rw two refl)
    (rw (other_last_node nodes node other second few apart) refl)

pub delivers : (nodes node other : ℕ) → node < nodes → other < nodes → nodes ≤ 50 → (other ≡ node → ⊥) → AreCommands nodes 1 (ask_with (codes "deliver") node other)
unfolding deliver_latest
delivers nodes node other within second few apart =
    let name = is_name nodes other second few in
    with_word nodes node (codes "deliver") (name_of other) verbs.Deliver (commands.DeliverLatest node other) (record { inside = refl; short = omega arith; said = λ rest. refl; named = refl }) within few name.inside (omega (arith, name.short)) (λ left two. rw two refl)
    (rw (after_is (name_of node) (name_of other) (is_name nodes node within few).inside, node_is nodes node (name_of other) within few, other_last_node nodes node other second few apart) refl)
