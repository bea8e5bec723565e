-- Commands as they are written are read.
use Rattle.std.proofs.Common.{◌≡◌, ℕ, ◌^◌, ◌<◌, ◌≤◌, true, List, ◌∷◌, ◌++◌, None, Some, Ok, Err, refl, ap, ◌∙◌, arith, append_assoc}
use Rattle.std.specs.Prelude.{codes}
use Rattle.std.specs.Fmt.{decimal}
use Rattle.std.specs.List.{list_all}
use Rattle.run_checker.specs.Commands.{command_text, level_word}
use Rattle.script_words.specs.declared.verb.NodeVerb.{NodeVerb}
use Rattle.script_words.specs.declared.verb.NodeVerb.TheVariants as asks
use Rattle.script_words.specs.declared.verb.Verb.{Verb}
use Rattle.script_words.specs.declared.verb.Verb.TheVariants as verbs
use Rattle.script_words.specs.Words.{Left, Read, has_shape, left_after, pick_at, word_at, word_count}
use Rattle.script_words.specs.Commands.{abort_at, apply_at, clock_at, command_at, commit_at, common_at, crash_at, deliver_latest, deliver_one, dump_at, heartbeat_at, node_shape, of_node, report_at, shape_of, verb_at, verb_of, words_at}
use Rattle.script_laws.proofs.ChanceLines.{is_inside}
use Rattle.script_laws.proofs.ChanceWords.{after_is, last_word, one_more_word, only_word, word_is}
use Rattle.set_model.specs.declared.command.Command.{Command}
use Rattle.set_model.specs.declared.command.Command.TheVariants as commands
use Rattle.set_model.specs.declared.command.ReadLevel.{ReadLevel}
use Rattle.trace_laws.proofs.WordsAgain.{message_word, node_name, node_word, number_word, other_word, writer_name, writer_word}
use Rattle.trace_laws.proofs.NamesAgain.{level_again}

-- ---- first words

pub record IsVerb (word : List ℕ) (verb : Verb) : Type 0 where
  pub inside : list_all is_inside word ≡ true
  pub named : verb_of word ≡ Some verb

pub command_is : (nodes : ℕ) (word left : List ℕ) (verb : Verb) (command : Command) → IsVerb word verb → has_shape (shape_of verb) (Some left) ≡ true
    → words_at nodes verb (Some left) ≡ Ok command → command_at nodes (word ++ 32 ∷ left) ≡ Ok command
unfolding command_at verb_at
command_is nodes word left verb command first shaped asked = rw (word_is word left first.inside, first.named, shaped, asked) refl

-- a word and a node
one_node : (nodes node : ℕ) (word : List ℕ) (verb : NodeVerb) (command : Command) → IsVerb word (verbs.Node verb) → node < nodes → nodes ≤ 50
    → ((left : Left) → word_count left ≡ 1 → has_shape (node_shape verb) left ≡ true) → of_node nodes verb node None ≡ Ok command → command_at nodes (word ++ 32 ∷ node_name node) ≡ Ok command
one_node nodes node word verb command first within few shaped asked =
    let own = node_word nodes node within few in
    command_is nodes word (node_name node) (verbs.Node verb) command first (shaped (Some (node_name node)) (only_word (node_name node) own.inside)) (rw own.last asked)

-- a word, a node and another word
two_words : (nodes node : ℕ) (word second : List ℕ) (verb : NodeVerb) (command : Command) → IsVerb word (verbs.Node verb) → node < nodes → nodes ≤ 50 → list_all is_inside second ≡ true
    → ((left : Left) → word_count left ≡ 2 → has_shape (node_shape verb) left ≡ true) → of_node nodes verb node (Some second) ≡ Ok command
    → command_at nodes (word ++ 32 ∷ (node_name node ++ 32 ∷ second)) ≡ Ok command
two_words nodes node word second verb command first within few inside shaped asked =
    let own = node_word nodes node within few in
    let words : word_count (Some (node_name node ++ 32 ∷ second)) ≡ 2 = omega (arith, one_more_word (node_name node) second own.inside, only_word second inside) in
    command_is nodes word (node_name node ++ 32 ∷ second) (verbs.Node verb) command first (shaped (Some (node_name node ++ 32 ∷ second)) words) (rw (own.before second) asked)

-- ---- commands of one node

module _ (nodes node : ℕ) (within : node < nodes) (few : nodes ≤ 50) where
  pub campaign_again : command_at nodes (command_text (commands.Campaign node)) ≡ Ok (commands.Campaign node)
  campaign_again = one_node nodes node (codes "campaign") asks.Campaign (commands.Campaign node) (record { inside = refl; named = refl }) within few (λ left one. rw one refl) refl

  pub drain_again : command_at nodes (command_text (commands.Drain node)) ≡ Ok (commands.Drain node)
  drain_again = one_node nodes node (codes "drain") asks.Drain (commands.Drain node) (record { inside = refl; named = refl }) within few (λ left one. rw one refl) refl

  pub note_again : command_at nodes (command_text (commands.Note node)) ≡ Ok (commands.Note node)
  note_again = one_node nodes node (codes "note") asks.Note (commands.Note node) (record { inside = refl; named = refl }) within few (λ left one. rw one refl) refl

  pub log_again : command_at nodes (command_text (commands.Log node)) ≡ Ok (commands.Log node)
  log_again = one_node nodes node (codes "log") asks.Log (commands.Log node) (record { inside = refl; named = refl }) within few (λ left one. rw one refl) refl

  pub state_again : command_at nodes (command_text (commands.State node)) ≡ Ok (commands.State node)
  state_again = one_node nodes node (codes "state") asks.State (commands.State node) (record { inside = refl; named = refl }) within few (λ left one. rw one refl) refl

  pub rolled_again : command_at nodes (command_text (commands.Rolled node)) ≡ Ok (commands.Rolled node)
  rolled_again = one_node nodes node (codes "rolled") asks.Rolled (commands.Rolled node) (record { inside = refl; named = refl }) within few (λ left one. rw one refl) refl

  pub dry_run_again : command_at nodes (command_text (commands.DryRun node)) ≡ Ok (commands.DryRun node)
  dry_run_again = one_node nodes node (codes "dryrun") asks.DryRun (commands.DryRun node) (record { inside = refl; named = refl }) within few (λ left one. rw one refl) refl

  pub step_down_again : command_at nodes (command_text (commands.StepDown node)) ≡ Ok (commands.StepDown node)
  step_down_again = one_node nodes node (codes "stepdown") asks.StepDown (commands.StepDown node) (record { inside = refl; named = refl }) within few (λ left one. rw one refl) refl

  pub fetch_again : command_at nodes (command_text (commands.Fetch node)) ≡ Ok (commands.Fetch node)
  fetch_again = one_node nodes node (codes "fetch") asks.Fetch (commands.Fetch node) (record { inside = refl; named = refl }) within few (λ left one. rw one refl) refl

  pub flush_again : command_at nodes (command_text (commands.Flush node)) ≡ Ok (commands.Flush node)
  flush_again = one_node nodes node (codes "flush") asks.Flush (commands.Flush node) (record { inside = refl; named = refl }) within few (λ left one. rw one refl) refl

  pub checkpoint_again : command_at nodes (command_text (commands.Checkpoint node)) ≡ Ok (commands.Checkpoint node)
  checkpoint_again = one_node nodes node (codes "checkpoint") asks.Checkpoint (commands.Checkpoint node) (record { inside = refl; named = refl }) within few (λ left one. rw one refl) refl

  pub restart_again : command_at nodes (command_text (commands.Restart node)) ≡ Ok (commands.Restart node)
  restart_again = one_node nodes node (codes "restart") asks.Restart (commands.Restart node) (record { inside = refl; named = refl }) within few (λ left one. rw one refl) refl

  -- ---- and of a node and a word

  pub commit_again : (writer : ℕ) → writer < 1000 → command_at nodes (command_text (commands.Commit node writer)) ≡ Ok (commands.Commit node writer)
  unfolding commit_at
  commit_again writer low =
      let word = writer_word writer low in
      let text : command_text (commands.Commit node writer) ≡ codes "commit" ++ 32 ∷ (node_name node ++ 32 ∷ writer_name writer) = simp append_assoc in
      ap (command_at nodes) text ∙ two_words nodes node (codes "commit") (writer_name writer) asks.Commit (commands.Commit node writer) (record { inside = refl; named = refl }) within few word.inside (λ left two. rw two refl) (rw word.last refl)

  pub abort_again : (writer : ℕ) → writer < 1000 → command_at nodes (command_text (commands.Abort node writer)) ≡ Ok (commands.Abort node writer)
  unfolding abort_at
  abort_again writer low =
      let word = writer_word writer low in
      let text : command_text (commands.Abort node writer) ≡ codes "abort" ++ 32 ∷ (node_name node ++ 32 ∷ writer_name writer) = simp append_assoc in
      ap (command_at nodes) text ∙ two_words nodes node (codes "abort") (writer_name writer) asks.Abort (commands.Abort node writer) (record { inside = refl; named = refl }) within few word.inside (λ left two. rw two refl) (rw word.last refl)

  pub dump_again : (level : ReadLevel) → command_at nodes (command_text (commands.Dump node level)) ≡ Ok (commands.Dump node level)
  unfolding dump_at
  dump_again level =
      let word = level_again level in
      let text : command_text (commands.Dump node level) ≡ codes "dump" ++ 32 ∷ (node_name node ++ 32 ∷ level_word level) = simp append_assoc in
      ap (command_at nodes) text ∙ two_words nodes node (codes "dump") (level_word level) asks.Dump (commands.Dump node level) (record { inside = refl; named = refl }) within few word.inside (λ left two. rw two refl) (rw word.last refl)

  pub heartbeat_again : (other : ℕ) → other < nodes → (other ≡ node → ⊥) → command_at nodes (command_text (commands.Heartbeat node other)) ≡ Ok (commands.Heartbeat node other)
  unfolding heartbeat_at
  heartbeat_again other ours apart =
      let word = other_word nodes node other ours few apart in
      let text : command_text (commands.Heartbeat node other) ≡ codes "heartbeat" ++ 32 ∷ (node_name node ++ 32 ∷ node_name other) = simp append_assoc in
      ap (command_at nodes) text ∙ two_words nodes node (codes "heartbeat") (node_name other) asks.Heartbeat (commands.Heartbeat node other) (record { inside = refl; named = refl }) within few word.inside (λ left two. rw two refl) (rw word.last refl)

  pub report_again : (other : ℕ) → other < nodes → (other ≡ node → ⊥) → command_at nodes (command_text (commands.Report node other)) ≡ Ok (commands.Report node other)
  unfolding report_at
  report_again other ours apart =
      let word = other_word nodes node other ours few apart in
      let text : command_text (commands.Report node other) ≡ codes "report" ++ 32 ∷ (node_name node ++ 32 ∷ node_name other) = simp append_assoc in
      ap (command_at nodes) text ∙ two_words nodes node (codes "report") (node_name other) asks.Report (commands.Report node other) (record { inside = refl; named = refl }) within few word.inside (λ left two. rw two refl) (rw word.last refl)

  pub common_again : (other : ℕ) → other < nodes → (other ≡ node → ⊥) → command_at nodes (command_text (commands.Common node other)) ≡ Ok (commands.Common node other)
  unfolding common_at
  common_again other ours apart =
      let word = other_word nodes node other ours few apart in
      let text : command_text (commands.Common node other) ≡ codes "common" ++ 32 ∷ (node_name node ++ 32 ∷ node_name other) = simp append_assoc in
      ap (command_at nodes) text ∙ two_words nodes node (codes "common") (node_name other) asks.Common (commands.Common node other) (record { inside = refl; named = refl }) within few word.inside (λ left two. rw two refl) (rw word.last refl)

  pub apply_again : (workers : ℕ) → 1 ≤ workers → workers ≤ 16 → command_at nodes (command_text (commands.Apply node workers)) ≡ Ok (commands.Apply node workers)
  unfolding apply_at
  apply_again workers low high =
      let word = number_word 1 16 workers (omega arith) low high in
      let text : command_text (commands.Apply node workers) ≡ codes "apply" ++ 32 ∷ (node_name node ++ 32 ∷ decimal workers) = simp append_assoc in
      ap (command_at nodes) text ∙ two_words nodes node (codes "apply") (decimal workers) asks.Apply (commands.Apply node workers) (record { inside = refl; named = refl }) within few word.inside (λ left two. rw two refl) (rw word.last refl)

  pub crash_again : (pick : ℕ) → pick < 2 ^ 64 → command_at nodes (command_text (commands.Crash node pick)) ≡ Ok (commands.Crash node pick)
  unfolding crash_at pick_at
  crash_again pick low =
      let word = number_word 0 18446744073709551615 pick low (omega arith) (omega arith) in
      let text : command_text (commands.Crash node pick) ≡ codes "crash" ++ 32 ∷ (node_name node ++ 32 ∷ decimal pick) = simp append_assoc in
      ap (command_at nodes) text ∙ two_words nodes node (codes "crash") (decimal pick) asks.Crash (commands.Crash node pick) (record { inside = refl; named = refl }) within few word.inside (λ left two. rw two refl) (rw word.last refl)

  pub clock_again : (seconds : ℕ) → seconds < 2147483648 → command_at nodes (command_text (commands.Clock node seconds)) ≡ Ok (commands.Clock node seconds)
  unfolding clock_at
  clock_again seconds low =
      let word = number_word 0 2147483647 seconds (omega arith) (omega arith) (omega arith) in
      let text : command_text (commands.Clock node seconds) ≡ codes "clock" ++ 32 ∷ (node_name node ++ 32 ∷ decimal seconds) = simp append_assoc in
      ap (command_at nodes) text ∙ two_words nodes node (codes "clock") (decimal seconds) asks.Clock (commands.Clock node seconds) (record { inside = refl; named = refl }) within few word.inside (λ left two. rw two refl) (rw word.last refl)

-- ---- deliveries

-- what is left after a word
abbrev left_of : Read (List ℕ) → Left
left_of (Ok read) = read.1
left_of (Err rule) = None

-- no other word comes after a last one
nothing_after : (word : List ℕ) → list_all is_inside word ≡ true → left_after word ≡ None
unfolding word_at
nothing_after word inside = ap left_of (last_word word inside)

pub deliver_again : (nodes message : ℕ) → message < 2 ^ 64 → command_at nodes (command_text (commands.Deliver message)) ≡ Ok (commands.Deliver message)
unfolding deliver_one
deliver_again nodes message low =
    let word = message_word message low in
    let alone : word_count (Some (109 ∷ decimal message)) ≡ 1 = only_word (109 ∷ decimal message) word.inside in
    command_is nodes (codes "deliver") (109 ∷ decimal message) verbs.Deliver (commands.Deliver message) (record { inside = refl; named = refl }) (rw alone refl) (rw (nothing_after (109 ∷ decimal message) word.inside, word.last) refl)

pub deliver_latest_again : (nodes from to : ℕ) → from < nodes → to < nodes → nodes ≤ 50 → (to ≡ from → ⊥) → command_at nodes (command_text (commands.DeliverLatest from to)) ≡ Ok (commands.DeliverLatest from to)
unfolding deliver_latest
deliver_latest_again nodes from to ours theirs few apart =
    let one = node_word nodes from ours few in
    let other = other_word nodes from to theirs few apart in
    let text : command_text (commands.DeliverLatest from to) ≡ codes "deliver" ++ 32 ∷ (node_name from ++ 32 ∷ node_name to) = simp append_assoc in
    let words : word_count (Some (node_name from ++ 32 ∷ node_name to)) ≡ 2 = omega (arith, one_more_word (node_name from) (node_name to) one.inside, only_word (node_name to) other.inside) in
    ap (command_at nodes) text
    ∙ command_is nodes (codes "deliver") (node_name from ++ 32 ∷ node_name to) verbs.Deliver (commands.DeliverLatest from to) (record { inside = refl; named = refl }) (rw words refl)
    (rw (after_is (node_name from) (node_name to) one.inside, one.before (node_name to), other.last) refl)
