use Rattle.std.proofs.Common.{◌≡◌, drop}
use Rattle.change_words.proofs.NodeLemmas.{after, named}
use Rattle.change_words.proofs.asked.read_nodes.Given as goal

abbrev pub invariant-loop-word : goal.invariant-loop-word
invariant-loop-word l = named l.words ≡ after l.nodes (named (drop l.word-index l.words))
