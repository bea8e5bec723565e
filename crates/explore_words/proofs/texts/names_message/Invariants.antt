use Rattle.std.proofs.Common.{◌≡◌, true, drop}
use Rattle.explore_words.specs.Texts.{names_message}
use Rattle.explore_words.proofs.texts.names_message.Given as goal

abbrev pub invariant-loop-byte : goal.invariant-loop-byte
invariant-loop-byte l = names_message true l.text ≡ names_message l.begins (drop l.byte-index l.text)
