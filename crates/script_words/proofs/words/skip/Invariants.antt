use Rattle.std.proofs.Common.{◌≡◌}
use Rattle.std.specs.Option.{option_copied}
use Rattle.script_words.specs.Words.{skip}
use Rattle.script_words.proofs.words.skip.Given as goal

abbrev pub invariant-loop : goal.invariant-loop
invariant-loop l = option_copied l.rest ≡ skip l.counter (option_copied l.fn.left)
