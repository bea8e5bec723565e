use Rattle.std.proofs.Common.{◌≡◌, ◌+◌, ◌^◌, ◌<◌, ◌≤◌, ℕ, length}
use Rattle.std.specs.Fmt.{decimal}
use Rattle.bson_doc.proofs.DigitLemmas.{digits_left}
use Rattle.bson_doc.proofs.sizes.digits.Given as goal

abbrev pub invariant-loop-left : goal.invariant-loop-left
invariant-loop-left l = (f : ℕ) × (l.left < 10 ^ f) × (l.count + f ≤ 64) × (l.count + digits_left f l.left ≡ length (decimal l.number))

abbrev pub decreases-loop-left : goal.decreases-loop-left
decreases-loop-left l = l.left
