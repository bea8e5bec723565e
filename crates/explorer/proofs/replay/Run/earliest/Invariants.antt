use Rattle.std.proofs.Common.{◌≡◌, ◌<◌, ℕ, Some, slice_get}
use Rattle.explorer.proofs.replay.Run.earliest.Given as goal

abbrev pub invariant-loop-number : goal.invariant-loop-number
invariant-loop-number l = (place : ℕ) → place < l.number → slice_get l.self.machine.messages place ≡ Some l.wanted → ⊥
