use Rattle.std.proofs.Common.{◌≡◌, ◌≤◌, ◌+◌, ◌-◌, ℕ, false, length}
use Rattle.rollback_core.proofs.Steps.{is_past}
use Rattle.rollback_core.proofs.point.count_up_to.Given as goal

abbrev pub invariant-loop-count : goal.invariant-loop-count
invariant-loop-count l = l.count ≤ length l.entries

abbrev pub decreases-loop-count : goal.decreases-loop-count
decreases-loop-count l = l.count

-- the last of them isn't past the optime
abbrev pub invariant-loop-count-2 : goal.invariant-loop-count-2
invariant-loop-count-2 l = (l.count ≤ length l.entries) × ((place : ℕ) → place + 1 ≡ l.count → is_past l.entries place l.at ≡ false)

abbrev pub decreases-loop-count-2 : goal.decreases-loop-count-2
decreases-loop-count-2 l = length l.entries - l.count
