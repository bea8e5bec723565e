-- A truth value at the start of some bytes, and what follows it.
use Rattle.std.proofs.Common.{◌≡◌, ℕ, ◌≤◌, Bool, true, false, not, List, ◌∷◌, length, drop, refl, ap, ◌∙◌, arith}
use Rattle.std.specs.Prelude.{◌==◌, slice_index}
use Rattle.node_journal.specs.Layout.{truth_byte}

pub truth_back : (truth : Bool) → not (truth_byte truth == 0) ≡ truth
truth_back true = refl
truth_back false = refl

pub truth_long : (truth : Bool) (more bytes : List ℕ) → bytes ≡ truth_byte truth ∷ more → 1 ≤ length bytes
truth_long truth more bytes is = omega (arith, ap length is)

pub truth_read : (truth x : Bool) (more bytes : List ℕ) → bytes ≡ truth_byte truth ∷ more → x ≡ not (slice_index bytes 0 == 0) → x ≡ truth
truth_read truth x more bytes is read = read ∙ ap (λ (l : List ℕ). not (slice_index l 0 == 0)) is ∙ truth_back truth

pub truth_rest : (truth : Bool) (more bytes rest : List ℕ) → bytes ≡ truth_byte truth ∷ more → rest ≡ drop 1 bytes → rest ≡ more
truth_rest truth more bytes rest is read = read ∙ ap (λ (l : List ℕ). drop 1 l) is
