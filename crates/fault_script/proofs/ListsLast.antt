-- A command more in the last thread.
use Rattle.std.proofs.Common.{◌≡◌, ℕ, List, [], ◌∷◌, ◌++◌, refl, ap, sym}
use Rattle.set_model.specs.declared.command.Command.{Command}
use Rattle.fault_script.specs.Script.{Thread, in_last}

pub in_last_of : (front : List Thread) (own : Thread) (line : ℕ × Command) → in_last (front ++ own ∷ []) line ≡ front ++ (own ++ line ∷ []) ∷ []
in_last_of [] own line = refl
in_last_of (first ∷ []) own line = refl
in_last_of (first ∷ next ∷ front) own line = ap (λ (ts : List Thread). first ∷ ts) (in_last_of (next ∷ front) own line)

-- the last thread, taken out and put back with a command more
pub with_line_of : (whole front now : List Thread) (own more : Thread) (line : ℕ × Command) → whole ≡ front ++ own ∷ [] → more ≡ own ++ line ∷ [] → now ≡ front ++ more ∷ [] → now ≡ in_last whole line
with_line_of whole front now own more line taken grown put = rw (taken, put, grown) (sym (in_last_of front own line))
