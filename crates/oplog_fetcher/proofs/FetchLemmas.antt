-- What a part of a log has.
use Rattle.std.proofs.Common.{◌≡◌, ◌≢◌, ◌∙◌, ap, sym, arith, Bool, true, false, not, ◌&&◌, ◌||◌, List, [], ◌∷◌, ℕ, suc, zero, Option, IfSome, length, take, min}
use Rattle.std.proofs.lemmas.List.{take_all}
use Rattle.std.specs.Prelude.{IfNone, is_some}
use Rattle.std.specs.List.{All}
use Rattle.rs_optime.specs.declared.optime.OpTime.{OpTime}
use Rattle.oplog_entry.specs.declared.entry.Entry.{Entry}
use Rattle.oplog_entry.specs.Visible.{ZERO, is_before, log_up_to}
use Rattle.oplog_store.specs.Log.{StandsAt}
use Rattle.repl_msg.specs.Logs.{same_optime, has_entry}
use Rattle.repl_msg.proofs.HasLemmas.{has_filter, has_found}
use Rattle.repl_msg.specs.Fetching.{holds}

holds_as : (log : List Entry) (visible base : OpTime) (within : Bool) → same_optime base ZERO ≡ false → not (is_before visible base) ≡ within
    → (within && has_entry log base) ≡ holds (log_up_to visible log) base
holds_as log visible base within other is =
    sym (ap (λ b. b || has_entry (log_up_to visible log) base) other ∙ has_filter (λ o. not (is_before visible o)) log base ∙ ap (λ b. b && has_entry log base) is)

-- what a look-up in the whole log tells of its visible part
pub holds_found : (log : List Entry) (visible base : OpTime) (found : Option ℕ) → same_optime base ZERO ≡ false → not (is_before visible base) ≡ true
    → IfSome found (λ place. StandsAt log place base) → IfNone found (All (λ entry. entry.optime ≢ base) log)
    → is_some found ≡ holds (log_up_to visible log) base
holds_found log visible base found other within some none = sym (has_found log base found some none) ∙ holds_as log visible base true other within

pub holds_hidden : (log : List Entry) (visible base : OpTime) → same_optime base ZERO ≡ false → not (is_before visible base) ≡ false
    → false ≡ holds (log_up_to visible log) base
holds_hidden log visible base other after = holds_as log visible base false other after

pub take_least : {X : Type 0} (xs : List X) (n : ℕ) → take (min (length xs) n) xs ≡ take n xs
take_least {X = X} [] n = take_all (min (length {A = X} []) n) [] (omega arith) ∙ sym (take_all n [] (omega arith))
take_least (x ∷ xs) zero = let none : min (length (x ∷ xs)) 0 ≡ 0 = omega arith in ap (λ k. take k (x ∷ xs)) none
take_least (x ∷ xs) (suc n) =
    let more : min (length (x ∷ xs)) (suc n) ≡ suc (min (length xs) n) = omega arith in
    ap (λ k. take k (x ∷ xs)) more ∙ ap (λ ys. x ∷ ys) (take_least xs n)
