-- What holds of a call whatever it returns.
use Rattle.std.proofs.Common.{◌≡◌, refl, Result, Ok, Err, OnOk, IfOk}

pub ok_always : {T E P : Type 0} (r : Result T E) → P → OnOk r P
ok_always (Ok x) fact = fact
ok_always (Err e) fact = tt

-- what holds at each value
pub ok_each : {T E : Type 0} (r : Result T E) (P : T → Type 0) → ((x : T) → r ≡ Ok x → P x) → IfOk r P
ok_each (Ok x) P fact = fact x refl
ok_each (Err e) P fact = tt

-- from what holds at its value, and beside it
pub ok_both : {T E P : Type 0} (r : Result T E) (Q R : T → Type 0) → OnOk r P → IfOk r Q → (P → (x : T) → Q x → R x) → IfOk r R
ok_both (Ok x) Q R beside at both = both beside x at
ok_both (Err e) Q R beside at both = tt
