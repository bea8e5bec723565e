-- What holds of a value that is read, step by step.
use Rattle.std.proofs.Common.{◌≡◌, Bool, true, false, cond, Result, Ok, Err, refl}
use Rattle.std.specs.Prelude.{OnOk}
use Rattle.bson_doc.specs.Bind.{◌>>=◌}

-- a fact of what is read, if something is
abbrev pub Gets : {A E : Type 0} → Result A E → (A → Type 0) → Type 0
Gets (Ok x) P = P x
Gets (Err e) P = Unit {0}

pub bind_gets : {A B E : Type 0} (r : Result A E) (f : A → Result B E) (P : A → Type 0) (Q : B → Type 0) → Gets r P → ((x : A) → P x → Gets (f x) Q) → Gets (r >>= f) Q
bind_gets (Ok x) f P Q one later = later x one
bind_gets (Err e) f P Q one later = tt

pub gets_more : {A E : Type 0} (r : Result A E) (P Q : A → Type 0) → Gets r P → ((x : A) → P x → Q x) → Gets r Q
gets_more (Ok x) P Q one more = more x one
gets_more (Err e) P Q one more = tt

pub cond_gets : {A E : Type 0} (b : Bool) (x y : Result A E) (Q : A → Type 0) → (b ≡ true → Gets x Q) → (b ≡ false → Gets y Q) → Gets (cond b x y) Q
cond_gets true x y Q one two = one refl
cond_gets false x y Q one two = two refl

-- the value of a step that did not fail
pub bind_ok : {A B E : Type 0} (r : Result A E) (f : A → Result B E) (y : B) → (r >>= f) ≡ Ok y → (x : A) × (r ≡ Ok x) × (f x ≡ Ok y)
bind_ok (Ok x) f y e = (x, refl, e)
bind_ok (Err d) f y e = absurd cc

-- a test that didn't refuse
pub guard_ok : {A E : Type 0} (b : Bool) (d : E) (x y : A) → cond b (Err d) (Ok x) ≡ Ok y → (b ≡ false) × (x ≡ y)
guard_ok true d x y e = absurd cc
guard_ok false d x y e = (refl, cc)

-- what holds of a call that went well
pub on_ok : {T E P Q : Type 0} (r : Result T E) → (P → Q) → OnOk r P → OnOk r Q
on_ok (Ok x) f h = f h
on_ok (Err e) f h = tt

pub on_ok_both : {T E P Q S : Type 0} (r : Result T E) → (P → Q → S) → OnOk r P → OnOk r Q → OnOk r S
on_ok_both (Ok x) f h k = f h k
on_ok_both (Err e) f h k = tt
