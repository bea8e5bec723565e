-- How far a reader looks: only up to the first byte that can't continue a value. Nothing after
-- that byte counts.
use Rattle.std.proofs.Common.{◌≡◌, ℕ, zero, suc, ◌+◌, ◌<◌, ◌≤◌, Bool, true, false, cond, List, [], ◌∷◌, ◌++◌, length, take, drop, Result, Ok, Err, refl, sym, ap, subst, ◌∙◌, inl, inr, arith}
use Rattle.std.specs.List.{prefix_len}
use Rattle.std.proofs.lemmas.Bool.{cases_lt}
use Rattle.std.proofs.lemmas.List.{length-append, length-drop}
use Rattle.bson_doc.specs.Bind.{◌>>=◌}
use Rattle.doc_text.specs.declared.fault.Fault.{Fault}
use Rattle.doc_text.specs.declared.fault.Rule.{Rule}
use Rattle.doc_text.specs.declared.fault.Rule.TheVariants.{Number, DuplicateName}
use Rattle.doc_text.specs.Fault.{Read, fault_at, fails}

-- The rules whose fault is at the first byte that can't go on. A number out of range and a name
-- that stands twice are refused where they begin, once they are whole.
abbrev pub IsLocal : Rule → Type 0
IsLocal Number = ⊥
IsLocal DuplicateName = ⊥
IsLocal _ = Unit {0}

-- what a reader gives has a text after it
pub record Kind (B : Type 0) : Type 0 where
  pub rest : B → List ℕ
  pub at : B → List ℕ → B
  pub same : (x : B) → at x (rest x) ≡ x

-- a mark gives no more than that text
abbrev pub mark : Kind (List ℕ)
mark = record { rest = λ r. r; at = λ _ r. r; same = λ _. refl }

abbrev pub read : {A : Type 0} → Kind (A × List ℕ)
read = record { rest = λ x. x.1; at = λ x r. (x.0, r); same = λ _. refl }

-- the reader stopped with at most so many bytes left
abbrev pub Within : {B : Type 0} → Kind B → ℕ → Result B Fault → Type 0
Within K n (Ok x) = length (K.rest x) ≤ n
Within K n (Err e) = IsLocal e.rule → e.left ≤ n

-- Two texts end in different ways. The reader, where it stops before these ends, stops alike.
abbrev pub Alike : {B : Type 0} → Kind B → (after other : List ℕ) → Result B Fault → Result B Fault → Type 0
Alike K after other (Ok x) r = length after < length (K.rest x) → (d : ℕ) × (m : List ℕ) × (K.rest x ≡ d ∷ (m ++ after)) × (r ≡ Ok (K.at x (d ∷ (m ++ other))))
Alike K after other (Err e) r = IsLocal e.rule → length after < e.left → (e2 : Fault) × (r ≡ Err e2)

pub record Local {B : Type 0} (K : Kind B) (f : List ℕ → Result B Fault) : Type 0 where
  pub within : (text : List ℕ) → Within K (length text) (f text)
  pub alike : (c : ℕ) (front after other : List ℕ) → Alike K after other (f (c ∷ (front ++ after))) (f (c ∷ (front ++ other)))

-- ---- steps

pub within_more : {B : Type 0} (K : Kind B) (m n : ℕ) (r : Result B Fault) → m ≤ n → Within K m r → Within K n r
within_more K m n (Ok x) more w = omega arith
within_more K m n (Err e) more w = λ local. omega (arith, w local)

pub alike_within : {B : Type 0} (K : Kind B) (after other : List ℕ) (r s : Result B Fault) → Within K (length after) r → Alike K after other r s
alike_within K after other (Ok x) s w = λ far. absurd (omega arith)
alike_within K after other (Err e) s w = λ local far. absurd (omega (arith, w local))

pub cond_within : {B : Type 0} (K : Kind B) (n : ℕ) (b : Bool) (x y : Result B Fault) → Within K n x → Within K n y → Within K n (cond b x y)
cond_within K n true x y one two = one
cond_within K n false x y one two = two

pub cond_alike : {B : Type 0} (K : Kind B) (after other : List ℕ) (b : Bool) (x y x2 y2 : Result B Fault) → Alike K after other x x2 → Alike K after other y y2 → Alike K after other (cond b x y) (cond b x2 y2)
cond_alike K after other true x y x2 y2 one two = one
cond_alike K after other false x y x2 y2 one two = two

pub bind_within : {B C : Type 0} (K : Kind B) (L : Kind C) (n : ℕ) (r : Result B Fault) (g : B → Result C Fault) → Within K n r → ((x : B) → length (K.rest x) ≤ n → Within L n (g x)) → Within L n (r >>= g)
bind_within K L n (Ok x) g one next = next x one
bind_within K L n (Err e) g one next = one

pub bind_alike : {B C : Type 0} (K : Kind B) (L : Kind C) (n : ℕ) (after other : List ℕ) (r s : Result B Fault) (g h : B → Result C Fault)
    → Within K n r → Alike K after other r s
    → ((x : B) → length (K.rest x) ≤ length after → Within L (length after) (g x))
    → ((x : B) (d : ℕ) (m : List ℕ) → length (d ∷ (m ++ after)) ≤ n → Alike L after other (g (K.at x (d ∷ (m ++ after)))) (h (K.at x (d ∷ (m ++ other)))))
    → Alike L after other (r >>= g) (s >>= h)
bind_alike K L n after other (Err e) s g h small one near next = λ local far. let p = one local far in (p.0, rw p.1 refl)
bind_alike K L n after other (Ok x) s g h small one near next =
    elim (cases_lt (length after) (length (K.rest x))) [
      | inl far ↦
          let p = one far in
          let back : K.at x (p.0 ∷ (p.1 ++ after)) ≡ x = ap (λ (r : List ℕ). K.at x r) (sym p.2) ∙ K.same x in
          let length_is = ap length p.2 in
          rw p.3 (subst (λ y. Alike L after other (g y) (h (K.at x (p.0 ∷ (p.1 ++ other))))) back (next x p.0 p.1 (omega arith)))
      | inr close ↦ alike_within L after other (g x) (s >>= h) (near x close)
    ]

-- one reader after the other
pub bind_local : {B C : Type 0} (K : Kind B) (L : Kind C) (f : List ℕ → Result B Fault) (g : B → Result C Fault) → Local K f → ((x : B) → Local L (λ r. g (K.at x r))) → Local L (λ text. f text >>= g)
bind_local {B = B} K L f g one next = record {
  within = λ text. bind_within K L (length text) (f text) g (one.within text) (λ x small. within_more L (length (K.rest x)) (length text) (g x) small (inner x));
  alike = λ c front after other. bind_alike K L (length (c ∷ (front ++ after))) after other (f (c ∷ (front ++ after))) (f (c ∷ (front ++ other))) g g (one.within (c ∷ (front ++ after))) (one.alike c front after other)
      (λ x close. within_more L (length (K.rest x)) (length after) (g x) close (inner x))
      (λ x d m small. (next x).alike d m after other);
}
  where
    inner : (x : B) → Within L (length (K.rest x)) (g x)
    inner x = subst (λ y. Within L (length (K.rest x)) (g y)) (K.same x) ((next x).within (K.rest x))

-- a prefix that may be empty
pub front_alike : {B : Type 0} (K : Kind B) (f : List ℕ → Result B Fault) → Local K f → (front after other : List ℕ) → Alike K after other (f (front ++ after)) (f (front ++ other))
front_alike K f local [] after other = alike_within K after other (f after) (f other) (local.within after)
front_alike K f local (c ∷ front) after other = local.alike c front after other

pub refused : {B : Type 0} (K : Kind B) (after other : List ℕ) (rule : Rule) (s t : List ℕ) → Alike K after other (fails rule s) (fails rule t)
refused K after other rule s t = λ _ _. (fault_at rule t, refl)

pub ok_alike : {A : Type 0} (v : A) (front after other : List ℕ) → Alike read after other (Ok (v, front ++ after)) (Ok (v, front ++ other))
ok_alike v [] after other = λ far. absurd (omega arith)
ok_alike v (c ∷ front) after other = λ _. (c, front, refl, refl)

pub marked_alike : (front after other : List ℕ) → Alike mark after other (Ok (front ++ after)) (Ok (front ++ other))
marked_alike [] after other = λ far. absurd (omega arith)
marked_alike (c ∷ front) after other = λ _. (c, front, refl, refl)

pub ok_local : {A : Type 0} (v : A) → Local read (λ r. Ok (v, r))
ok_local v = record { within = λ text. omega arith; alike = λ c front after other. ok_alike v (c ∷ front) after other }

pub map_local : {A C : Type 0} (f : List ℕ → Read A) (v : A → C) → Local read f → Local read (λ text. f text >>= λ x. Ok (v x.0, x.1))
map_local f v one = bind_local read read f (λ x. Ok (v x.0, x.1)) one (λ x. ok_local (v x.0))

-- ---- runs of bytes of a class

-- a text cut inside a prefix
pub record Cut (n : ℕ) (front after other : List ℕ) : Type 0 where
  pub first : ℕ
  pub later : List ℕ
  pub rest : drop n (front ++ after) ≡ first ∷ (later ++ after)
  pub other_rest : drop n (front ++ other) ≡ first ∷ (later ++ other)
  pub same : take n (front ++ other) ≡ take n (front ++ after)

pub cut : (n : ℕ) (front after other : List ℕ) → n < length front → Cut n front after other
cut n [] after other inside = absurd (omega arith)
cut zero (c ∷ front) after other inside = record { first = c; later = front; rest = refl; other_rest = refl; same = refl }
cut (suc n) (c ∷ front) after other inside =
    let inner = cut n front after other (omega arith) in
    record { first = inner.first; later = inner.later; rest = inner.rest; other_rest = inner.other_rest; same = ap (λ (x : List ℕ). c ∷ x) inner.same }

-- a run that ends inside the prefix is the same
pub run_same : (p : ℕ → Bool) (front after other : List ℕ) → prefix_len p (front ++ after) < length front → prefix_len p (front ++ other) ≡ prefix_len p (front ++ after)
run_same p [] after other inside = absurd (omega arith)
run_same p (c ∷ front) after other inside = step (p c) (prefix_len p (front ++ after)) (prefix_len p (front ++ other)) inside (run_same p front after other)
  where
    step : (b : Bool) (n k : ℕ) → cond b (1 + n) 0 < suc (length front) → (n < length front → k ≡ n) → cond b (1 + k) 0 ≡ cond b (1 + n) 0
    step true n k inside same = ap (λ (i : ℕ). 1 + i) (same (omega arith))
    step false n k inside same = refl

-- a run that ends after the prefix does so whatever is there
pub run_past : (p : ℕ → Bool) (front after other : List ℕ) → length front ≤ prefix_len p (front ++ after) → length front ≤ prefix_len p (front ++ other)
run_past p [] after other past = omega arith
run_past p (c ∷ front) after other past = step (p c) (prefix_len p (front ++ after)) (prefix_len p (front ++ other)) past (run_past p front after other)
  where
    step : (b : Bool) (n k : ℕ) → suc (length front) ≤ cond b (1 + n) 0 → (length front ≤ n → length front ≤ k) → suc (length front) ≤ cond b (1 + k) 0
    step true n k past more = let later = more (omega arith) in omega arith
    step false n k past more = absurd (omega arith)

pub inside_front : (n : ℕ) (front after : List ℕ) → length after < length (drop n (front ++ after)) → n < length front
inside_front n front after far = omega (arith, length-drop n (front ++ after), length-append front after)

pub run_alike : (p : ℕ → Bool) (front after other : List ℕ)
    → Alike read after other (Ok (take (prefix_len p (front ++ after)) (front ++ after), drop (prefix_len p (front ++ after)) (front ++ after))) (Ok (take (prefix_len p (front ++ other)) (front ++ other), drop (prefix_len p (front ++ other)) (front ++ other)))
run_alike p front after other = λ far.
    let inside = inside_front (prefix_len p (front ++ after)) front after far in
    let parts = cut (prefix_len p (front ++ after)) front after other inside in
    (parts.first, parts.later, parts.rest, rw (run_same p front after other inside, parts.same, parts.other_rest) refl)

pub after_alike : (p : ℕ → Bool) (front after other : List ℕ)
    → Alike mark after other (Ok (drop (prefix_len p (front ++ after)) (front ++ after))) (Ok (drop (prefix_len p (front ++ other)) (front ++ other)))
after_alike p front after other = λ far.
    let inside = inside_front (prefix_len p (front ++ after)) front after far in
    let parts = cut (prefix_len p (front ++ after)) front after other inside in
    (parts.first, parts.later, parts.rest, rw (run_same p front after other inside, parts.other_rest) refl)

pub drop_within : (n : ℕ) (text : List ℕ) → length (drop n text) ≤ length text
drop_within n text = omega (arith, length-drop n text)
