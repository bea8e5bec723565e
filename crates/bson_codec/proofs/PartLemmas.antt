-- A part that is read is the part that was written, byte for byte; and what was written is read again.
use Rattle.std.proofs.Common.{◌≡◌, ℕ, zero, suc, ◌+◌, ◌-◌, ◌^◌, ◌<◌, ◌≤◌, Bool, true, false, cond, ltb, List, [], ◌∷◌, ◌++◌, length, get_or, take, drop, Option, Some, None, Result, Ok, Err, refl, sym, ap, subst, ◌∙◌, append_assoc, add-one, Contains, arith, inl, inr}
use Rattle.std.specs.Prelude.{slice_index, ◌||◌, nat_le, nat_lt, ◌==◌, ◌&&◌, is_some, position}
use Rattle.std.specs.List.{position_or_len}
use Rattle.std.specs.Str.Lossy.{utf8_valid_len, utf8_error_len}
use Rattle.std.proofs.lemmas.List.Quantifiers.{position-Some}
use Rattle.std.specs.Str.{is_utf8}
use Rattle.std.proofs.lemmas.Bool.{cases_Bool, cases_lt, ltb-false, le-ltb, lt-ltb, eqb-true, or_parts}
use Rattle.std.proofs.lemmas.Bool.Decides.{nat_tests}
use Rattle.std.proofs.lemmas.List.{take_at, drop_at, take-append-drop, length-append, length-take, get_or-drop, get_or-take, get_or_past}
use Rattle.std.proofs.lemmas.Nat.{le_bytes_4, le_bytes_8}
use Rattle.bson_doc.specs.Bind.{◌>>=◌}
use Rattle.bson_doc.proofs.BindLemmas.{bind_ok, guard_ok}
use Rattle.byteorder.specs.Endian.{little_number}
use Rattle.byteorder.specs.Numbers.{little_from-take, little_from-lt, little_number-reads_back}
use Rattle.bson_codec.specs.declared.error.DecodeError.{DecodeError}
use Rattle.bson_codec.specs.declared.error.DecodeError.TheVariants as rules
use Rattle.bson_codec.specs.Numbers.{number_bytes, number_in}
use Rattle.bson_codec.specs.Reading.{number_at, bytes_at, byte_at, length_at, utf8, text_at, name_at, name_up_to, known_name_at}
use Rattle.bson_codec.proofs.SpellingLemmas.{length-number_bytes}
use Rattle.bson_codec.proofs.TextLemmas.{utf8-ok, clean_front}

abbrev pub IsBytes : List ℕ → Type 0
IsBytes bytes = (i : ℕ) → get_or bytes i 0 < 256

pub IsBytes-drop : (n : ℕ) (bytes : List ℕ) → IsBytes bytes → IsBytes (drop n bytes)
IsBytes-drop n bytes h i = rw get_or-drop (h (n + i))

pub IsBytes-take : (n : ℕ) (bytes : List ℕ) → IsBytes bytes → IsBytes (take n bytes)
IsBytes-take n bytes h i =
    elim (cases_lt i n) [
      | inl lt ↦ rw (get_or-take n bytes i 0 lt) (h i)
      | inr le ↦ rw (get_or_past (take n bytes) i 0 (omega (arith, length-take n bytes))) (omega arith)
    ]

pub IsBytes-rest : (b : ℕ) (bytes : List ℕ) → IsBytes (b ∷ bytes) → IsBytes bytes
IsBytes-rest b bytes h i = h (suc i)

pub guard_held : {A : Type 0} (b : Bool) (d : DecodeError) (x y : A) → cond b (Ok x) (Err d) ≡ Ok y → (b ≡ true) × (x ≡ y)
guard_held true d x y e = (refl, cc)
guard_held false d x y e = absurd cc

abbrev done : {A : Type 0} → A → Result A DecodeError
done x = Ok x

pub ok_is : {A : Type 0} (x y : A) → done x ≡ done y → x ≡ y
ok_is x y e = cc

-- what a reader took from the front
pub record Takes (bytes text rest : List ℕ) : Type 0 where
  pub parts : bytes ≡ text ++ rest
  pub rest_fits : IsBytes rest

pub Takes-then : (a x b y c : List ℕ) → Takes a x b → Takes b y c → Takes a (x ++ y) c
Takes-then a x b y c p q = record { parts = p.parts ∙ ap (λ (t : List ℕ). x ++ t) q.parts ∙ sym (append_assoc x y c); rest_fits = q.rest_fits }

-- ---- numbers: a number is written as the bytes from which it was read

pub record IsWide (n : ℕ) : Type 0 where
  pub back : (bytes : List ℕ) → n ≤ length bytes → IsBytes bytes → number_bytes n (number_in n bytes) ≡ take n bytes
  pub below : (bytes : List ℕ) → IsBytes bytes → number_in n bytes < 256 ^ n

pub wide4 : IsWide 4
unfolding number_bytes number_in
wide4 = record {
  back = λ bytes long fits.
      let front : little_number 4 (take 4 bytes) ≡ little_number 4 bytes = little_from-take 0 4 4 bytes (omega arith) in
      le_bytes_4 (take 4 bytes) (little_number 4 bytes) (omega (arith, length-take 4 bytes)) (IsBytes-take 4 bytes fits) (sym front ∙ omega arith);
  below = λ bytes fits. little_from-lt 0 4 bytes fits;
}

pub wide8 : IsWide 8
unfolding number_bytes number_in
wide8 = record {
  back = λ bytes long fits.
      let front : little_number 8 (take 8 bytes) ≡ little_number 8 bytes = little_from-take 0 8 8 bytes (omega arith) in
      le_bytes_8 (take 8 bytes) (little_number 8 bytes) (omega (arith, length-take 8 bytes)) (IsBytes-take 8 bytes fits) (sym front ∙ omega arith);
  below = λ bytes fits. little_from-lt 0 8 bytes fits;
}

pub number_takes : (n : ℕ) → IsWide n → (bytes : List ℕ) (x : ℕ) (rest : List ℕ) → IsBytes bytes → number_at n bytes ≡ Ok (x, rest) → Takes bytes (number_bytes n x) rest × (x < 256 ^ n)
number_takes n wide bytes x rest fits e =
    let g = guard_ok (ltb (length bytes) n) rules.Length (number_in n bytes, drop n bytes) (x, rest) e in
    let long : n ≤ length bytes = ltb-false _ _ g.0 in
    subst (λ (p : ℕ × List ℕ). Takes bytes (number_bytes n p.0) p.1 × (p.0 < 256 ^ n)) g.1
    (record { parts = rw (wide.back bytes long fits) (sym (take-append-drop n bytes)); rest_fits = IsBytes-drop n bytes fits }, wide.below bytes fits)

pub number_back : (n x : ℕ) (rest : List ℕ) → x < 256 ^ n → number_in n (number_bytes n x ++ rest) ≡ x
unfolding number_bytes number_in
number_back n x rest small = little_number-reads_back n x rest small

pub number_again : (n x : ℕ) (rest : List ℕ) → x < 256 ^ n → number_at n (number_bytes n x ++ rest) ≡ Ok (x, rest)
number_again n x rest small =
    let counts = length-number_bytes n x in
    let long : ltb (length (number_bytes n x ++ rest)) n ≡ false = le-ltb _ _ (omega (arith, length-append (number_bytes n x) rest)) in
    rw (long, number_back n x rest small, drop_at (number_bytes n x) rest n counts) refl

-- ---- so many bytes

pub bytes_take : (n : ℕ) (bytes xs rest : List ℕ) → IsBytes bytes → bytes_at n bytes ≡ Ok (xs, rest) → Takes bytes xs rest × (length xs ≡ n) × IsBytes xs
bytes_take n bytes xs rest fits e =
    let g = guard_ok (ltb (length bytes) n) rules.Length (take n bytes, drop n bytes) (xs, rest) e in
    let long : n ≤ length bytes = ltb-false _ _ g.0 in
    subst (λ (p : List ℕ × List ℕ). Takes bytes p.0 p.1 × (length p.0 ≡ n) × IsBytes p.0) g.1
    (record { parts = sym (take-append-drop n bytes); rest_fits = IsBytes-drop n bytes fits }, omega (arith, length-take n bytes), IsBytes-take n bytes fits)

pub bytes_again : (n : ℕ) (xs rest : List ℕ) → length xs ≡ n → bytes_at n (xs ++ rest) ≡ Ok (xs, rest)
bytes_again n xs rest counts =
    let long : ltb (length (xs ++ rest)) n ≡ false = le-ltb _ _ (omega (arith, length-append xs rest)) in
    rw (long, take_at xs rest n counts, drop_at xs rest n counts) refl

-- ---- lengths

pub length_takes : (least : ℕ) (bytes : List ℕ) (n : ℕ) (rest : List ℕ) → IsBytes bytes → length_at least bytes ≡ Ok (n, rest) → Takes bytes (number_bytes 4 n) rest × (least ≤ n) × (n < 2 ^ 31)
unfolding length_at
length_takes least bytes n rest fits e =
    let b = bind_ok (number_at 4 bytes) (λ n. cond (nat_lt n.0 least || nat_le (2 ^ 31) n.0) (Err rules.Length) (Ok n)) (n, rest) e in
    let g = guard_ok (nat_lt b.0.0 least || nat_le (2 ^ 31) b.0.0) rules.Length b.0 (n, rest) b.2 in
    let tests = or_parts (nat_lt b.0.0 least) (nat_le (2 ^ 31) b.0.0) g.0 in
    let t = number_takes 4 wide4 bytes b.0.0 b.0.1 fits b.1 in
    let enough : least ≤ b.0.0 = ltb-false _ _ tests.0 in
    let below : b.0.0 < 2 ^ 31 = grind (arith, nat_tests, tests.1) in
    subst (λ (p : ℕ × List ℕ). Takes bytes (number_bytes 4 p.0) p.1 × (least ≤ p.0) × (p.0 < 2 ^ 31)) g.1 (t.0, enough, below)

pub length_again : (least n : ℕ) (rest : List ℕ) → least ≤ n → n < 2 ^ 31 → length_at least (number_bytes 4 n ++ rest) ≡ Ok (n, rest)
unfolding length_at
length_again least n rest enough below =
    let first : nat_lt n least ≡ false = le-ltb _ _ enough in
    let second : nat_le (2 ^ 31) n ≡ false = grind (arith, nat_tests) in
    rw (number_again 4 n rest (omega arith), first, second) refl

-- ---- strings

last_zero : (xs : List ℕ) (m : ℕ) → length xs ≡ suc m → slice_index xs m ≡ 0 → xs ≡ take m xs ++ 0 ∷ []
last_zero [] m counts ends = absurd (omega arith)
last_zero (x ∷ []) zero counts ends = ap (λ (b : ℕ). b ∷ []) ends
last_zero (x ∷ y ∷ xs) zero counts ends = absurd (omega arith)
last_zero (x ∷ xs) (suc m) counts ends = ap (λ (t : List ℕ). x ∷ t) (last_zero xs m (omega arith) ends)

framed : (n : ℕ) (whole letters : List ℕ) → whole ≡ letters ++ 0 ∷ [] → n ≡ length letters + 1 → number_bytes 4 n ++ whole ≡ number_bytes 4 (length letters + 1) ++ letters ++ 0 ∷ []
framed n whole letters is counts = rw (is, counts) (sym (append_assoc (number_bytes 4 (length letters + 1)) letters (0 ∷ [])))

abbrev after_letters : ℕ → List ℕ × List ℕ → List ℕ → Result (List ℕ × List ℕ) DecodeError
after_letters n whole letters = cond (slice_index whole.0 (n - 1) == 0) (Ok (letters, whole.1)) (Err rules.Length)

abbrev after_whole : ℕ → List ℕ × List ℕ → Result (List ℕ × List ℕ) DecodeError
after_whole n whole = utf8 (take (n - 1) whole.0) >>= after_letters n whole

pub text_takes : (bytes letters rest : List ℕ) → IsBytes bytes → text_at bytes ≡ Ok (letters, rest) → Takes bytes (number_bytes 4 (length letters + 1) ++ letters ++ 0 ∷ []) rest × (is_utf8 letters ≡ true)
unfolding text_at
text_takes bytes letters rest fits e =
    let a = bind_ok (length_at 1 bytes) (λ n. bytes_at n.0 n.1 >>= after_whole n.0) (letters, rest) e in
    let n = a.0.0 in
    let b = bind_ok (bytes_at n a.0.1) (after_whole n) (letters, rest) a.2 in
    let c = bind_ok (utf8 (take (n - 1) b.0.0)) (after_letters n b.0) (letters, rest) b.2 in
    let g = guard_held (slice_index b.0.0 (n - 1) == 0) rules.Length (c.0, b.0.1) (letters, rest) c.2 in
    let valid = utf8-ok (take (n - 1) b.0.0) c.0 c.1 in
    let t0 = length_takes 1 bytes n a.0.1 fits a.1 in
    let t1 = bytes_take n a.0.1 b.0.0 b.0.1 t0.0.rest_fits b.1 in
    let whole : b.0.0 ≡ c.0 ++ 0 ∷ [] = last_zero b.0.0 (n - 1) (omega (arith, t1.1, t0.1)) (eqb-true _ _ g.0) ∙ ap (λ (t : List ℕ). t ++ 0 ∷ []) (sym valid.1) in
    let counts : n ≡ length c.0 + 1 = omega (arith, t1.1, ap length whole, length-append c.0 (0 ∷ [])) in
    let both = Takes-then bytes (number_bytes 4 n) a.0.1 b.0.0 b.0.1 t0.0 t1.0 in
    let spelled = framed n b.0.0 c.0 whole counts in
    let sound : is_utf8 c.0 ≡ true = rw valid.1 valid.0 in
    subst (λ (p : List ℕ × List ℕ). Takes bytes (number_bytes 4 (length p.0 + 1) ++ p.0 ++ 0 ∷ []) p.1 × (is_utf8 p.0 ≡ true)) g.1
    (subst (λ (t : List ℕ). Takes bytes t b.0.1) spelled both, sound)

at_zero : (letters rest : List ℕ) → slice_index (letters ++ 0 ∷ rest) (length letters) ≡ 0
at_zero [] rest = refl
at_zero (x ∷ letters) rest = at_zero letters rest

pub text_again : (letters rest : List ℕ) → is_utf8 letters ≡ true → length letters + 1 < 2 ^ 31 → text_at (number_bytes 4 (length letters + 1) ++ letters ++ 0 ∷ [] ++ rest) ≡ Ok (letters, rest)
unfolding text_at
text_again letters rest valid short =
    let n = length letters + 1 in
    let front : n - 1 ≡ length letters = omega arith in
    let whole = bytes_again n (letters ++ 0 ∷ []) rest (omega (arith, length-append letters (0 ∷ []))) in
    let regrouped : number_bytes 4 n ++ letters ++ 0 ∷ [] ++ rest ≡ number_bytes 4 n ++ ((letters ++ 0 ∷ []) ++ rest) = simp append_assoc in
    ap text_at regrouped ∙ rw (length_again 1 n ((letters ++ 0 ∷ []) ++ rest) (omega arith) short, whole, front, take_at letters (0 ∷ []) (length letters) refl, valid, at_zero letters []) refl

-- ---- one byte

pub byte_takes : (bytes : List ℕ) (b : ℕ) (rest : List ℕ) → IsBytes bytes → byte_at bytes ≡ Ok (b, rest) → Takes bytes (b ∷ []) rest
byte_takes [] b rest fits e = absurd cc
byte_takes (c ∷ bytes) b rest fits e =
    subst (λ (p : ℕ × List ℕ). Takes (c ∷ bytes) (p.0 ∷ []) p.1) (ok_is (c, bytes) (b, rest) e) (record { parts = refl; rest_fits = IsBytes-rest c bytes fits })

-- ---- names

split_at_zero : (bytes : List ℕ) (n : ℕ) → n < length bytes → get_or bytes n 0 ≡ 0 → bytes ≡ (take n bytes ++ 0 ∷ []) ++ drop (suc n) bytes
split_at_zero [] n within ends = absurd (omega arith)
split_at_zero (b ∷ bytes) zero within ends = ap (λ (c : ℕ). c ∷ bytes) ends
split_at_zero (b ∷ bytes) (suc n) within ends = ap (λ (t : List ℕ). b ∷ t) (split_at_zero bytes n (omega arith) ends)

-- a name that was read
pub record NameTakes (bytes name rest : List ℕ) : Type 0 where
  pub takes : Takes bytes (name ++ 0 ∷ []) rest
  pub valid : is_utf8 name ≡ true
  pub clean : ¬ Contains name 0

cut_takes : (o : Option ℕ) (bytes name rest : List ℕ) → IsBytes bytes → position (λ b. b == 0) bytes ≡ o → name_up_to o bytes ≡ Ok (name, rest) → NameTakes bytes name rest
cut_takes (Some n) bytes name rest fits first e =
    let b = bind_ok (utf8 (take n bytes)) (λ letters. Ok (letters, drop (n + 1) bytes)) (name, rest) e in
    let known = position-Some (λ (b : ℕ). b == 0) bytes n 0 first in
    let valid = utf8-ok (take n bytes) b.0 b.1 in
    let parts = split_at_zero bytes n known.0 (eqb-true _ _ known.1) in
    subst (λ (p : List ℕ × List ℕ). NameTakes bytes p.0 p.1) (ok_is (b.0, drop (n + 1) bytes) (name, rest) b.2)
    (record {
      takes = record { parts = rw (valid.1, add-one n) parts; rest_fits = IsBytes-drop (n + 1) bytes fits };
      valid = rw valid.1 valid.0;
      clean = rw valid.1 (clean_front bytes n first);
    })
cut_takes None bytes name rest fits first e = elim (cases_Bool (is_some (utf8_error_len (drop (utf8_valid_len bytes) bytes)))) [
  | inl broken ↦ absurd (cc (rw broken at e))
  | inr other ↦ absurd (cc (rw other at e))
]

pub name_takes : (bytes name rest : List ℕ) → IsBytes bytes → name_at bytes ≡ Ok (name, rest) → NameTakes bytes name rest
unfolding name_at
name_takes bytes name rest fits e = cut_takes (position (λ b. b == 0) bytes) bytes name rest fits refl e

pub known_name_takes : (name bytes rest : List ℕ) → IsBytes bytes → known_name_at name bytes ≡ Ok rest → Takes bytes name rest
unfolding known_name_at
known_name_takes [] bytes rest fits e = subst (λ (r : List ℕ). Takes bytes [] r) (ok_is bytes rest e) (record { parts = refl; rest_fits = fits })
known_name_takes (b ∷ name) [] rest fits e = absurd cc
known_name_takes (b ∷ name) (c ∷ bytes) rest fits e = elim (cases_Bool (b == c)) [
  | inl same ↦
      let later = known_name_takes name bytes rest (IsBytes-rest c bytes fits) (rw same at e) in
      record { parts = rw (eqb-true b c same) (ap (λ (t : List ℕ). c ∷ t) later.parts); rest_fits = later.rest_fits }
  | inr apart ↦ elim (cases_Bool (nat_lt c 0x80 || (nat_le 0xC2 c && nat_lt c 0xF5))) [
    | inl named ↦ absurd (cc (rw (apart, named) at e))
    | inr broken ↦ absurd (cc (rw (apart, broken) at e))
  ]
]

pub known_name_again : (name rest : List ℕ) → known_name_at name (name ++ rest) ≡ Ok rest
unfolding known_name_at
known_name_again [] rest = refl
known_name_again (b ∷ name) rest =
    let same : (b == b) ≡ true = grind (arith, nat_tests) in
    rw same (known_name_again name rest)

-- the first zero after a name without one
first_at : (name rest : List ℕ) → ¬ Contains name 0 → position_or_len (λ b. b == 0) (name ++ 0 ∷ rest) ≡ length name
first_at [] rest clean = refl
first_at (b ∷ name) rest clean = elim (cases_Bool (b == 0)) [
  | inl none ↦ absurd (clean (0, omega arith, eqb-true b 0 none))
  | inr some ↦ rw some (omega (arith, first_at name rest (λ (k, within, there). clean (suc k, omega arith, there))))
]

pub name_again : (name rest : List ℕ) → is_utf8 name ≡ true → ¬ Contains name 0 → name_at (name ++ 0 ∷ rest) ≡ Ok (name, rest)
unfolding name_at
name_again name rest valid clean =
    let first = first_at name rest clean in
    let there : ltb (length name) (length (name ++ 0 ∷ rest)) ≡ true = lt-ltb _ _ (omega (arith, length-append name (0 ∷ rest))) in
    let found : position (λ b. b == 0) (name ++ 0 ∷ rest) ≡ Some (length name) = rw (first, there) refl in
    let after : drop (length name + 1) (name ++ 0 ∷ rest) ≡ rest =
    ap (drop (length name + 1)) (sym (append_assoc name (0 ∷ []) rest)) ∙ drop_at (name ++ 0 ∷ []) rest (length name + 1) (length-append name (0 ∷ [])) in
    rw (found, take_at name (0 ∷ rest) (length name) refl, valid, after) refl

pub ruleset part_lemmas = (number_again, text_takes, text_again, name_takes, name_again, known_name_takes, known_name_again, byte_takes)
