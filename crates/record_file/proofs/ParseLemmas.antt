-- How the records of some bytes are read one after another, and that they are the only ones.
use Rattle.std.proofs.Common.{◌≡◌, ◌≢◌, inl, inr, ℕ, zero, suc, ◌+◌, ◌-◌, ◌^◌, ◌<◌, ◌≤◌, List, [], ◌∷◌, ◌++◌, length, get_or, take, drop, refl, sym, ◌∙◌, ap, subst, arith, length-take, length-drop, length-append, take-append-drop}
use Rattle.std.specs.Prelude.{Vec}
use Rattle.std.specs.Int.{to_le_bytes, from_le_bytes, w32}
use Rattle.std.specs.declared.alloc.Global.{Global}
use Rattle.std.proofs.lemmas.List.{append_assoc, append_cancel_left, map-append, take_all, take_at}
use Rattle.std.proofs.lemmas.Nat.{le_bytes_4, from_le_bytes-to_le_bytes_4}
use Rattle.record_file.specs.Records.{AreOpen, AreInFront, HasRecords, body, lists}
use Rattle.record_file.specs.Parsed.{IsFirst, IsParsed}
use Rattle.record_file.proofs.ListLemmas.{open_push}

five : (bytes : List ℕ) → 5 ≤ length bytes
    → bytes ≡ get_or bytes 0 0 ∷ get_or bytes 1 0 ∷ get_or bytes 2 0 ∷ get_or bytes 3 0 ∷ get_or bytes 4 0 ∷ drop 5 bytes
five [] long = absurd (omega arith)
five (a ∷ []) long = absurd (omega arith)
five (a ∷ b ∷ []) long = absurd (omega arith)
five (a ∷ b ∷ c ∷ []) long = absurd (omega arith)
five (a ∷ b ∷ c ∷ d ∷ []) long = absurd (omega arith)
five (a ∷ b ∷ c ∷ d ∷ e ∷ rest) long = refl

pub first_is : (bytes : List ℕ) (n : ℕ) → 5 ≤ length bytes → ((i : ℕ) → get_or bytes i 0 < 256)
    → n ≡ from_le_bytes w32 (get_or bytes 1 0 ∷ get_or bytes 2 0 ∷ get_or bytes 3 0 ∷ get_or bytes 4 0 ∷ []) → n < 2 ^ 32
    → n ≤ length (take (length bytes - 5) (drop 5 bytes)) → get_or bytes 0 0 ≢ 0
    → IsFirst bytes (get_or bytes 0 0) (take n (take (length bytes - 5) (drop 5 bytes)))
    (take (length (take (length bytes - 5) (drop 5 bytes)) - n) (drop n (take (length bytes - 5) (drop 5 bytes))))
first_is bytes n long small_bytes n_is small fits is_open =
    let digits : List ℕ = get_or bytes 1 0 ∷ get_or bytes 2 0 ∷ get_or bytes 3 0 ∷ get_or bytes 4 0 ∷ [] in
    let rest = take (length bytes - 5) (drop 5 bytes) in
    let piece = take n rest in
    let after = take (length rest - n) (drop n rest) in
    let piece_length : length piece ≡ n = omega (arith, length-take n rest, fits) in
    let rest_is : rest ≡ drop 5 bytes = take_all (length bytes - 5) (drop 5 bytes) (omega (arith, length-drop 5 bytes)) in
    let after_is : after ≡ drop n rest = take_all (length rest - n) (drop n rest) (omega (arith, length-drop n rest)) in
    let whole : piece ++ after ≡ drop 5 bytes = ap (λ (l : List ℕ). piece ++ l) after_is ∙ take-append-drop n rest ∙ rest_is in
    let digit : (i : ℕ) → get_or digits i 0 < 256 = each_digit (get_or bytes 1 0) (get_or bytes 2 0) (get_or bytes 3 0) (get_or bytes 4 0) (small_bytes 1) (small_bytes 2) (small_bytes 3) (small_bytes 4) in
    let coded : to_le_bytes w32 (length piece) ≡ digits = ap (to_le_bytes w32) piece_length ∙ le_bytes_4 digits n refl digit n_is in (
      is_open,
      omega (arith, piece_length),
      five bytes long ∙ ap (λ (l : List ℕ). get_or bytes 0 0 ∷ digits ++ l) (sym whole) ∙ ap (λ (l : List ℕ). get_or bytes 0 0 ∷ l ++ (piece ++ after)) (sym coded),
    )
  where
    each_digit : (a b c d : ℕ) → a < 256 → b < 256 → c < 256 → d < 256 → (i : ℕ) → get_or (a ∷ b ∷ c ∷ d ∷ []) i 0 < 256
    each_digit a b c d p q r s zero = p
    each_digit a b c d p q r s (suc zero) = q
    each_digit a b c d p q r s (suc (suc zero)) = r
    each_digit a b c d p q r s (suc (suc (suc zero))) = s
    each_digit a b c d p q r s (suc (suc (suc (suc i)))) = omega arith

-- one record stands at the front of some bytes, and not two
pub same_first : (gate gate' : ℕ) (piece piece' rest rest' : List ℕ) → length piece < 2 ^ 32 → length piece' < 2 ^ 32
    → gate ∷ body piece ++ rest ≡ gate' ∷ body piece' ++ rest' → (piece ≡ piece') × (rest ≡ rest')
same_first gate gate' piece piece' rest rest' small small' same =
    let code : to_le_bytes w32 (length piece) ≡ to_le_bytes w32 (length piece') = ap (λ (l : List ℕ). take 4 (drop 1 l)) same in
    let size : length piece ≡ length piece' = sym (from_le_bytes-to_le_bytes_4 (length piece) small) ∙ ap (from_le_bytes w32) code ∙ from_le_bytes-to_le_bytes_4 (length piece') small' in
    let both : piece ++ rest ≡ piece' ++ rest' = ap (λ (l : List ℕ). drop 5 l) same in
    let pieces : piece ≡ piece' = sym (take_at piece rest (length piece) refl) ∙ ap (λ (l : List ℕ). take (length piece) l) both ∙ take_at piece' rest' (length piece) (sym size) in
    (pieces, append_cancel_left piece rest rest' (both ∙ ap (λ (l : List ℕ). l ++ rest') (sym pieces)))

-- what is left after a record has records too
pub left_after : (bytes : List ℕ) (records : List (List ℕ)) (gate : ℕ) (piece rest : List ℕ) → AreInFront bytes records → IsFirst bytes gate piece rest
    → (others : List (List ℕ)) × AreInFront rest others
left_after bytes [] gate piece rest (front, later, none, is) (is_open, small, first) =
    let same : 0 ∷ later ≡ gate ∷ body piece ++ rest = sym (is ∙ ap (λ (l : List ℕ). l ++ 0 ∷ later) none) ∙ first in
    absurd (is_open (sym (ap (λ (l : List ℕ). get_or l 0 0) same)))
left_after bytes (other ∷ records) gate piece rest (front, later, (gate', others, is_open', small', front_is, open_others), is) (is_open, small, first) =
    let same : gate ∷ body piece ++ rest ≡ gate' ∷ body other ++ (others ++ 0 ∷ later) =
    sym first ∙ is ∙ ap (λ (l : List ℕ). l ++ 0 ∷ later) front_is ∙ append_assoc (gate' ∷ body other) others (0 ∷ later) in
    (records, (others, later, open_others, (same_first gate gate' piece other rest (others ++ 0 ∷ later) small small' same).1))

-- one record more is read
pub reads_more : (bytes rest after piece front : List ℕ) (records : List (Vec ℕ Global)) (v : Vec ℕ Global) (gate : ℕ) → AreOpen (lists records) front
    → bytes ≡ front ++ rest → IsFirst rest gate piece after → v.items ≡ piece
    → (longer : List ℕ) × AreOpen (lists (records ++ v ∷ [])) longer × (bytes ≡ longer ++ after)
reads_more bytes rest after piece front records v gate opened is (is_open, small, first) v_is = (
  front ++ gate ∷ body piece,
  subst (λ (l : List (List ℕ)). AreOpen l (front ++ gate ∷ body piece))
      (ap (λ (p : List ℕ). lists records ++ p ∷ []) (sym v_is) ∙ sym (map-append (λ (w : Vec ℕ Global). w.items) records (v ∷ [])))
      (open_push (lists records) front gate piece opened is_open small),
  is ∙ ap (λ (l : List ℕ). front ++ l) first ∙ sym (append_assoc front (gate ∷ body piece) after),
)

-- no record is left
pub reads_all : (bytes rest : List ℕ) (records : List (List ℕ)) (left : List (List ℕ)) → (front : List ℕ) × AreOpen records front × (bytes ≡ front ++ rest)
    → AreInFront rest left → ((gate : ℕ) (piece after : List ℕ) → IsFirst rest gate piece after → ⊥) → IsParsed bytes records (length bytes - length rest + 1)
reads_all bytes rest records [] (front, opened, is) (none, later, none_is, rest_is) no_more =
    let closed : rest ≡ 0 ∷ later = rest_is ∙ ap (λ (l : List ℕ). l ++ 0 ∷ later) none_is in (
      front,
      later,
      opened,
      is ∙ ap (λ (l : List ℕ). front ++ l) closed,
      omega (arith, ap length is, length-append front rest),
    )
reads_all bytes rest records (other ∷ left) read (front, later, (gate, others, is_open, small, front_is, open_others), rest_is) no_more =
    absurd (no_more gate other (others ++ 0 ∷ later) (is_open, small, rest_is ∙ ap (λ (l : List ℕ). l ++ 0 ∷ later) front_is ∙ append_assoc (gate ∷ body other) others (0 ∷ later)))

-- the records in front of a closed gate are the only ones
same_open : (records others : List (List ℕ)) (front front' rest rest' : List ℕ) → AreOpen records front → AreOpen others front'
    → front ++ 0 ∷ rest ≡ front' ++ 0 ∷ rest' → records ≡ others
same_open [] [] front front' rest rest' none none' same = refl
same_open [] (other ∷ others) front front' rest rest' none (gate, later, is_open, small, is, more) same =
    let heads : 0 ∷ rest ≡ (gate ∷ body other ++ later) ++ 0 ∷ rest' = sym (ap (λ (l : List ℕ). l ++ 0 ∷ rest) none) ∙ same ∙ ap (λ (l : List ℕ). l ++ 0 ∷ rest') is in
    absurd (is_open (sym (ap (λ (l : List ℕ). get_or l 0 0) heads)))
same_open (piece ∷ records) [] front front' rest rest' (gate, later, is_open, small, is, more) none same =
    let heads : (gate ∷ body piece ++ later) ++ 0 ∷ rest ≡ 0 ∷ rest' = sym (ap (λ (l : List ℕ). l ++ 0 ∷ rest) is) ∙ same ∙ ap (λ (l : List ℕ). l ++ 0 ∷ rest') none in
    absurd (is_open (ap (λ (l : List ℕ). get_or l 0 0) heads))
same_open (piece ∷ records) (other ∷ others) front front' rest rest' (gate, later, is_open, small, is, more) (gate', later', is_open', small', is', more') same =
    let both : gate ∷ body piece ++ (later ++ 0 ∷ rest) ≡ gate' ∷ body other ++ (later' ++ 0 ∷ rest') =
    sym (append_assoc (gate ∷ body piece) later (0 ∷ rest)) ∙ sym (ap (λ (l : List ℕ). l ++ 0 ∷ rest) is) ∙ same
    ∙ ap (λ (l : List ℕ). l ++ 0 ∷ rest') is' ∙ append_assoc (gate' ∷ body other) later' (0 ∷ rest') in
    let first = same_first gate gate' piece other (later ++ 0 ∷ rest) (later' ++ 0 ∷ rest') small small' both in
    λ i. first.0 i ∷ same_open records others later later' rest rest' more more' first.1 i

none_in_short : (bytes : List ℕ) (records : List (List ℕ)) → length bytes ≤ 1 → AreInFront bytes records → records ≡ []
none_in_short bytes [] short has = refl
none_in_short bytes (piece ∷ records) short (front, rest, (gate, later, is_open, small, is, more), whole) =
    absurd (omega (arith, ap length whole, length-append front (0 ∷ rest), ap length is, length-append (gate ∷ body piece) later, short))

-- a file has one list of records
pub one_list : (bytes : List ℕ) (records others : List (List ℕ)) → HasRecords bytes records → HasRecords bytes others → records ≡ others
one_list bytes records others (inl none) (inl none') = none.1 ∙ sym none'.1
one_list bytes records others (inl none) (inr has) = none.1 ∙ sym (none_in_short bytes others none.0 has)
one_list bytes records others (inr has) (inl none) = none_in_short bytes records none.0 has ∙ sym none.1
one_list bytes records others (inr has) (inr has') = same_open records others has.0 has'.0 has.1 has'.1 has.2 has'.2 (sym has.3 ∙ has'.3)
