-- Lists of open records, and lists with a known prefix.
use Rattle.std.proofs.Common.{◌≡◌, ◌≢◌, ℕ, ◌^◌, ◌<◌, ◌≤◌, List, [], ◌∷◌, ◌++◌, length, take, drop, refl, sym, ◌∙◌, ap, arith, length-take, take-append-drop}
use Rattle.std.specs.Prelude.{slice_index}
use Rattle.std.proofs.lemmas.List.{append_assoc, append-nil, drop_at, ext_get_or, get_or-take, take_at}
use Rattle.record_file.specs.Records.{AreOpen, body}

-- a list that has these elements in front
pub begins_with : (front list : List ℕ) → length front ≤ length list → ((k : ℕ) → k < length front → slice_index list k ≡ slice_index front k)
    → list ≡ front ++ drop (length front) list
begins_with front list short same =
    let n = length front in
    let is : take n list ≡ front = ext_get_or 0 (take n list) front (omega (arith, length-take n list))
    (λ k inside. let here : k < n = omega (arith, length-take n list) in get_or-take n list k 0 here ∙ same k here) in
    sym (take-append-drop n list) ∙ ap (λ (l : List ℕ). l ++ drop n list) is

-- one open record more
pub open_push : (records : List (List ℕ)) (front : List ℕ) (gate : ℕ) (piece : List ℕ) → AreOpen records front → gate ≢ 0 → length piece < 2 ^ 32
    → AreOpen (records ++ piece ∷ []) (front ++ gate ∷ body piece)
open_push [] front gate piece none is_open small =
    (gate, [], is_open, small, ap (λ (l : List ℕ). l ++ gate ∷ body piece) none ∙ sym (append-nil (gate ∷ body piece)), refl)
open_push (first ∷ records) front gate piece (first_gate, rest, first_open, first_small, is, others) is_open small = (
  first_gate,
  rest ++ gate ∷ body piece,
  first_open,
  first_small,
  ap (λ (l : List ℕ). l ++ gate ∷ body piece) is ∙ append_assoc (first_gate ∷ body first) rest (gate ∷ body piece),
  open_push records rest gate piece others is_open small,
)

-- a prefix by its length, and what follows it
pub piece_is : (front later rest piece : List ℕ) (size : ℕ) → rest ≡ front ++ later → size ≡ length front → piece ≡ take size rest → piece ≡ front
piece_is front later rest piece size is size_is read = read ∙ ap (λ (l : List ℕ). take size l) is ∙ take_at front later size (sym size_is)

pub later_is : (front later rest after : List ℕ) (size : ℕ) → rest ≡ front ++ later → size ≡ length front → after ≡ drop size rest → after ≡ later
later_is front later rest after size is size_is read = read ∙ ap (λ (l : List ℕ). drop size l) is ∙ drop_at front later size (sym size_is)
