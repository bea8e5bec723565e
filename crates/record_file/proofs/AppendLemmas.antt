-- What a crash leaves in each step of an append.
use Rattle.std.proofs.Common.{⊎_elim, ◌≡◌, inl, inr, ℕ, ◌+◌, ◌-◌, ◌^◌, ◌<◌, ◌≤◌, List, [], ◌∷◌, ◌++◌, suc, false, length, get_or, drop, refl, sym, ◌∙◌, ap, subst, arith, length-append, length-drop}
use Rattle.std.specs.Prelude.{◌⊎◌, Result, Ok, Err, OnOk}
use Rattle.record_file.specs.declared.error.FileError.{FileError}
use Rattle.std.proofs.lemmas.List.{append_assoc, append-nil, drop_all, take_all, take_at, drop_at, drop_more, get_or_append_left, get_or-append_right, get_or-drop, ext_get_or}
use Rattle.std.proofs.lemmas.Bool.{cases_eq}
use Rattle.std.proofs.lemmas.Bool.Decides.{nat_tests}
use Rattle.rs_disk.specs.File.{File, IsImage, LeavesOnly, changed, write, settled, contents, is_written, overwritten}
use Rattle.rs_disk.specs.Images.{length-overwritten}
use Rattle.rs_disk.specs.Moments.{EachMoment, starts}
use Rattle.rs_disk.specs.State.{State}
use Rattle.rs_disk.specs.Steps.{Step, Makes, after_steps}
use Rattle.rs_disk.proofs.MomentLemmas.{EachLeaves, settled_leaves, synced_leaves}
use Rattle.record_file.specs.Records.{AreOpen, HasRecords, body}
use Rattle.record_file.specs.Files.{IsAtRest, IsOpen, IsBeforeOrAfter, IsRecordDisk, EndsBy, append_steps}
use Rattle.record_file.proofs.ListLemmas.{begins_with, open_push}
use Rattle.record_file.proofs.StepLemmas.{ended_moments}

-- bytes after the end
pub appended : (old bytes : List ℕ) (at : ℕ) → at ≡ length old → overwritten at bytes old ≡ old ++ bytes
appended old bytes at is =
    ap (λ (l : List ℕ). l ++ bytes ++ drop (at + length bytes) old) (take_all at old (omega (arith, is)))
    ∙ ap (λ (l : List ℕ). old ++ bytes ++ l) (drop_all (at + length bytes) old (omega (arith, is))) ∙ append-nil (old ++ bytes)

-- what an append leaves has records
pub either_left : (records : List (List ℕ)) (piece : List ℕ) (old new : State) → EachMoment (IsBeforeOrAfter records piece) old new → IsRecordDisk new
either_left records piece old new moments = record { leaves = λ image is. ⊎_elim (λ before. (records, before)) (λ after. (records ++ piece ∷ [], after)) (moments.now image is) }

-- before the first call
pub before_all : (records : List (List ℕ)) (piece : List ℕ) (state : State) → IsAtRest state records → EachMoment (IsBeforeOrAfter records piece) state state
before_all records piece state rest =
    let P : List ℕ → Type 0 = IsBeforeOrAfter records piece in
    starts P state (subst (LeavesOnly P) (sym rest.file) (settled_leaves P (rest.front ++ 0 ∷ []) (inl (inr (rest.front, [], rest.open_records, refl)))))

-- and so does what no append is in
pub open_left : (state : State) → IsOpen state → IsRecordDisk state
open_left state is_open = either_left is_open.records [] state state (before_all is_open.records [] state is_open.rests)

module _ (records : List (List ℕ)) (front : List ℕ) (opened : AreOpen records front) where
  -- a closed gate ends them, whatever follows it
  pub closed_has : (image rest : List ℕ) → image ≡ front ++ 0 ∷ rest → HasRecords image records
  closed_has image rest is = inr (front, rest, opened, is)

  -- a write after the closed gate keeps the records
  pub tail_leaves : (at : ℕ) (bytes image : List ℕ) → at ≡ length (front ++ 0 ∷ []) → IsImage (changed (write at bytes) (settled (front ++ 0 ∷ []))) image → HasRecords image records
  tail_leaves at bytes image at_is is =
      let old = front ++ 0 ∷ [] in
      let long : length old ≤ length image = omega (arith, is.no_shorter, ap length (appended old bytes at at_is), length-append old bytes) in
      let begins : image ≡ old ++ drop (length old) image = begins_with old image long (λ k inside. is.kept k (omega (arith, ap length (appended old bytes at at_is), length-append old bytes)) (untouched k inside)) in
      closed_has image (drop (length old) image) (begins ∙ append_assoc front (0 ∷ []) (drop (length old) image))
    where
      untouched : (k : ℕ) → k < length (front ++ 0 ∷ []) → is_written k (write at bytes ∷ []) ≡ false
      untouched k inside = grind (arith, nat_tests)

  module _ (piece : List ℕ) (small : length piece < 2 ^ 32) where
    abbrev tail : List ℕ
    tail = body piece ++ 0 ∷ []

    -- a whole record after any gate counts or it doesn't
    pub gate_has : (gate : ℕ) (image : List ℕ) → image ≡ front ++ gate ∷ tail → IsBeforeOrAfter records piece image
    gate_has gate image is = elim (cases_eq gate 0) [
      | inl closed ↦ inl (closed_has image tail (is ∙ ap (λ (n : ℕ). front ++ n ∷ tail) closed))
      | inr is_open ↦ inr (inr (
        front ++ gate ∷ body piece,
        [],
        open_push records front gate piece opened is_open small,
        is ∙ sym (append_assoc front (gate ∷ body piece) (0 ∷ [])),
      ))
    ]

    -- a write over the gate opens it or doesn't
    pub gate_leaves : (at : ℕ) (image : List ℕ) → at ≡ length front → IsImage (changed (write at (1 ∷ [])) (settled (front ++ 0 ∷ tail))) image → IsBeforeOrAfter records piece image
    gate_leaves at image at_is is =
        let old = front ++ 0 ∷ tail in
        let size : length old ≡ length front + suc (length tail) = length-append front (0 ∷ tail) in
        let same : length (overwritten at (1 ∷ []) old) ≡ length old = length-overwritten at (1 ∷ []) old (omega (arith, size)) ∙ omega (arith, size) in
        let long : length image ≡ length old = omega (arith, is.no_shorter, is.no_longer, same) in
        let begins : image ≡ front ++ drop (length front) image = begins_with front image (omega (arith, long, size))
        (λ k inside. is.kept k (omega (arith, same, size)) (elsewhere k (inl (omega (arith, at_is)))) ∙ get_or_append_left front (0 ∷ tail) 0 k inside) in
        let gate = get_or image (length front) 0 in
        let later : drop (length front) image ≡ gate ∷ drop (length front + 1) image = drop_more image (length front) 0 (omega (arith, long, size)) in
        let rest : drop (length front + 1) image ≡ tail = ext_get_or 0 (drop (length front + 1) image) tail (omega (arith, length-drop (length front + 1) image, long, size))
        (λ k inside.
        let here : length front + 1 + k < length old = omega (arith, length-drop (length front + 1) image, long, size) in
        get_or-drop (length front + 1) image k 0 ∙ is.kept (length front + 1 + k) (omega (arith, same)) (elsewhere (length front + 1 + k) (inr (omega (arith, at_is))))
        ∙ get_or-append_right front (0 ∷ tail) (length front) (length front + 1 + k) 0 refl (omega arith) ∙ (let step : length front + 1 + k - length front ≡ suc k = omega arith in ap (λ (n : ℕ). get_or (0 ∷ tail) n 0) step)) in
        gate_has gate image (begins ∙ ap (λ (l : List ℕ). front ++ l) (later ∙ ap (λ (l : List ℕ). gate ∷ l) rest))
      where
        elsewhere : (k : ℕ) → ((k < at) ⊎ (at + 1 ≤ k)) → is_written k (write at (1 ∷ []) ∷ []) ≡ false
        elsewhere k (inl below) = grind (arith, nat_tests)
        elsewhere k (inr above) = grind (arith, nat_tests)

    gate_opened : (at : ℕ) → at ≡ length front → overwritten at (1 ∷ []) (front ++ 0 ∷ tail) ≡ (front ++ 1 ∷ body piece) ++ 0 ∷ []
    gate_opened at at_is =
        ap (λ (l : List ℕ). l ++ (1 ∷ []) ++ drop (at + 1) (front ++ 0 ∷ tail)) (take_at front (0 ∷ tail) at (sym at_is))
        ∙ ap (λ (l : List ℕ). front ++ (1 ∷ []) ++ l) (ap (λ (l : List ℕ). drop (at + 1) l) (sym (append_assoc front (0 ∷ []) tail)) ∙ drop_at (front ++ 0 ∷ []) tail (at + 1) (omega (arith, at_is, length-append front (0 ∷ []))))
        ∙ append_assoc front (1 ∷ []) tail ∙ sym (append_assoc front (1 ∷ body piece) (0 ∷ []))

    -- the gate is open and all is synced
    pub at_rest : (at : ℕ) (state : State) → at ≡ length front → state.file ≡ settled (overwritten at (1 ∷ []) (front ++ 0 ∷ tail)) → IsAtRest state (records ++ piece ∷ [])
    at_rest at state at_is file = record {
      front = front ++ 1 ∷ body piece;
      open_records = open_push records front 1 piece opened (omega arith) small;
      file = file ∙ ap settled (gate_opened at at_is);
    }

    module _ (at : ℕ) (at_is : at ≡ length (front ++ 0 ∷ [])) (bytes : List ℕ) (is_tail : bytes ≡ tail) where
      abbrev P : List ℕ → Type 0
      P = IsBeforeOrAfter records piece

      gate_is : at - 1 ≡ length front
      gate_is = omega (arith, at_is, length-append front (0 ∷ []))

      -- the record is on the disk, after a closed gate
      staged : overwritten at bytes (front ++ 0 ∷ []) ≡ front ++ 0 ∷ tail
      staged = appended (front ++ 0 ∷ []) bytes at at_is ∙ ap (λ (l : List ℕ). (front ++ 0 ∷ []) ++ l) is_tail ∙ append_assoc front (0 ∷ []) tail

      later : LeavesOnly P (changed (write at bytes) (settled (front ++ 0 ∷ [])))
      later image left = inl (tail_leaves at bytes image at_is left)

      opens : LeavesOnly P (changed (write (at - 1) (1 ∷ [])) (settled (overwritten at bytes (front ++ 0 ∷ []))))
      opens = subst (λ (l : List ℕ). LeavesOnly P (changed (write (at - 1) (1 ∷ [])) (settled l))) (sym staged) (λ image left. gate_leaves (at - 1) image gate_is left)

      pub each_leaves : EachLeaves P (append_steps at bytes) (settled (front ++ 0 ∷ []))
      each_leaves =
          let start = settled_leaves P (front ++ 0 ∷ []) (inl (closed_has (front ++ 0 ∷ []) [] refl)) in
          let staged_leaves = synced_leaves P (changed (write at bytes) (settled (front ++ 0 ∷ []))) later in
          let last = synced_leaves P (changed (write (at - 1) (1 ∷ [])) (settled (overwritten at bytes (front ++ 0 ∷ [])))) opens in
          (start, later, (later, later, (staged_leaves, opens, (opens, opens, last))))

      -- the file then is that of one record more
      pub file_after : after_steps (append_steps at bytes) (settled (front ++ 0 ∷ [])) ≡ settled ((front ++ 1 ∷ body piece) ++ 0 ∷ [])
      file_after = ap (λ (l : List ℕ). settled (overwritten (at - 1) (1 ∷ []) l)) staged ∙ ap settled (gate_opened (at - 1) gate_is)

      made_rests : (old new : State) → old.file ≡ settled (front ++ 0 ∷ []) → Makes (append_steps at bytes) old new → IsAtRest new (records ++ piece ∷ [])
      made_rests old new file made = at_rest (at - 1) new gate_is
          (made.file ∙ ap (after_steps (append_steps at bytes)) file ∙ ap (λ (l : List ℕ). settled (overwritten (at - 1) (1 ∷ []) l)) staged)

-- all calls were made where there is no error
pub on_made : {T P : Type 0} (result : Result T FileError) (steps : List Step) (old new : State) → (Makes steps old new → P) → EndsBy result steps old new → OnOk result P
on_made (Ok x) steps old new follows made = follows made
on_made (Err e) steps old new follows ends = tt

-- an append to a file at rest
module _ (records : List (List ℕ)) (piece : List ℕ) (small : length piece < 2 ^ 32) (old : State) (rest : IsAtRest old records) (bytes : List ℕ) (is_tail : bytes ≡ body piece ++ 0 ∷ []) where
  ends_at : length (contents old.file) ≡ length (rest.front ++ 0 ∷ [])
  ends_at = ap (λ (f : File). length (contents f)) rest.file

  -- a crash at any moment of it
  pub appends : (result : Result (Unit {0}) FileError) (new : State) → EndsBy result (append_steps (length (contents old.file)) bytes) old new
      → EachMoment (IsBeforeOrAfter records piece) old new
  appends result new ends = ended_moments (IsBeforeOrAfter records piece) result (append_steps (length (contents old.file)) bytes) old new
      (subst (EachLeaves (IsBeforeOrAfter records piece) (append_steps (length (contents old.file)) bytes)) (sym rest.file)
      (each_leaves records rest.front rest.open_records piece small (length (contents old.file)) ends_at bytes is_tail)) ends

  pub rests : (new : State) → Makes (append_steps (length (contents old.file)) bytes) old new → IsAtRest new (records ++ piece ∷ [])
  rests new made = made_rests records rest.front rest.open_records piece small (length (contents old.file)) ends_at bytes is_tail old new rest.file made
