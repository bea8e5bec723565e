-- What a crash leaves in each step of an opening.
use Rattle.std.proofs.Common.{◌≡◌, inl, inr, ℕ, ◌+◌, ◌≤◌, ◌<◌, List, [], ◌∷◌, ◌++◌, length, get_or, take, drop, refl, sym, ◌∙◌, ap, subst, arith, length-append}
use Rattle.std.specs.Prelude.{Result, Ok, Err}
use Rattle.std.proofs.lemmas.List.{append_assoc, append-nil, take_at, get_or_append_left}
use Rattle.std.proofs.lemmas.Bool.{cases_lt}
use Rattle.rs_disk.specs.File.{File, IsImage, LeavesOnly, changed, write, cut, settled, contents}
use Rattle.rs_disk.specs.Images.{read_is_image, length-overwritten}
use Rattle.rs_disk.specs.Moments.{EachMoment}
use Rattle.rs_disk.specs.State.{State, IsDone}
use Rattle.rs_disk.specs.Steps.{Step, Makes, reads, changes, syncs}
use Rattle.rs_disk.proofs.MomentLemmas.{EachLeaves, synced_leaves}
use Rattle.record_file.specs.Files.{IsAtRest, IsOneOf, IsRecordDisk, AreOpeningSteps, StopsBy, EndsBy, OpensBy, first_steps, repair_steps}
use Rattle.record_file.specs.Parsed.{IsParsed}
use Rattle.record_file.specs.Records.{HasRecords}
use Rattle.record_file.specs.declared.error.FileError.{FileError}
use Rattle.record_file.specs.declared.error.FileError.TheVariants.{Memory}
use Rattle.record_file.proofs.ListLemmas.{begins_with}
use Rattle.record_file.proofs.StepLemmas.{ended_moments, ends_more, stops_ends, stops_before}

-- where the records of some bytes end
pub has_end : (bytes : List ℕ) → ((records : List (List ℕ)) × HasRecords bytes records) → 1 < length bytes → (records : List (List ℕ)) × (end : ℕ) × IsParsed bytes records end
has_end bytes (records, inl none) long = absurd (omega (arith, none.0))
has_end bytes (records, inr (front, rest, are_open, is)) long = (records, length front + 1, (front, rest, are_open, is, refl))

-- the bytes in front of what is cut off
module _ (bytes : List ℕ) (records : List (List ℕ)) (end : ℕ) (parsed : IsParsed bytes records end) where
  abbrev front : List ℕ
  front = parsed.0

  abbrev after : List ℕ
  after = parsed.1

  whole : bytes ≡ (front ++ 0 ∷ []) ++ after
  whole = parsed.3 ∙ sym (append_assoc front (0 ∷ []) after)

  end_is : length (front ++ 0 ∷ []) ≡ end
  end_is = omega (arith, length-append front (0 ∷ []), parsed.4)

  pub has_parsed : HasRecords bytes records
  has_parsed = inr (front, after, parsed.2, parsed.3)

  pub cut_off : take end bytes ≡ front ++ 0 ∷ []
  cut_off = ap (λ (l : List ℕ). take end l) whole ∙ take_at (front ++ 0 ∷ []) after end end_is

  -- a cut after the gate keeps the records
  pub cut_has : (image : List ℕ) → IsImage (changed (cut end) (settled bytes)) image → HasRecords image records
  cut_has image is =
      let short : length (front ++ 0 ∷ []) ≤ length image = omega (arith, is.no_shorter, ap length cut_off, ap length whole, length-append (front ++ 0 ∷ []) after, end_is) in
      let begins : image ≡ (front ++ 0 ∷ []) ++ drop (length (front ++ 0 ∷ [])) image = begins_with (front ++ 0 ∷ []) image short
      (λ k inside. is.kept k (omega (arith, ap length cut_off, ap length whole, length-append (front ++ 0 ∷ []) after)) refl
      ∙ ap (λ (l : List ℕ). get_or l k 0) whole ∙ get_or_append_left (front ++ 0 ∷ []) after 0 k inside) in
      inr (front, drop (length (front ++ 0 ∷ [])) image, parsed.2, begins ∙ append_assoc front (0 ∷ []) (drop (length (front ++ 0 ∷ [])) image))

-- each list that is found on the way is one from before
module _ (old : State) (has : IsRecordDisk old) where
  abbrev P : List ℕ → Type 0
  P = IsOneOf old

  found : LeavesOnly P old.file
  found image is = let records = has.leaves image is in (records.0, records.1, (image, is, records.1))

  -- a list of what is read now
  read_now : (records : List (List ℕ)) → HasRecords (contents old.file) records → (image : List ℕ) → HasRecords image records → IsOneOf old image
  read_now records now image has_records = (records, has_records, (contents old.file, read_is_image old.file, now))

  gate_leaves : length (contents old.file) ≤ 1 → LeavesOnly P (changed (write 0 (0 ∷ [])) (settled (contents old.file)))
  gate_leaves short image is =
      read_now [] (inl (short, refl)) image (inl (omega (arith, is.no_longer, length-overwritten 0 (0 ∷ []) (contents old.file) (omega arith), short), refl))

  cut_leaves : (records : List (List ℕ)) (end : ℕ) → IsParsed (contents old.file) records end → LeavesOnly P (changed (cut end) (settled (contents old.file)))
  cut_leaves records end parsed image is = read_now records (has_parsed (contents old.file) records end parsed) image (cut_has (contents old.file) records end parsed image is)

  each_leaves : (steps : List Step) → AreOpeningSteps (contents old.file) steps → EachLeaves P steps old.file
  each_leaves steps (inl (short, are)) =
      let there = settled (contents old.file) in
      let gate = gate_leaves short in
      subst (λ (l : List Step). EachLeaves P l old.file) (sym are)
      (found, found, (synced_leaves P old.file found, gate, (gate, gate, synced_leaves P (changed (write 0 (0 ∷ [])) there) gate)))
  each_leaves steps (inr (long, records, end, parsed, are)) =
      let there = settled (contents old.file) in
      let stays = synced_leaves P old.file found in
      let short = cut_leaves records end parsed in
      subst (λ (l : List Step). EachLeaves P l old.file) (sym are)
      (found, found, (stays, stays, (stays, short, (short, short, synced_leaves P (changed (cut end) there) short))))

  pub opens : {T : Type 0} (result : Result T FileError) (new : State) → OpensBy result old new → EachMoment P old new
  opens result new (steps, are, ends) = ended_moments P result steps old new (each_leaves steps are) ends

  -- and so the disk is handed back as a record disk
  pub opened_left : {T : Type 0} (result : Result T FileError) (new : State) → OpensBy result old new → IsRecordDisk new
  opened_left result new by = record { leaves = λ image is. let one = (opens result new by).now image is in (one.0, one.1) }

-- the file after the calls of an opening with records
pub repaired : (old mid mid' new : State) (bytes : List ℕ) (records : List (List ℕ)) (end : ℕ) → bytes ≡ contents old.file → IsParsed bytes records end → old.file ≡ settled (contents old.file)
    → Makes (reads ∷ []) old mid → IsDone (changed (cut end) mid.file) (changed (cut end) mid.file) mid mid' → IsDone mid'.file (settled (contents mid'.file)) mid' new → IsAtRest new records
repaired old mid mid' new bytes records end same parsed synced read was_cut is = record {
  front = parsed.0;
  open_records = parsed.2;
  file = is.file ∙ ap (λ (f : File). settled (contents f)) was_cut.file ∙ ap (λ (f : File). settled (take end (contents f))) (read.file ∙ synced)
      ∙ ap (λ (l : List ℕ). settled (take end l)) (sym same) ∙ ap settled (cut_off bytes records end parsed);
}

-- a sync leaves a record disk
pub synced_has : (old mid : State) → IsRecordDisk old → Makes (syncs ∷ []) old mid → IsRecordDisk mid
synced_has old mid has made =
    let Has : List ℕ → Type 0 = λ image. (records : List (List ℕ)) × HasRecords image records in
    record { leaves = subst (LeavesOnly Has) (sym made.file) (synced_leaves Has old.file has.leaves) }

-- the calls of an opening, by what was done of them
module _ {T : Type 0} (result : Result T FileError) (old : State) where
  pub stops_at_once : (error : FileError) (new : State) → IsRecordDisk old → result ≡ Err error → StopsBy error (syncs ∷ []) old new → OpensBy result old new
  stops_at_once error new has is stops = elim (cases_lt 1 (length (contents old.file))) [
    | inl long ↦ let there = has_end (contents old.file) (has.leaves (contents old.file) (read_is_image old.file)) long in
        (repair_steps there.1, inr (long, there.0, there.1, there.2, refl), stops_ends result error (repair_steps there.1) old new is (stops_before error syncs _ old new stops))
    | inr short ↦ (first_steps, inl (omega arith, refl), stops_ends result error first_steps old new is (stops_before error syncs _ old new stops))
  ]

  module _ (mid new : State) (synced : Makes (syncs ∷ []) old mid) where
    is_synced : IsDone old.file (settled (contents old.file)) old mid
    is_synced = record { file = synced.file; past = synced.past }

    same : contents mid.file ≡ contents old.file
    same = ap (λ (f : File). contents f) synced.file

    pub begins : length (contents mid.file) ≤ 1 → EndsBy result (changes (write 0 (0 ∷ [])) ∷ syncs ∷ []) mid new → OpensBy result old new
    begins short ends = (first_steps, inl (omega (arith, ap length same), refl), ends_more result syncs (changes (write 0 (0 ∷ [])) ∷ syncs ∷ []) old mid new is_synced ends)

    pub repairs : 1 < length (contents mid.file) → (records : List (List ℕ)) × (end : ℕ) × IsParsed (contents mid.file) records end × EndsBy result (reads ∷ changes (cut end) ∷ syncs ∷ []) mid new
        → OpensBy result old new
    repairs long (records, end, parsed, ends) = (
      repair_steps end,
      inr (omega (arith, ap length same), records, end, subst (λ (l : List ℕ). IsParsed l records end) same parsed, refl),
      ends_more result syncs (reads ∷ changes (cut end) ∷ syncs ∷ []) old mid new is_synced ends,
    )

-- the calls of an opening that ran out of memory after them
pub opened_calls : {X : Type 0} (result : Result X FileError) (old new : State) → result ≡ Err Memory → OpensBy {T = Unit {0}} (Ok tt) old new → OpensBy result old new
opened_calls {X} result old new is (steps, are, made) =
    subst (λ (r : Result X FileError). OpensBy r old new) (sym is) (steps, are, (steps, [], sym (append-nil steps), made))
