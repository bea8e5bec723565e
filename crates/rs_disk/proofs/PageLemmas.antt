-- How work on pages preserves what they hold.
use Rattle.std.proofs.Common.{◌≡◌, ℕ, zero, suc, ◌+◌, ◌-◌, ◌%◌, ◌<◌, ◌≤◌, min, max, Bool, true, false, List, [], ◌∷◌, length, get_or, take, drop, replicate, refl, sym, ◌∙◌, ap, inl, inr, ⊎_elim, arith, length-take, length-drop, length-append, append_assoc, append-nil, drop-drop, ◌++◌}
use Rattle.std.specs.Prelude.{◌⊎◌, ◌≢◌, ◌==◌, ◌&&◌, ◌||◌, nat_le, nat_lt, if◌then◌else◌, slice_index, slice_index_or, slice_range, vec_capacity, Vec}
use Rattle.std.specs.declared.alloc.Global.{Global}
use Rattle.std.proofs.lemmas.List.{length-replicate, get_or-take, get_or-drop, get_or-replicate, get_or_append_left, get_or-append_right, get_or_past, ext_get_or}
use Rattle.std.proofs.lemmas.Bool.{cases_lt}
use Rattle.std.proofs.lemmas.Bool.Decides.{nat_tests}
use Rattle.rs_disk.specs.File.{Change, write, File, contents, changed, settled, overwritten, least_of, is_written}
use Rattle.rs_disk.specs.Images.{least_is_least, overwritten_below, overwritten_above, overwritten_within, length-overwritten}
use Rattle.rs_disk.specs.Pages.{Holds, IsWithin, last_of, room_of}
use Rattle.rs_disk.specs.Picks.{picked, filled, is_open}
use Rattle.rs_disk.specs.declared.pages.Pages.{Pages}

pub least_within : (synced : List ℕ) (changes : List Change) → least_of synced changes ≤ length synced
least_within synced [] = omega arith
least_within synced (change ∷ changes) = omega (arith, least_within synced changes)

length-range : (from to : ℕ) (xs : List ℕ) → to ≤ length xs → length (slice_range xs from to) ≡ to - from
length-range from to xs within = omega (arith, length-take (to - from) (drop from xs), length-drop from xs)

module _ (pages : Pages) (file : File) (holds : Holds pages file) where
  pub end_is : length (contents file) ≡ pages.end
  end_is = omega (arith, ap length holds.contents, length-take pages.end pages.now.items, holds.within.end)

  pub synced_end_is : length file.synced ≡ pages.synced
  synced_end_is =
      omega (
        arith,
        ap length holds.synced,
        length-append (take pages.first pages.now.items ++ pages.kept.items) (slice_range pages.now.items (last_of pages) pages.synced),
        length-append (take pages.first pages.now.items) pages.kept.items,
        length-take pages.first pages.now.items,
        length-range (last_of pages) pages.synced pages.now.items holds.within.synced,
        holds.within.end,
        holds.within.first,
        holds.within.last,
      )

  pub least_end : pages.least ≤ pages.end
  least_end = omega (arith, holds.least, least_is_least file.synced file.changes, end_is)

  pub least_synced : pages.least ≤ pages.synced
  least_synced = omega (arith, holds.least, least_within file.synced file.changes, synced_end_is)

  now_at : (place : ℕ) → place < pages.end → slice_index pages.now.items place ≡ slice_index (contents file) place
  now_at place inside = sym (get_or-take pages.end pages.now.items place 0 inside) ∙ ap (λ (l : List ℕ). get_or l place 0) holds.contents

-- more room
pub grown : (old new : Pages) (file : File) → Holds old file
    → new.now.items ≡ old.now.items → new.kept.items ≡ old.kept.items → new.marks.items ≡ old.marks.items
    → old.room ≤ new.room → new.room ≤ vec_capacity new.now → new.room ≤ vec_capacity new.kept → new.room ≤ vec_capacity new.marks
    → new.end ≡ old.end → new.synced ≡ old.synced → new.first ≡ old.first → new.least ≡ old.least → Holds new file
grown old new file holds now kept marks longer now_room kept_room marks_room end synced first least = record {
  within = record {
    end = omega (arith, end, ap length now, holds.within.end);
    synced = omega (arith, synced, ap length now, holds.within.synced);
    long = omega (arith, ap length now, longer, holds.within.long);
    first = omega (arith, end, first, holds.within.first);
    last = omega (arith, first, synced, ap length kept, holds.within.last);
    marked = omega (arith, ap length kept, ap length marks, holds.within.marked);
    now = now_room;
    kept = kept_room;
    marks = marks_room;
  };
  contents = (λ i. take (end i) (now i)) ∙ holds.contents;
  synced = (λ i. (take (first i) (now i) ++ kept i) ++ slice_range (now i) (first i + length (kept i)) (synced i)) ∙ holds.synced;
  least = least ∙ holds.least;
  touched = λ place from below.
      (λ i. slice_index_or (marks i) (place - first i) false) ∙ holds.touched place (omega (arith, first)) (omega (arith, least));
  first = omega (arith, first, least, holds.first);
  untouched = λ place below. holds.untouched place (omega (arith, first));
}

take_nothing : (n : ℕ) (xs : List ℕ) → length xs ≡ 0 → take n xs ≡ []
take_nothing zero xs none = refl
take_nothing (suc n) [] none = refl
take_nothing (suc n) (x ∷ xs) none = absurd (omega (arith, none))

-- a part, and some of what follows it
take_past : (n m : ℕ) (xs ys : List ℕ) → length xs ≡ n → take (n + m) (xs ++ ys) ≡ xs ++ take m ys
take_past zero m [] ys long = ap (λ (k : ℕ). take k ys) (omega arith)
take_past zero m (x ∷ xs) ys long = absurd (omega (arith, long))
take_past (suc n) m [] ys long = absurd (omega (arith, long))
take_past (suc n) m (x ∷ xs) ys long =
    let more : suc n + m ≡ suc (n + m) = omega arith in
    ap (λ (k : ℕ). take k (x ∷ (xs ++ ys))) more ∙ ap (λ l. x ∷ l) (take_past n m xs ys (omega (arith, long)))

-- the bytes between two places, and those before
take_part : (at to : ℕ) (xs : List ℕ) → at ≤ to → take at xs ++ slice_range xs at to ≡ take to xs
take_part at to xs order = split at to xs order
  where
    split : (at to : ℕ) (xs : List ℕ) → at ≤ to → take at xs ++ take (to - at) (drop at xs) ≡ take to xs
    split zero to xs order = ap (λ (k : ℕ). take k xs) (omega arith)
    split (suc at) zero xs order = absurd (omega arith)
    split (suc at) (suc to) [] order = take_nothing (suc to - suc at) [] refl
    split (suc at) (suc to) (x ∷ xs) order =
        let less : suc to - suc at ≡ to - at = omega arith in
        ap (λ (k : ℕ). x ∷ (take at xs ++ take k (drop at xs))) less ∙ ap (λ l. x ∷ l) (split at to xs (omega arith))

-- the bytes between two places, cut at one between them
range_part : (from at to : ℕ) (xs : List ℕ) → from ≤ at → at ≤ to → slice_range xs from at ++ slice_range xs at to ≡ slice_range xs from to
range_part from at to xs first second =
    ap (λ (l : List ℕ). take (at - from) (drop from xs) ++ l)
    ((λ i. take (apart i) (drop (there i) xs)) ∙ ap (λ (l : List ℕ). take ((to - from) - (at - from)) l) (sym (drop-drop (at - from) from xs)))
    ∙ take_part (at - from) (to - from) (drop from xs) (omega arith)
  where
    apart : to - at ≡ (to - from) - (at - from)
    apart = omega arith

    there : at ≡ from + (at - from)
    there = omega arith

-- what was synced from an earlier place on is kept
pub keeps : (old new : Pages) (file : File) (at : ℕ) → Holds old file → at < old.first
    → new.now.items ≡ old.now.items → new.kept.items ≡ slice_range old.now.items at old.first ++ old.kept.items
    → new.marks.items ≡ replicate (old.first - at) false ++ old.marks.items
    → new.end ≡ old.end → new.synced ≡ old.synced → new.first ≡ at → new.least ≡ old.least → IsWithin new → Holds new file
keeps old new file at holds before now kept marks end synced first least within = record {
  within = within;
  contents = (λ i. take (end i) (now i)) ∙ holds.contents;
  synced = (λ i. (take (first i) (now i) ++ kept i) ++ slice_range (now i) (last i) (synced i))
      ∙ ap (λ (l : List ℕ). l ++ slice_range old.now.items (last_of old) old.synced) front ∙ holds.synced;
  least = least ∙ holds.least;
  touched = λ place from below.
      (λ i. slice_index_or (marks i) (place - first i) false) ∙ ⊎_elim
      (λ early. get_or_append_left (replicate (old.first - at) false) old.marks.items false (place - at) (omega (arith, first, length-replicate (old.first - at) false))
      ∙ get_or-replicate (old.first - at) (place - at) false false (omega (arith, first)) ∙ sym (holds.untouched place early))
      (λ late. get_or-append_right (replicate (old.first - at) false) old.marks.items (old.first - at) (place - at) false (length-replicate (old.first - at) false) (omega (arith, first))
      ∙ ap (λ (k : ℕ). get_or old.marks.items k false) (omega (arith, first)) ∙ holds.touched place late (omega (arith, least)))
      (cases_lt place old.first);
  first = omega (arith, first, least, holds.first);
  untouched = λ place below. holds.untouched place (omega (arith, first));
}
  where
    last : last_of new ≡ last_of old
    last =
        omega (
          arith,
          first,
          ap length kept,
          length-append (slice_range old.now.items at old.first) old.kept.items,
          length-range at old.first old.now.items (omega (arith, holds.within.first, holds.within.end)),
        )

    front : take at old.now.items ++ (slice_range old.now.items at old.first ++ old.kept.items) ≡ take old.first old.now.items ++ old.kept.items
    front = sym (append_assoc (take at old.now.items) (slice_range old.now.items at old.first) old.kept.items)
        ∙ ap (λ (l : List ℕ). l ++ old.kept.items) (take_part at old.first old.now.items (omega arith))

pub keeps_within : (old new : Pages) (at : ℕ) → IsWithin old → at < old.first
    → new.now ≡ old.now → new.kept.items ≡ slice_range old.now.items at old.first ++ old.kept.items
    → new.marks.items ≡ replicate (old.first - at) false ++ old.marks.items
    → vec_capacity old.kept ≤ vec_capacity new.kept → vec_capacity old.marks ≤ vec_capacity new.marks
    → new.room ≡ old.room → new.end ≡ old.end → new.synced ≡ old.synced → new.first ≡ at → IsWithin new
keeps_within old new at within before now kept marks kept_room marks_room room end synced first = record {
  end = omega (arith, end, same_length, within.end);
  synced = omega (arith, synced, same_length, within.synced);
  long = omega (arith, room, same_length, within.long);
  first = omega (arith, end, first, within.first);
  last = omega (arith, first, synced, kept_length, within.last);
  marked = omega (arith, kept_length, marks_length, within.marked);
  now = omega (arith, room, ap (λ (v : Vec ℕ Global). vec_capacity v) now, within.now);
  kept = omega (arith, room, kept_room, within.kept);
  marks = omega (arith, room, marks_room, within.marks);
}
  where
    same_length : length new.now.items ≡ length old.now.items
    same_length = ap (λ (v : Vec ℕ Global). length v.items) now

    kept_length : length new.kept.items ≡ old.first - at + length old.kept.items
    kept_length =
        ap length kept
        ∙ omega (
          arith,
          length-append (slice_range old.now.items at old.first) old.kept.items,
          length-range at old.first old.now.items (omega (arith, within.first, within.end)),
        )

    marks_length : length new.marks.items ≡ old.first - at + length old.marks.items
    marks_length = ap length marks ∙ omega (arith, length-append (replicate (old.first - at) false) old.marks.items, length-replicate (old.first - at) false)

pub none_there : (n : ℕ) (test : Bool) → test ≡ (n == 0) → test ≡ true → n ≡ 0
none_there n test is holds = grind (arith, nat_tests)

-- where nothing is kept, an earlier place is as good
pub begins : (old new : Pages) (file : File) (at : ℕ) → Holds old file → at < old.first → length old.kept.items ≡ 0
    → new.now.items ≡ old.now.items → new.kept.items ≡ old.kept.items → new.marks.items ≡ old.marks.items
    → new.end ≡ old.end → new.synced ≡ old.synced → new.first ≡ at → new.least ≡ old.least → IsWithin new → Holds new file
begins old new file at holds before none now kept marks end synced first least within = record {
  within = within;
  contents = (λ i. take (end i) (now i)) ∙ holds.contents;
  synced = (λ i. (take (first i) (now i) ++ nothing i) ++ slice_range (now i) (here i) (synced i))
      ∙ whole at (omega (arith, holds.within.last)) ∙ sym (whole old.first (omega (arith, holds.within.last)))
      ∙ sym (λ i. (take old.first old.now.items ++ nothing_old i) ++ slice_range old.now.items (here_old i) old.synced) ∙ holds.synced;
  least = least ∙ holds.least;
  touched = λ place from below.
      get_or_past new.marks.items (place - new.first) false (omega (arith, ap length marks, holds.within.marked, none)) ∙ sym (unwritten place (omega (arith, least)));
  first = omega (arith, first, least, holds.first);
  untouched = λ place below. holds.untouched place (omega (arith, first));
}
  where
    is_nothing : (xs : List ℕ) → length xs ≡ 0 → xs ≡ []
    is_nothing [] is = refl
    is_nothing (x ∷ xs) is = absurd (omega (arith, is))

    nothing_old : old.kept.items ≡ []
    nothing_old = is_nothing old.kept.items none

    nothing : new.kept.items ≡ []
    nothing = kept ∙ nothing_old

    here : last_of new ≡ at
    here = omega (arith, first, ap length nothing)

    here_old : last_of old ≡ old.first
    here_old = omega (arith, none)

    whole : (place : ℕ) → place ≤ old.synced → (take place old.now.items ++ []) ++ slice_range old.now.items place old.synced ≡ take old.synced old.now.items
    whole place before = ap (λ (l : List ℕ). l ++ slice_range old.now.items place old.synced) (append-nil (take place old.now.items)) ∙ take_part place old.synced old.now.items before

    unwritten : (place : ℕ) → place < old.least → is_written place file.changes ≡ false
    unwritten place below = ⊎_elim
        (λ early. holds.untouched place early)
        (λ late. sym (holds.touched place late below) ∙ get_or_past old.marks.items (place - old.first) false (omega (arith, holds.within.marked, none)))
        (cases_lt place old.first)

pub begins_within : (old new : Pages) (at : ℕ) → IsWithin old → at < old.first → new.now ≡ old.now → new.kept ≡ old.kept → new.marks ≡ old.marks
    → new.room ≡ old.room → new.end ≡ old.end → new.synced ≡ old.synced → new.first ≡ at → IsWithin new
begins_within old new at within before now kept marks room end synced first = record {
  end = omega (arith, end, same_length, within.end);
  synced = omega (arith, synced, same_length, within.synced);
  long = omega (arith, room, same_length, within.long);
  first = omega (arith, end, first, within.first);
  last = omega (arith, first, synced, kept_length, within.last);
  marked = omega (arith, kept_length, ap (λ (v : Vec Bool Global). length v.items) marks, within.marked);
  now = omega (arith, room, ap (λ (v : Vec ℕ Global). vec_capacity v) now, within.now);
  kept = omega (arith, room, ap (λ (v : Vec ℕ Global). vec_capacity v) kept, within.kept);
  marks = omega (arith, room, ap (λ (v : Vec Bool Global). vec_capacity v) marks, within.marks);
}
  where
    same_length : length new.now.items ≡ length old.now.items
    same_length = ap (λ (v : Vec ℕ Global). length v.items) now

    kept_length : length new.kept.items ≡ length old.kept.items
    kept_length = ap (λ (v : Vec ℕ Global). length v.items) kept

-- what was synced up to a later place is kept
pub keeps_more : (old new : Pages) (file : File) (to : ℕ) → Holds old file → last_of old < to → to ≤ old.synced
    → new.now.items ≡ old.now.items → new.kept.items ≡ old.kept.items ++ slice_range old.now.items (last_of old) to
    → new.marks.items ≡ old.marks.items ++ replicate (to - last_of old) false
    → new.end ≡ old.end → new.synced ≡ old.synced → new.first ≡ old.first → new.least ≡ old.least → IsWithin new → Holds new file
keeps_more old new file to holds after before now kept marks end synced first least within = record {
  within = within;
  contents = (λ i. take (end i) (now i)) ∙ holds.contents;
  synced = (λ i. (take (first i) (now i) ++ kept i) ++ slice_range (now i) (last i) (synced i))
      ∙ ap (λ (l : List ℕ). l ++ slice_range old.now.items to old.synced) (sym (append_assoc (take old.first old.now.items) old.kept.items (slice_range old.now.items (last_of old) to)))
      ∙ append_assoc (take old.first old.now.items ++ old.kept.items) (slice_range old.now.items (last_of old) to) (slice_range old.now.items to old.synced)
      ∙ ap (λ (l : List ℕ). (take old.first old.now.items ++ old.kept.items) ++ l) (range_part (last_of old) to old.synced old.now.items (omega arith) before)
      ∙ holds.synced;
  least = least ∙ holds.least;
  touched = λ place from below.
      (λ i. slice_index_or (marks i) (place - first i) false) ∙ unset (place - old.first) (cases_lt (place - old.first) (length old.marks.items)) ∙ holds.touched place (omega (arith, first)) (omega (arith, least));
  first = omega (arith, first, least, holds.first);
  untouched = λ place below. holds.untouched place (omega (arith, first));
}
  where
    last : last_of new ≡ to
    last =
        omega (
          arith,
          first,
          ap length kept,
          length-append old.kept.items (slice_range old.now.items (last_of old) to),
          length-range (last_of old) to old.now.items (omega (arith, before, holds.within.synced)),
        )

    unset : (k : ℕ) → (k < length old.marks.items) ⊎ (length old.marks.items ≤ k)
        → get_or (old.marks.items ++ replicate (to - last_of old) false) k false ≡ get_or old.marks.items k false
    unset k (inl inside) = get_or_append_left old.marks.items (replicate (to - last_of old) false) false k inside
    unset k (inr past) =
        get_or-append_right old.marks.items (replicate (to - last_of old) false) (length old.marks.items) k false refl past
        ∙ none (k - length old.marks.items) (cases_lt (k - length old.marks.items) (to - last_of old))
        ∙ sym (get_or_past old.marks.items k false past)
      where
        none : (j : ℕ) → (j < to - last_of old) ⊎ (to - last_of old ≤ j) → get_or (replicate (to - last_of old) false) j false ≡ false
        none j (inl inside) = get_or-replicate (to - last_of old) j false false inside
        none j (inr past) = get_or_past (replicate (to - last_of old) false) j false (omega (arith, length-replicate (to - last_of old) false))

pub keeps_more_within : (old new : Pages) (to : ℕ) → IsWithin old → last_of old < to → to ≤ old.synced
    → new.now ≡ old.now → new.kept.items ≡ old.kept.items ++ slice_range old.now.items (last_of old) to
    → new.marks.items ≡ old.marks.items ++ replicate (to - last_of old) false
    → vec_capacity old.kept ≤ vec_capacity new.kept → vec_capacity old.marks ≤ vec_capacity new.marks
    → new.room ≡ old.room → new.end ≡ old.end → new.synced ≡ old.synced → new.first ≡ old.first → IsWithin new
keeps_more_within old new to within after before now kept marks kept_room marks_room room end synced first = record {
  end = omega (arith, end, same_length, within.end);
  synced = omega (arith, synced, same_length, within.synced);
  long = omega (arith, room, same_length, within.long);
  first = omega (arith, end, first, within.first);
  last = omega (arith, first, synced, kept_length);
  marked = omega (arith, kept_length, marks_length, within.marked);
  now = omega (arith, room, ap (λ (v : Vec ℕ Global). vec_capacity v) now, within.now);
  kept = omega (arith, room, kept_room, within.kept);
  marks = omega (arith, room, marks_room, within.marks);
}
  where
    same_length : length new.now.items ≡ length old.now.items
    same_length = ap (λ (v : Vec ℕ Global). length v.items) now

    kept_length : length new.kept.items ≡ length old.kept.items + (to - last_of old)
    kept_length =
        ap length kept
        ∙ omega (
          arith,
          length-append old.kept.items (slice_range old.now.items (last_of old) to),
          length-range (last_of old) to old.now.items (omega (arith, before, within.synced)),
        )

    marks_length : length new.marks.items ≡ length old.marks.items + (to - last_of old)
    marks_length = ap length marks ∙ omega (arith, length-append old.marks.items (replicate (to - last_of old) false), length-replicate (to - last_of old) false)

-- what was there is now synced
pub settles : (old new : Pages) → IsWithin old → new.now ≡ old.now → new.kept.items ≡ [] → new.marks.items ≡ []
    → vec_capacity new.kept ≡ vec_capacity old.kept → vec_capacity new.marks ≡ vec_capacity old.marks
    → new.room ≡ old.room → new.end ≡ old.end → new.synced ≡ old.end → new.first ≡ old.end → new.least ≡ old.end
    → Holds new (settled (take old.end old.now.items))
settles old new within now kept marks kept_room marks_room room end synced first least = record {
  within = record {
    end = omega (arith, end, same_length, within.end);
    synced = omega (arith, synced, same_length, within.end);
    long = omega (arith, room, same_length, within.long);
    first = omega (arith, end, first);
    last = omega (arith, first, synced, ap length kept);
    marked = ap length marks ∙ sym (ap length kept);
    now = omega (arith, room, ap (λ (v : Vec ℕ Global). vec_capacity v) now, within.now);
    kept = omega (arith, room, kept_room, within.kept);
    marks = omega (arith, room, marks_room, within.marks);
  };
  contents = λ i. take (end i) (now i).items;
  synced = (λ i. (take (first i) (now i).items ++ kept i) ++ slice_range (now i).items (last i) (synced i))
      ∙ ap (λ (l : List ℕ). l ++ slice_range old.now.items old.end old.end) (append-nil (take old.end old.now.items))
      ∙ take_part old.end old.end old.now.items (omega arith);
  least = omega (arith, least, length-take old.end old.now.items, within.end);
  touched = λ place from below. absurd (omega (arith, first, least));
  first = omega (arith, first, least);
  untouched = λ place below. refl;
}
  where
    same_length : length new.now.items ≡ length old.now.items
    same_length = ap (λ (v : Vec ℕ Global). length v.items) now

    last : last_of new ≡ old.end
    last = omega (arith, first, ap length kept)

marked : (at n place : ℕ) (rest : Bool) → at ≤ place → place < at + n → (nat_le at place && nat_lt place (at + n) || rest) ≡ true
marked at n place rest from to = grind (arith, nat_tests)

unmarked : (at n place : ℕ) (rest : Bool) → ((place < at) ⊎ (at + n ≤ place)) → (nat_le at place && nat_lt place (at + n) || rest) ≡ rest
unmarked at n place rest (inl below) = grind (arith, nat_tests)
unmarked at n place rest (inr above) = grind (arith, nat_tests)

-- a write that is marked where what was synced is kept
module _ (old new : Pages) (file : File) (at : ℕ) (bytes : List ℕ) (holds : Holds old file) (from_first : old.first ≤ at) (kept : min (at + length bytes) old.synced ≤ last_of old)
    (start : at ≤ old.end) (fits : at + length bytes ≤ room_of old)
    (from to : ℕ) (from_is : from ≡ min (at - old.first) (length old.marks.items)) (to_is : to ≡ min (at - old.first + length bytes) (length old.marks.items))
    (now : new.now.items ≡ overwritten at bytes old.now.items) (touched : new.marks.items ≡ overwritten from (replicate (to - from) true) old.marks.items)
    (now_room : vec_capacity old.now ≤ vec_capacity new.now) (marks_room : vec_capacity new.marks ≡ vec_capacity old.marks)
    (room : new.room ≡ old.room) (end : new.end ≡ max old.end (at + length bytes)) (synced : new.synced ≡ old.synced) (first : new.first ≡ old.first)
    (same : new.kept ≡ old.kept) (least : new.least ≡ old.least) where
  abbrev marks : List Bool
  marks = replicate (to - from) true

  length-marks : length marks ≡ to - from
  length-marks = length-replicate (to - from) true

  now_length : length new.now.items ≡ max (length old.now.items) (at + length bytes)
  now_length = ap length now ∙ length-overwritten at bytes old.now.items (omega (arith, start, holds.within.end))

  marks_length : length new.marks.items ≡ length old.marks.items
  marks_length = ap length touched ∙ omega (arith, length-overwritten from marks old.marks.items (omega (arith, from_is)), length-marks, from_is, to_is)

  length-contents : length (overwritten at bytes (contents file)) ≡ new.end
  length-contents = omega (arith, length-overwritten at bytes (contents file) (omega (arith, start, end_is old file holds)), end_is old file holds, end)

  written_at : (place : ℕ) → place < new.end → slice_index new.now.items place ≡ slice_index (overwritten at bytes (contents file)) place
  written_at place inside = ap (λ (l : List ℕ). get_or l place 0) now ∙ ⊎_elim
      (λ below. overwritten_below at bytes old.now.items 0 place below (omega (arith, start, holds.within.end))
      ∙ now_at old file holds place (omega (arith, start))
      ∙ sym (overwritten_below at bytes (contents file) 0 place below (omega (arith, start, end_is old file holds))))
      (λ from. ⊎_elim
      (λ below. overwritten_within at bytes old.now.items 0 place (omega (arith, start, holds.within.end)) from below
      ∙ sym (overwritten_within at bytes (contents file) 0 place (omega (arith, start, end_is old file holds)) from below))
      (λ above. overwritten_above at bytes old.now.items 0 place (omega (arith, start, holds.within.end)) above
      ∙ now_at old file holds place (omega (arith, end))
      ∙ sym (overwritten_above at bytes (contents file) 0 place (omega (arith, start, end_is old file holds)) above))
      (cases_lt place (at + length bytes)))
      (cases_lt place at)

  -- no mark before the bytes changes
  early : (place : ℕ) → old.first ≤ place → place < at → (place - old.first < length old.marks.items) ⊎ (length old.marks.items ≤ place - old.first)
      → get_or (overwritten from marks old.marks.items) (place - old.first) false ≡ get_or old.marks.items (place - old.first) false
  early place after below (inl inside) = overwritten_below from marks old.marks.items false (place - old.first) (omega (arith, from_is)) inside
  early place after below (inr past) = overwritten_above from marks old.marks.items false (place - old.first) (omega (arith, from_is)) (omega (arith, from_is, to_is, length-marks))

  touched_at : (place : ℕ) → new.first ≤ place → place < new.least → slice_index_or new.marks.items (place - new.first) false ≡ is_written place (write at bytes ∷ file.changes)
  touched_at place later inside =
      let is : is_written place file.changes ≡ slice_index_or old.marks.items (place - old.first) false = sym (holds.touched place (omega (arith, first)) (omega (arith, least))) in
      let inside_synced : place < old.synced = omega (arith, least, least_synced old file holds) in
      (λ i. get_or (touched i) (place - first i) false) ∙ ⊎_elim
      (λ below. early place (omega (arith, first)) below (cases_lt (place - old.first) (length old.marks.items)) ∙ sym is
      ∙ sym (unmarked at (length bytes) place (is_written place file.changes) (inl below)))
      (λ after. ⊎_elim
      (λ below. overwritten_within from marks old.marks.items false (place - old.first) (omega (arith, from_is)) (omega (arith, first, from_is, from_first)) (omega (arith, first, from_is, to_is, length-marks, from_first, kept, holds.within.marked))
      ∙ get_or-replicate (to - from) (place - old.first - from) true false (omega (arith, first, from_is, to_is, from_first, kept, holds.within.marked)) ∙ sym (marked at (length bytes) place (is_written place file.changes) after below))
      (λ above. overwritten_above from marks old.marks.items false (place - old.first) (omega (arith, from_is)) (omega (arith, first, from_is, to_is, length-marks, from_first)) ∙ sym is
      ∙ sym (unmarked at (length bytes) place (is_written place file.changes) (inr above)))
      (cases_lt place (at + length bytes)))
      (cases_lt place at)

  -- what was synced is as it was
  front_kept : take new.first new.now.items ≡ take old.first old.now.items
  front_kept = ext_get_or 0 (take new.first new.now.items) (take old.first old.now.items)
      (omega (arith, length-take new.first new.now.items, length-take old.first old.now.items, now_length, first, holds.within.first, holds.within.end))
      (λ k inside.
      let here : k < old.first = omega (arith, length-take new.first new.now.items, first) in
      get_or-take new.first new.now.items k 0 (omega (arith, first)) ∙ ap (λ (l : List ℕ). get_or l k 0) now
      ∙ overwritten_below at bytes old.now.items 0 k (omega arith) (omega (arith, holds.within.first, holds.within.end))
      ∙ sym (get_or-take old.first old.now.items k 0 here))

  -- and so is what was synced after that
  back_kept : slice_range new.now.items (last_of old) old.synced ≡ slice_range old.now.items (last_of old) old.synced
  back_kept = ext_get_or 0 (slice_range new.now.items (last_of old) old.synced) (slice_range old.now.items (last_of old) old.synced)
      (length-range (last_of old) old.synced new.now.items (omega (arith, now_length, holds.within.synced)) ∙ sym (length-range (last_of old) old.synced old.now.items holds.within.synced))
      (λ k inside.
      let here : k < old.synced - last_of old = omega (arith, length-range (last_of old) old.synced new.now.items (omega (arith, now_length, holds.within.synced))) in
      at_range new.now.items k here ∙ ap (λ (l : List ℕ). get_or l (last_of old + k) 0) now
      ∙ overwritten_above at bytes old.now.items 0 (last_of old + k) (omega (arith, start, holds.within.end)) (omega (arith, kept))
      ∙ sym (at_range old.now.items k here))
    where
      at_range : (xs : List ℕ) (k : ℕ) → k < old.synced - last_of old → get_or (slice_range xs (last_of old) old.synced) k 0 ≡ get_or xs (last_of old + k) 0
      at_range xs k inside = get_or-take (old.synced - last_of old) (drop (last_of old) xs) k 0 inside ∙ get_or-drop (last_of old) xs k 0

  pub writes : Holds new (changed (write at bytes) file)
  writes = record {
    within = record {
      end = omega (arith, now_length, end, holds.within.end);
      synced = omega (arith, now_length, synced, holds.within.synced);
      long = omega (arith, now_length, room, fits, holds.within.long);
      first = omega (arith, first, end, holds.within.first);
      last = omega (arith, first, synced, ap (λ (v : Vec ℕ Global). length v.items) same, holds.within.last);
      marked = omega (arith, marks_length, ap (λ (v : Vec ℕ Global). length v.items) same, holds.within.marked);
      now = omega (arith, room, now_room, holds.within.now);
      kept = omega (arith, room, ap (λ (v : Vec ℕ Global). vec_capacity v) same, holds.within.kept);
      marks = omega (arith, room, marks_room, holds.within.marks);
    };
    contents = ext_get_or 0 (take new.end new.now.items) (overwritten at bytes (contents file))
        (omega (arith, length-take new.end new.now.items, length-contents, now_length, end, holds.within.end))
        (λ k inside.
        let here : k < new.end = omega (arith, length-take new.end new.now.items) in
        get_or-take new.end new.now.items k 0 here ∙ written_at k here);
    synced = (λ i. (take new.first new.now.items ++ (same i).items) ++ slice_range new.now.items (first i + length (same i).items) (synced i))
        ∙ (λ i. (front_kept i ++ old.kept.items) ++ back_kept i) ∙ holds.synced;
    least = least ∙ omega (arith, holds.least, least_end old file holds, length-contents, end);
    touched = touched_at;
    first = omega (arith, first, least, holds.first);
    untouched = λ place below. unmarked at (length bytes) place (is_written place file.changes) (inl (omega (arith, first))) ∙ holds.untouched place (omega (arith, first));
  }

-- what a pick of 0 leaves
pub left_synced : (old : Pages) (file : File) → Holds old file → (now : List ℕ) → now ≡ overwritten old.first old.kept.items old.now.items → take old.synced now ≡ file.synced
left_synced old file holds now is =
    (λ i. take (up_to i) (is i))
    ∙ take_past (last_of old) (old.synced - last_of old) (take old.first old.now.items ++ old.kept.items) (drop (last_of old) old.now.items) (sym long)
    ∙ holds.synced
  where
    up_to : old.synced ≡ last_of old + (old.synced - last_of old)
    up_to = omega (arith, holds.within.last)

    long : last_of old ≡ length (take old.first old.now.items ++ old.kept.items)
    long =
        omega (
          arith,
          length-append (take old.first old.now.items) old.kept.items,
          length-take old.first old.now.items,
          holds.within.first,
          holds.within.end,
        )

pub restored_length : (old : Pages) → IsWithin old → (now : List ℕ) → now ≡ overwritten old.first old.kept.items old.now.items → length now ≡ length old.now.items
restored_length old within now is =
    ap length is ∙ omega (arith, length-overwritten old.first old.kept.items old.now.items (omega (arith, within.first, within.end)), within.last, within.synced)

-- other bytes, and maybe another end
pub left_within : (old new : Pages) → IsWithin old → length new.now.items ≡ length old.now.items → vec_capacity old.now ≤ vec_capacity new.now
    → new.kept ≡ old.kept → new.marks ≡ old.marks → new.room ≡ old.room → new.synced ≡ old.synced → new.first ≡ old.first
    → (new.end ≡ old.end) ⊎ (new.end ≡ old.synced) → IsWithin new
left_within old new within same_length now_room kept marks room synced first ends = record {
  end = end_within ends;
  synced = omega (arith, synced, same_length, within.synced);
  long = omega (arith, room, same_length, within.long);
  first = first_within ends;
  last = omega (arith, first, synced, kept_length, within.last);
  marked = omega (arith, kept_length, ap (λ (v : Vec Bool Global). length v.items) marks, within.marked);
  now = omega (arith, room, now_room, within.now);
  kept = omega (arith, room, ap (λ (v : Vec ℕ Global). vec_capacity v) kept, within.kept);
  marks = omega (arith, room, ap (λ (v : Vec Bool Global). vec_capacity v) marks, within.marks);
}
  where
    kept_length : length new.kept.items ≡ length old.kept.items
    kept_length = ap (λ (v : Vec ℕ Global). length v.items) kept

    end_within : (new.end ≡ old.end) ⊎ (new.end ≡ old.synced) → new.end ≤ length new.now.items
    end_within (inl is) = omega (arith, is, same_length, within.end)
    end_within (inr is) = omega (arith, is, same_length, within.synced)

    first_within : (new.end ≡ old.end) ⊎ (new.end ≡ old.synced) → new.first ≤ new.end
    first_within (inl is) = omega (arith, is, first, within.first)
    first_within (inr is) = omega (arith, is, first, within.last)

pub length-filled : (pick : ℕ) (file : File) (place : ℕ) (bytes : List ℕ) → length (filled pick file place bytes) ≡ length bytes
length-filled pick file place [] = refl
length-filled pick file place (byte ∷ bytes) = omega (arith, length-filled pick file (place + 1) bytes)

pub filled_at : (pick : ℕ) (file : File) (place : ℕ) (bytes : List ℕ) (k : ℕ) → k < length bytes
    → slice_index (filled pick file place bytes) k ≡ (if is_open file (place + k) then (pick + (place + k)) % 256 else slice_index bytes k)
filled_at pick file place [] k inside = absurd (omega arith)
filled_at pick file place (byte ∷ bytes) zero inside = ap (λ (n : ℕ). if is_open file n then (pick + n) % 256 else byte) (omega arith)
filled_at pick file place (byte ∷ bytes) (suc k) inside =
    filled_at pick file (place + 1) bytes k (omega arith) ∙ ap (λ (n : ℕ). if is_open file n then (pick + n) % 256 else slice_index bytes k) (omega arith)

-- the code's test of a place is the definition's
test_of : (first least end k : ℕ) (touched written : Bool) → k < end → first ≤ least → (k < first → written ≡ false) → (first ≤ k → k < least → touched ≡ written)
    → (nat_le first k && nat_lt k end && (nat_le least k || touched)) ≡ (written || nat_le least k)
test_of first least end k touched written inside order untouched same = ⊎_elim
    (λ below. let none : written ≡ false = untouched below in let past : k < least = omega arith in grind (arith, nat_tests))
    (λ from. ⊎_elim (λ below. let is : touched ≡ written = same from below in grind (arith, nat_tests)) (λ above. grind (arith, nat_tests)) (cases_lt k least))
    (cases_lt k first)

pub other_pick : (pick : ℕ) (file : File) → pick ≢ 0 → pick ≢ 1 → picked pick file ≡ filled pick file 0 (contents file)
other_pick zero file not_0 not_1 = absurd (not_0 refl)
other_pick (suc zero) file not_0 not_1 = absurd (not_1 refl)
other_pick (suc (suc pick)) file not_0 not_1 = refl

-- what any other pick leaves
pub left_filled : (old : Pages) (file : File) (pick : ℕ) → Holds old file → (now : List ℕ) → length now ≡ length old.now.items
    → ((k : ℕ) → slice_index now k ≡ (if nat_le old.first k && nat_lt k old.end && (nat_le old.least k || slice_index_or old.marks.items (k - old.first) false) then (pick + k) % 256 else slice_index old.now.items k))
    → take old.end now ≡ filled pick file 0 (contents file)
left_filled old file pick holds now same each =
    ext_get_or 0 (take old.end now) (filled pick file 0 (contents file))
    (omega (arith, length-take old.end now, same, length-filled pick file 0 (contents file), end_is old file holds, holds.within.end))
    (λ k inside.
    let here : k < old.end = omega (arith, length-take old.end now) in
    get_or-take old.end now k 0 here ∙ each k ∙ opens k here ∙ ap (λ (b : ℕ). if is_open file k then (pick + k) % 256 else b) (now_at old file holds k here)
    ∙ ap (λ (n : ℕ). if is_open file n then (pick + n) % 256 else slice_index (contents file) k) (omega arith)
    ∙ sym (filled_at pick file 0 (contents file) k (omega (arith, end_is old file holds))))
  where
    opens : (k : ℕ) → k < old.end
        → (if nat_le old.first k && nat_lt k old.end && (nat_le old.least k || slice_index_or old.marks.items (k - old.first) false) then (pick + k) % 256 else slice_index old.now.items k)
        ≡ (if is_open file k then (pick + k) % 256 else slice_index old.now.items k)
    opens k here = ap (λ (b : Bool). if b then (pick + k) % 256 else slice_index old.now.items k)
        (test_of old.first old.least old.end k (slice_index_or old.marks.items (k - old.first) false) (is_written k file.changes) here holds.first (holds.untouched k) (holds.touched k)
        ∙ ap (λ (n : ℕ). is_written k file.changes || nat_le n k) holds.least)
