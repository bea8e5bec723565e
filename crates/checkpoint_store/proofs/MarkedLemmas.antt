-- One more record, and where the last whole checkpoint then is.
use Rattle.std.proofs.Common.{◌≡◌, ℕ, ◌+◌, ◌-◌, ◌<◌, ◌≤◌, List, [], ◌∷◌, ◌++◌, length, take, drop, map, refl, sym, ap, subst, ◌∙◌, Option, None, Some, arith, length-take}
use Rattle.std.specs.Prelude.{All, IsSome, Vec, unwrap_or, slice_index, slice_index_or, slice_range}
use Rattle.std.specs.declared.alloc.Global.{Global}
use Rattle.std.proofs.lemmas.List.{drop-take, drop-append-le, drop-map, length-map, take_all, take-map}
use Rattle.std.proofs.lemmas.List.Elements.{All-drop, All-take}
use Rattle.std.proofs.lemmas.List.Sums.{fold-append}
use Rattle.record_file.specs.Records.{lists}
use Rattle.checkpoint_store.specs.Checkpoint.{SoFar, last_whole, nothing_yet, with_record}
use Rattle.checkpoint_store.specs.Layout.{Record, begins, holds, ends, record_bytes}
use Rattle.checkpoint_store.specs.Marked.{Marks, come_to}
use Rattle.checkpoint_store.specs.Spelled.{IsRecord}
use Rattle.checkpoint_store.specs.declared.stable.Stable.{Stable}

-- the records up to one place and up to the next, from an earlier one on
range_more : (records : List Record) (from place : ℕ) (item : Record) → from ≤ place → place < length records → take (place + 1) records ≡ take place records ++ item ∷ []
    → slice_range records from (place + 1) ≡ slice_range records from place ++ item ∷ []
range_more records from place item before within more =
    let long : from + (place + 1 - from) ≡ place + 1 = omega (arith, before) in
    let short : from + (place - from) ≡ place = omega (arith, before) in
    sym (drop-take from (place + 1 - from) records) ∙ ap (λ (n : ℕ). drop from (take n records)) long ∙ ap (λ (l : List Record). drop from l) more
    ∙ drop-append-le from (take place records) (item ∷ []) (omega (arith, before, within, length-take place records))
    ∙ ap (λ (l : List Record). l ++ item ∷ []) (ap (λ (n : ℕ). drop from (take n records)) (sym short) ∙ drop-take from (place - from) records)

come_more : (records : List Record) (item : Record) → come_to (records ++ item ∷ []) ≡ with_record (come_to records) item
come_more records item = fold-append with_record nothing_yet records (item ∷ [])

module _ (records : List Record) (place from to : ℕ) (begun : Option ℕ) (within : place < length records) where
  module _ (item : Record) (more : take (place + 1) records ≡ take place records ++ item ∷ []) (marks : Marks records place from to begun) where
    now_is : come_to (take (place + 1) records) ≡ with_record (come_to (take place records)) item
    now_is = ap come_to more ∙ come_more (take place records) item

    part_is : (at : ℕ) → at ≤ place → come_to (slice_range records at (place + 1)) ≡ with_record (come_to (slice_range records at place)) item
    part_is at before = ap come_to (range_more records at place item before within more) ∙ come_more (slice_range records at place) item

  pub marks_begin : (item : Record) → 1 ≡ slice_index (record_bytes item) 0 → take (place + 1) records ≡ take place records ++ item ∷ [] → Marks records place from to begun
      → Marks records (place + 1) from to (Some place)
  marks_begin (begins at) kind more marks = record {
    from_is = marks.from_is;
    to_is = omega (arith, marks.to_is);
    whole = marks.whole ∙ sym (ap (λ (s : SoFar). s.whole) (now_is (begins at) more marks));
    begun_is = (
      omega arith,
      subst (λ (s : SoFar). IsSome s.begun) (sym (now_is (begins at) more marks)) refl,
      ap (λ (s : SoFar). s.begun) (part_is (begins at) more marks place (omega arith)) ∙ sym (ap (λ (s : SoFar). s.begun) (now_is (begins at) more marks)),
    );
  }
  marks_begin (holds d) kind more marks = absurd (omega (arith, kind))
  marks_begin ends kind more marks = absurd (omega (arith, kind))

pub marks_end : (records : List Record) (place from to start : ℕ) → place < length records → (item : Record) → 3 ≡ slice_index (record_bytes item) 0
    → take (place + 1) records ≡ take place records ++ item ∷ [] → Marks records place from to (Some start) → Marks records (place + 1) start (place + 1) None
marks_end records place from to start within (begins at) kind more marks = absurd (omega (arith, kind))
marks_end records place from to start within (holds d) kind more marks = absurd (omega (arith, kind))
marks_end records place from to start within ends kind more marks =
    let so_far = come_to (take place records) in
    let there = come_to (slice_range records start place) in
    let begun = marks.begun_is in
    let now = now_is records place from to (Some start) within ends more marks in
    let part = part_is records place from to (Some start) within ends more marks start (omega (arith, begun.0)) in record {
      from_is = omega (arith, begun.0);
      to_is = omega arith;
      whole = ap (λ (s : SoFar). s.whole) part ∙ ended there.begun so_far.begun there.whole so_far.whole begun.2 begun.1 ∙ sym (ap (λ (s : SoFar). s.whole) now);
      begun_is = ap (λ (s : SoFar). s.begun) now;
    }
  where
    ended : (one other : Option Stable) (a b : Stable) → one ≡ other → IsSome other → unwrap_or one a ≡ unwrap_or other b
    ended one None a b same some = absurd (cc (some))
    ended one (Some x) a b same some = ap (λ (o : Option Stable). unwrap_or o a) same

-- neither begins nor ends one
pub marks_same : (records : List Record) (place from to : ℕ) (begun : Option ℕ) → place < length records → (item : Record) → (kind : ℕ) → kind ≡ slice_index (record_bytes item) 0
    → (kind ≡ 1 → ⊥) → (kind ≡ 3 → IsSome begun → ⊥) → take (place + 1) records ≡ take place records ++ item ∷ [] → Marks records place from to begun
    → Marks records (place + 1) from to begun
marks_same records place from to begun within (begins at) kind is not_begin not_end more marks = absurd (not_begin is)
marks_same records place from to None within (holds d) kind is not_begin not_end more marks =
    let now = now_is records place from to None within (holds d) more marks in record {
      from_is = marks.from_is;
      to_is = omega (arith, marks.to_is);
      whole = marks.whole ∙ sym (ap (λ (s : SoFar). s.whole) now);
      begun_is = ap (λ (s : SoFar). s.begun) now ∙ still_none (come_to (take place records)) marks.begun_is;
    }
  where
    still_none : (s : SoFar) → s.begun ≡ None → (with_record s (holds d)).begun ≡ None
    still_none s none = ap (λ (o : Option Stable). (with_record (record { whole = s.whole; begun = o }) (holds d)).begun) none
marks_same records place from to (Some start) within (holds d) kind is not_begin not_end more marks =
    let so_far = come_to (take place records) in
    let there = come_to (slice_range records start place) in
    let now = now_is records place from to (Some start) within (holds d) more marks in
    let begun = marks.begun_is in
    let part = part_is records place from to (Some start) within (holds d) more marks start (omega (arith, begun.0)) in record {
      from_is = marks.from_is;
      to_is = omega (arith, marks.to_is);
      whole = marks.whole ∙ sym (ap (λ (s : SoFar). s.whole) now);
      begun_is = (
        omega (arith, begun.0),
        subst (λ (s : SoFar). IsSome s.begun) (sym now) (still_some so_far begun.1),
        ap (λ (s : SoFar). s.begun) part ∙ alike there so_far begun.2 ∙ sym (ap (λ (s : SoFar). s.begun) now),
      );
    }
  where
    still_some : (s : SoFar) → IsSome s.begun → IsSome (with_record s (holds d)).begun
    still_some s some = of s.begun some
      where
        of : (o : Option Stable) → IsSome o → IsSome (with_record (record { whole = s.whole; begun = o }) (holds d)).begun
        of None some = some
        of (Some x) some = some

    alike : (one other : SoFar) → one.begun ≡ other.begun → (with_record one (holds d)).begun ≡ (with_record other (holds d)).begun
    alike one other same = ap (λ (o : Option Stable). (with_record (record { whole = one.whole; begun = o }) (holds d)).begun) same
marks_same records place from to None within ends kind is not_begin not_end more marks =
    let now = now_is records place from to None within ends more marks in record {
      from_is = marks.from_is;
      to_is = omega (arith, marks.to_is);
      whole = marks.whole ∙ still (come_to (take place records)) marks.begun_is ∙ sym (ap (λ (s : SoFar). s.whole) now);
      begun_is = ap (λ (s : SoFar). s.begun) now;
    }
  where
    still : (s : SoFar) → s.begun ≡ None → s.whole ≡ (with_record s ends).whole
    still s none = sym (ap (λ (o : Option Stable). unwrap_or o s.whole) none)
marks_same records place from to (Some start) within ends kind is not_begin not_end more marks = absurd (not_end is refl)

-- before the first record
pub marks_none : (records : List Record) → Marks records 0 0 0 None
marks_none records = record { from_is = omega arith; to_is = omega arith; whole = refl; begun_is = refl }

-- all the records
pub marks_all : (pieces : List (Vec ℕ Global)) (records : List Record) (from to : ℕ) (begun : Option ℕ) → lists pieces ≡ map record_bytes records
    → Marks records (length pieces) from to begun → last_whole (slice_range records from to) ≡ last_whole records
marks_all pieces records from to begun same marks =
    marks.whole ∙ ap (λ (l : List Record). (come_to l).whole)
    (take_all (length pieces) records (omega (arith, ap length same, length-map pieces (λ (v : Vec ℕ Global). v.items), length-map records record_bytes)))

-- the records between two places, and their bytes
pub range_lists : (pieces : List (Vec ℕ Global)) (records : List Record) (from to : ℕ) → lists pieces ≡ map record_bytes records
    → lists (slice_range pieces from to) ≡ map record_bytes (slice_range records from to)
range_lists pieces records from to same =
    let item = λ (v : Vec ℕ Global). v.items in
    sym (take-map item (to - from) (drop from pieces)) ∙ ap (take (to - from)) (sym (drop-map item from pieces) ∙ ap (drop from) same ∙ drop-map record_bytes from records)
    ∙ take-map record_bytes (to - from) (drop from records)

pub range_each : (records : List Record) (from to : ℕ) → All IsRecord records → All IsRecord (slice_range records from to)
range_each records from to each = All-take IsRecord (to - from) (drop from records) (All-drop IsRecord from records each)

pub some_bytes : (item : Record) → 0 < length (record_bytes item)
some_bytes (begins at) = omega arith
some_bytes (holds documents) = omega arith
some_bytes ends = omega arith

pub first_is : (bytes : List ℕ) (d : ℕ) → 0 < length bytes → slice_index_or bytes 0 d ≡ slice_index bytes 0
first_is [] d some = absurd (omega arith)
first_is (x ∷ bytes) d some = refl
