-- Records that are added one after the other, and what a crash leaves meanwhile.
use Rattle.std.proofs.Common.{◌≡◌, ◌∙◌, ⊎_elim, inl, ℕ, ◌<◌, Bool, true, false, cond, nat_eq, None, length, take, drop, arith, List, [], ◌∷◌, ◌++◌, ap, sym, subst, refl, append_assoc, append-nil}
use Rattle.std.specs.Prelude.{OnOk, Result}
use Rattle.std.proofs.lemmas.Bool.Decides.{nat_tests}
use Rattle.bson_doc.proofs.BindLemmas.{on_ok}
use Rattle.rs_disk.specs.File.{LeavesOnly}
use Rattle.rs_disk.specs.Moments.{EachMoment, joins, starts, weakens}
use Rattle.rs_disk.specs.State.{State, Keeps}
use Rattle.record_file.proofs.KeepsLemmas.{keeps_none, keeps_then}
use Rattle.repl_msg.specs.declared.record.Record.{Record}
use Rattle.repl_msg.specs.declared.record.Record.TheVariants as records
use Rattle.node_journal.specs.Files.{HasJournal, IsAtRest, IsBeforeOrAfter, IsOpen}
use Rattle.node_journal.proofs.DiskLemmas.{rest_only}
use Rattle.oplog_entry.specs.declared.entry.Entry.{Entry}
use Rattle.checkpoint_store.specs.Files.{HasCheckpoint, IsBeforeOrAfter as IsOldOrNew}
use Rattle.checkpoint_store.specs.declared.stable.Stable.{Stable}
use Rattle.initial_sync.specs.Missing.{BATCH, HasFront, batch_of, batches, term_missing}
use Rattle.initial_sync.proofs.FrontLemmas.{first_batch}

-- the term isn't there
pub term_is : (term kept_term : ℕ) → (kept_term ≡ term → ⊥) → term_missing term kept_term ≡ records.Vote (record { term = term; candidate = None }) ∷ []
term_is term kept_term other = by_test (nat_eq kept_term term) refl
  where
    by_test : (b : Bool) → nat_eq kept_term term ≡ b → cond b [] (records.Vote (record { term = term; candidate = None }) ∷ []) ≡ records.Vote (record { term = term; candidate = None }) ∷ []
    by_test false is = refl
    by_test true is = let same : kept_term ≡ term = grind (arith, nat_tests) in absurd (other same)

-- ---- the first of some records

-- nothing was added yet
pub front_none : (state : State) (items added : List Record) → IsAtRest state items → EachMoment (HasFront items added) state state
front_none state items added rest =
    starts (HasFront items added) state
    (λ image left. ([], added, refl, subst (HasJournal image) (sym (append-nil items)) (rest_only state items rest image left)))

pub front_one : (old new : State) (items : List Record) (item : Record) → EachMoment (IsBeforeOrAfter items item) old new → EachMoment (HasFront items (item ∷ [])) old new
front_one old new items item moments =
    weakens (IsBeforeOrAfter items item) (HasFront items (item ∷ []))
    (λ image. ⊎_elim (λ before. ([], item ∷ [], refl, subst (HasJournal image) (sym (append-nil items)) before)) (λ after. (item ∷ [], [], refl, after))) old new moments

pub front_more : (old new : State) (items added more : List Record) → EachMoment (HasFront items added) old new → EachMoment (HasFront items (added ++ more)) old new
front_more old new items added more moments =
    weakens (HasFront items added) (HasFront items (added ++ more))
    (λ image front. (front.0, front.1 ++ more, ap (λ (l : List Record). l ++ more) front.2 ∙ append_assoc front.0 front.1 more, front.3)) old new moments

pub front_then : (old mid new : State) (items first later : List Record) → EachMoment (HasFront items first) old mid → EachMoment (HasFront (items ++ first) later) mid new
    → EachMoment (HasFront items (first ++ later)) old new
front_then old mid new items first later one two =
    joins (HasFront items (first ++ later)) old mid new (front_more old mid items first later one)
    (weakens (HasFront (items ++ first) later) (HasFront items (first ++ later))
    (λ image front. (
      first ++ front.0,
      front.1,
      ap (λ (l : List Record). first ++ l) front.2 ∙ sym (append_assoc first front.0 front.1),
      subst (HasJournal image) (append_assoc items first front.0) front.3,
    )) mid new two)

-- ---- some were added, and others are left

abbrev pub Adds : Record → State → State → Type 0
Adds item old new = (items : List Record) → IsAtRest old items → IsAtRest new (items ++ item ∷ [])

abbrev pub Tries : Record → State → State → Type 0
Tries item old new = (items : List Record) → IsAtRest old items → EachMoment (IsBeforeOrAfter items item) old new

pub record Added (whole rest : List Record) (old new : State) : Type 0 where
  pub done : List Record
  pub is : whole ≡ done ++ rest
  pub stands : (items : List Record) → IsAtRest old items → IsAtRest new (items ++ done)
  pub moments : (items : List Record) → IsAtRest old items → EachMoment (HasFront items done) old new
  pub keeps : Keeps ⊥ old new
  pub is_open : IsOpen new

pub added_none : (whole : List Record) (state : State) → IsOpen state → Added whole whole state state
added_none whole state is_open = record {
  done = [];
  is = refl;
  stands = λ items rest. subst (IsAtRest state) (sym (append-nil items)) rest;
  moments = λ items rest. front_none state items [] rest;
  keeps = keeps_none state;
  is_open = is_open;
}

pub added_more : (item : Record) (whole rest : List Record) (old mid new : State) → Added whole (item ∷ rest) old mid → Adds item mid new → Tries item mid new → Keeps ⊥ mid new → IsOpen new
    → Added whole rest old new
added_more item whole rest old mid new so_far adds tries keeps is_open = record {
  done = so_far.done ++ item ∷ [];
  is = so_far.is ∙ sym (append_assoc so_far.done (item ∷ []) rest);
  stands = λ items before. subst (IsAtRest new) (append_assoc items so_far.done (item ∷ [])) (adds (items ++ so_far.done) (so_far.stands items before));
  moments = λ items before.
      front_then old mid new items so_far.done (item ∷ []) (so_far.moments items before)
      (front_one mid new (items ++ so_far.done) item (tries (items ++ so_far.done) (so_far.stands items before)));
  keeps = keeps_then old mid new so_far.keeps keeps;
  is_open = is_open;
}

pub added_fails : (item : Record) (whole rest : List Record) (old mid new : State) → Added whole (item ∷ rest) old mid → Tries item mid new
    → (items : List Record) → IsAtRest old items → EachMoment (HasFront items whole) old new
added_fails item whole rest old mid new so_far tries items before =
    subst (λ (l : List Record). EachMoment (HasFront items l) old new) (append_assoc so_far.done (item ∷ []) rest ∙ sym so_far.is)
    (front_more old new items (so_far.done ++ item ∷ []) rest
    (front_then old mid new items so_far.done (item ∷ []) (so_far.moments items before)
    (front_one mid new (items ++ so_far.done) item (tries (items ++ so_far.done) (so_far.stands items before)))))

pub added_stops : (whole rest : List Record) (old new : State) → Added whole rest old new → (items : List Record) → IsAtRest old items → EachMoment (HasFront items whole) old new
added_stops whole rest old new so_far items before =
    subst (λ (l : List Record). EachMoment (HasFront items l) old new) (sym so_far.is) (front_more old new items so_far.done rest (so_far.moments items before))

added_all : (whole : List Record) (old new : State) → Added whole [] old new → (items : List Record) → IsAtRest old items → IsAtRest new (items ++ whole)
added_all whole old new so_far items before =
    subst (λ (l : List Record). IsAtRest new (items ++ l)) (sym (so_far.is ∙ append-nil so_far.done)) (so_far.stands items before)

-- the next record
pub next_added : (entries piece tail : List Entry) (item : Record) (whole : List Record) (old mid : State) → piece ≡ take BATCH entries → tail ≡ drop BATCH entries → item ≡ batch_of piece
    → 0 < length entries → Added whole (batches entries) old mid → Added whole (item ∷ batches tail) old mid
next_added entries piece tail item whole old mid piece_is after_is is some so_far =
    let first : batch_of (take BATCH entries) ≡ item = sym (is ∙ ap batch_of piece_is) in
    let rest : batches (drop BATCH entries) ≡ batches tail = ap batches (sym after_is) in
    subst (λ (l : List Record). Added whole l old mid) (first_batch entries some ∙ (λ i. first i ∷ rest i)) so_far

no_batches : (entries : List Entry) → length entries ≡ 0 → batches entries ≡ []
no_batches [] none = refl
no_batches (e ∷ entries) none = absurd (omega (arith, none))

pub added_whole : (whole : List Record) (left : List Entry) (old new : State) → length left ≡ 0 → Added whole (batches left) old new → (items : List Record) → IsAtRest old items
    → IsAtRest new (items ++ whole)
added_whole whole left old new none so_far items before =
    added_all whole old new (subst (λ (l : List Record). Added whole l old new) (no_batches left none) so_far) items before

-- first these records, and then those
pub both_added : {X E : Type 0} (result : Result X E) (old mid new : State) (first later : List Record) → ((items : List Record) → IsAtRest old items → IsAtRest mid (items ++ first))
    → OnOk result ((items : List Record) → IsAtRest mid items → IsAtRest new (items ++ later))
    → OnOk result ((items : List Record) → IsAtRest old items → IsAtRest new (items ++ (first ++ later)))
both_added result old mid new first later added more =
    on_ok result (λ adds items rest. subst (IsAtRest new) (append_assoc items first later) (adds (items ++ first) (added items rest))) more

-- no checkpoint was saved
pub saved_none : (state : State) (before after : Stable) → LeavesOnly (λ image. HasCheckpoint image before) state.file → EachMoment (IsOldOrNew before after) state state
saved_none state before after shows = starts (IsOldOrNew before after) state (λ image left. inl (shows image left))
