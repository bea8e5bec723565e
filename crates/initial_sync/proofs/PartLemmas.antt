-- Records that are found, with the first of those that are missing, are part or all of a copy.
use Rattle.std.proofs.Common.{◌≡◌, ◌∙◌, ◌⊎◌, ⊎_elim, inl, inr, ℕ, Bool, true, false, cond, nat_eq, List, [], ◌∷◌, ◌++◌, length, drop, refl, sym, ap, subst, arith, append_assoc, append-nil, None}
use Rattle.std.specs.Prelude.{fold}
use Rattle.std.specs.List.{AllPairs}
use Rattle.std.proofs.lemmas.List.{drop_at}
use Rattle.std.proofs.lemmas.List.Sums.{fold-append}
use Rattle.std.proofs.lemmas.Bool.Decides.{nat_tests}
use Rattle.rs_optime.specs.declared.optime.OpTime.{OpTime}
use Rattle.vote_store.specs.declared.vote.Vote.{Vote}
use Rattle.oplog_entry.specs.Log.{Begins, StandsBefore}
use Rattle.oplog_entry.specs.Visible.{last_of}
use Rattle.oplog_entry.specs.declared.entry.Entry.{Entry}
use Rattle.repl_msg.specs.Kept.{kept, nothing_kept, with_record}
use Rattle.repl_msg.specs.declared.record.Kept.{Kept}
use Rattle.repl_msg.specs.declared.record.Record.{Record}
use Rattle.repl_msg.specs.declared.record.Record.TheVariants as records
use Rattle.node_journal.specs.Files.{HasJournal, IsThemOrRenewed}
use Rattle.node_journal.specs.Renewed.{renewed}
use Rattle.node_journal.proofs.ApartLemmas.{one_journal}
use Rattle.node_journal.proofs.RenewLemmas.{same_but_form}
use Rattle.checkpoint_store.specs.Checkpoint.{no_stable}
use Rattle.checkpoint_store.specs.Files.{HasCheckpoint}
use Rattle.checkpoint_store.specs.declared.stable.Stable.{Stable}
use Rattle.checkpoint_store.proofs.OnceLemmas.{checkpoint_once}
use Rattle.initial_sync.specs.Copies.{Copy, GivesBack, IsOf, IsOfSomeCopy, IsPartOrWhole, IsWhole, documents_of}
use Rattle.initial_sync.specs.Missing.{IsOfThis, batches, missing}
use Rattle.initial_sync.proofs.FrontLemmas.{Grows, begins_both, fronts, same_last}

-- ---- the same records in the newest form

pub missing_renewed : (copy : Copy) (items : List Record) → missing copy (kept (renewed items)) ≡ missing copy (kept items)
missing_renewed copy items = ap (missing copy) (same_but_form items)

pub of_renewed : (term : ℕ) (log : List Entry) (items : List Record) → IsOf term log (kept items) → IsOf term log (kept (renewed items))
of_renewed term log items is = record {
  vote = ap (λ (k : Kept). k.vote) (same_but_form items) ∙ is.vote;
  config = ap (λ (k : Kept). k.config) (same_but_form items) ∙ is.config;
  entries = ap (λ (k : Kept). k.entries) (same_but_form items) ∙ is.entries;
  point = ap (λ (k : Kept). k.point) (same_but_form items) ∙ is.point;
}

pub this_as_it_was : (copy : Copy) (items : List Record) (stable : OpTime) → IsOfThis copy (kept (renewed items)) stable → IsOfThis copy (kept items) stable
this_as_it_was copy items stable this =
    let same = subst (λ (k : Kept). IsOfThis copy k stable) (same_but_form items) this in
    record { term = same.term; entries = same.entries; checkpoint = same.checkpoint }

pub this_renewed : (copy : Copy) (items : List Record) (stable : OpTime) → IsOfThis copy (kept items) stable → IsOfThis copy (kept (renewed items)) stable
this_renewed copy items stable this =
    subst (λ (k : Kept). IsOfThis copy k stable) (sym (same_but_form items)) (record { term = this.term; entries = this.entries; checkpoint = this.checkpoint })

-- ---- what was found is of a copy

-- a term without a vote, and entries up to the last one; no checkpoint, or that of all entries of this copy
pub record IsBase (copy : Copy) (found : Kept) (stable : Stable) : Type 0 where
  pub is : IsOf found.vote.term found.entries found
  pub this : IsOfThis copy found stable.at
  pub stable_is : (stable ≡ no_stable) ⊎ ((stable ≡ documents_of copy.entries) × (found.entries ≡ copy.entries))

is_of_itself : (term : ℕ) (log : List Entry) (found : Kept) → IsOf term log found → IsOf found.vote.term found.entries found
is_of_itself term log found is = record {
  vote = is.vote ∙ ap (λ (t : ℕ). vote_of t) (sym (ap (λ (v : Vote). v.term) is.vote));
  config = is.config;
  entries = refl;
  point = is.point ∙ ap last_of (sym is.entries);
}
  where
    vote_of : ℕ → Vote
    vote_of t = record { term = t; candidate = None }

pub given_back : (term : ℕ) (log : List Entry) (image : List ℕ) (items : List Record) (found : Kept) → GivesBack term log image → HasJournal image items → found ≡ kept (renewed items) → IsOf term log found
given_back term log image items found gives has is =
    subst (IsOf term log) (sym is)
    (of_renewed term log items (subst (λ (l : List Record). IsOf term log (kept l)) (one_journal image gives.records items gives.has has) gives.is))

pub base_of : (copy : Copy) (found : Kept) (stable : Stable) (items : List Record) (x y : List ℕ) → AllPairs StandsBefore copy.entries → IsOfSomeCopy x y
    → HasJournal x items → found ≡ kept (renewed items) → HasCheckpoint y stable → IsOfThis copy found stable.at → IsBase copy found stable
base_of copy found stable items x y order (own, above, inl part) has is shows this = record {
  is = is_of_itself part.term part.front found (given_back part.term part.front x items found part.log has is);
  this = this;
  stable_is = inl (checkpoint_once y stable no_stable shows part.none);
}
base_of copy found stable items x y order (own, above, inr whole) has is shows this =
    let same : stable ≡ documents_of own.entries = checkpoint_once y stable (documents_of own.entries) shows whole.documents in
    let here : IsOf own.term own.entries found = given_back own.term own.entries x items found whole.log has is in
    let at : stable.at ≡ last_of own.entries = ap (λ (s : Stable). s.at) same in
    let all : own.entries ≡ copy.entries =
    ⊎_elim (λ zero. absurd (above (sym at ∙ zero)))
    (λ last. same_last own.entries copy.entries order (subst (λ (l : List Entry). Begins l copy.entries) here.entries this.entries) above (sym at ∙ last)) this.checkpoint in
    record {
      is = is_of_itself own.term own.entries found here;
      this = this;
      stable_is = inr (same ∙ ap documents_of all, here.entries ∙ all);
    }

-- ---- the first of the missing records

-- so much of the copy is there
pub record HasCome (copy : Copy) (found after : Kept) : Type 0 where
  pub log : List Entry
  pub longer : Begins found.entries log
  pub begins : Begins log copy.entries
  pub is : IsOf copy.term log after

module _ (copy : Copy) (found : Kept) (is : IsOf found.vote.term found.entries found) (begins : Begins found.entries copy.entries) (order : AllPairs StandsBefore copy.entries) where
  grown : (before : Kept) (f g : List Record) → before.entries ≡ found.entries → before.point ≡ found.point → before.config ≡ None → before.vote ≡ record { term = copy.term; candidate = None }
      → batches (drop (length found.entries) copy.entries) ≡ f ++ g
      → (come : HasCome copy found (fold with_record before f)) × (g ≡ [] → come.log ≡ copy.entries)
  grown before f g same point config vote split =
      let rest = begins.0 in
      let later : drop (length found.entries) copy.entries ≡ rest = ap (drop (length found.entries)) begins.1 ∙ drop_at found.entries rest _ refl in
      let ordered : AllPairs StandsBefore (before.entries ++ rest) = subst (λ (l : List Entry). AllPairs StandsBefore (l ++ rest)) (sym same) (subst (AllPairs StandsBefore) begins.1 order) in
      let both = fronts (length rest) before rest f g (omega arith) (ap batches (sym later) ∙ split) ordered (point ∙ is.point ∙ ap last_of (sym same)) in
      let grows : Grows before (fold with_record before f) rest = both.0 in
      let entries : (fold with_record before f).entries ≡ found.entries ++ grows.some = grows.entries ∙ ap (λ (l : List Entry). l ++ grows.some) same in
      let whole : copy.entries ≡ (found.entries ++ grows.some) ++ grows.left =
      begins.1 ∙ ap (λ (l : List Entry). found.entries ++ l) grows.is ∙ sym (append_assoc found.entries grows.some grows.left) in (
        record {
          log = found.entries ++ grows.some;
          longer = (grows.some, refl);
          begins = (grows.left, whole);
          is = record { vote = grows.vote ∙ vote; config = grows.config ∙ config; entries = entries; point = grows.point ∙ ap last_of entries };
        },
        λ none. sym (whole ∙ ap (λ (l : List Entry). (found.entries ++ grows.some) ++ l) (both.1 none) ∙ append-nil (found.entries ++ grows.some)),
      )

  pub come_to : (f g : List Record) → missing copy found ≡ f ++ g
      → (f ≡ []) ⊎ HasCome copy found (fold with_record found f)
  come_to f g split = by_test (nat_eq found.vote.term copy.term) refl f split
    where
      by_test : (b : Bool) → nat_eq found.vote.term copy.term ≡ b → (f : List Record) → cond b [] (records.Vote (record { term = copy.term; candidate = None }) ∷ []) ++ batches (drop (length found.entries) copy.entries) ≡ f ++ g
          → (f ≡ []) ⊎ HasCome copy found (fold with_record found f)
      by_test true same f split =
          let terms : found.vote.term ≡ copy.term = grind (arith, nat_tests) in
          inr (grown found f g refl refl is.config (is.vote ∙ ap (λ (t : ℕ). new_vote t) terms) split).0
        where
          new_vote : ℕ → Vote
          new_vote t = record { term = t; candidate = None }
      by_test false other [] split = inl refl
      by_test false other (r ∷ f) split =
          let vote : Record = records.Vote (record { term = copy.term; candidate = None }) in
          let first : vote ≡ r = cc in
          let rest : batches (drop (length found.entries) copy.entries) ≡ f ++ g = cc in
          inr (subst (λ (x : Record). HasCome copy found (fold with_record (with_record found x) f)) first (grown (with_record found vote) f g refl refl is.config refl rest).0)

  pub come_whole : (items f : List Record) → missing copy found ≡ f → IsOf copy.term copy.entries (fold with_record found f)
  come_whole items f split = by_test (nat_eq found.vote.term copy.term) refl f (split ∙ sym (append-nil f))
    where
      done : (after : Kept) (come : HasCome copy found after) → come.log ≡ copy.entries → IsOf copy.term copy.entries after
      done after come all = subst (λ (l : List Entry). IsOf copy.term l after) all come.is

      by_test : (b : Bool) → nat_eq found.vote.term copy.term ≡ b → (f : List Record) → cond b [] (records.Vote (record { term = copy.term; candidate = None }) ∷ []) ++ batches (drop (length found.entries) copy.entries) ≡ f ++ []
          → IsOf copy.term copy.entries (fold with_record found f)
      by_test true same f split =
          let terms : found.vote.term ≡ copy.term = grind (arith, nat_tests) in
          let both = grown found f [] refl refl is.config (is.vote ∙ ap (λ (t : ℕ). new_vote t) terms) split in
          done (fold with_record found f) both.0 (both.1 refl)
        where
          new_vote : ℕ → Vote
          new_vote t = record { term = t; candidate = None }
      by_test false other [] split = absurd (cc split)
      by_test false other (r ∷ f) split =
          let vote : Record = records.Vote (record { term = copy.term; candidate = None }) in
          let first : vote ≡ r = cc in
          let rest : batches (drop (length found.entries) copy.entries) ≡ f ++ [] = cc in
          let both = grown (with_record found vote) f [] refl refl is.config refl rest in
          subst (λ (x : Record). IsOf copy.term copy.entries (fold with_record (with_record found x) f)) first (done (fold with_record (with_record found vote) f) both.0 (both.1 refl))

-- ---- a part or the whole

kept_after : (items f : List Record) → fold with_record (kept items) f ≡ kept (items ++ f)
kept_after items f = sym (fold-append with_record nothing_kept items f)

pub gives : (term : ℕ) (log : List Entry) (items f : List Record) (found : Kept) (x : List ℕ) → found ≡ kept items → IsOf term log (fold with_record found f) → HasJournal x (items ++ f) → GivesBack term log x
gives term log items f found x same is has = record {
  records = items ++ f;
  has = has;
  is = subst (IsOf term log) (ap (λ (k : Kept). fold with_record k f) same ∙ kept_after items f) is;
}

pub part_or_whole : (copy : Copy) (found : Kept) (stable : Stable) (items f : List Record) (x y : List ℕ) → IsBase copy found stable → found ≡ kept items
    → HasCome copy found (fold with_record found f) → HasJournal x (items ++ f) → HasCheckpoint y stable → IsPartOrWhole copy x y
part_or_whole copy found stable items f x y base same come has shows =
    let log = gives copy.term come.log items f found x same come.is has in
    ⊎_elim
    (λ none. inl (record { front = come.log; begins = come.begins; term = copy.term; term_is = inl refl; log = log; none = subst (HasCheckpoint y) none shows }))
    (λ all.
    let whole : come.log ≡ copy.entries = begins_both come.log copy.entries come.begins (subst (λ (l : List Entry). Begins l come.log) all.1 come.longer) in
    inr (record { log = subst (λ (l : List Entry). GivesBack copy.term l x) whole log; documents = subst (HasCheckpoint y) all.0 shows }))
    base.stable_is

-- the same records, also in the newest form
log_moved : (term : ℕ) (log : List Entry) (x x' : List ℕ) (items : List Record) → HasJournal x items → IsThemOrRenewed items x' → GivesBack term log x → GivesBack term log x'
log_moved term log x x' items has has' back =
    let is : IsOf term log (kept items) = subst (λ (l : List Record). IsOf term log (kept l)) (one_journal x back.records items back.has has) back.is in
    ⊎_elim (λ them. record { records = items; has = them; is = is }) (λ in_form. record { records = renewed items; has = in_form; is = of_renewed term log items is }) has'

-- and the same checkpoint elsewhere
pub whole_moved : (copy : Copy) (x x' y y' : List ℕ) (items : List Record) (stable : Stable) → HasJournal x items → IsThemOrRenewed items x' → HasCheckpoint y stable → HasCheckpoint y' stable
    → IsWhole copy x y → IsWhole copy x' y'
whole_moved copy x x' y y' items stable has has' shows shows' whole = record {
  log = log_moved copy.term copy.entries x x' items has has' whole.log;
  documents = subst (HasCheckpoint y') (checkpoint_once y stable (documents_of copy.entries) shows whole.documents) shows';
}

pub moved : (copy : Copy) (x x' y y' : List ℕ) (items : List Record) (stable : Stable) → HasJournal x items → IsThemOrRenewed items x' → HasCheckpoint y stable → HasCheckpoint y' stable
    → IsPartOrWhole copy x y → IsPartOrWhole copy x' y'
moved copy x x' y y' items stable has has' shows shows' of = ⊎_elim (λ part. inl (record {
  front = part.front;
  begins = part.begins;
  term = part.term;
  term_is = part.term_is;
  log = log_moved part.term part.front x x' items has has' part.log;
  none = subst (HasCheckpoint y') (checkpoint_once y stable no_stable shows part.none) shows';
})) (λ whole. inr (whole_moved copy x x' y y' items stable has has' shows shows' whole)) of
