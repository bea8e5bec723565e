-- Records with the same bytes are the same record.
use Rattle.std.proofs.Common.{◌≡◌, ◌⊎◌, ◌<◌, ◌^◌, inl, inr, ℕ, suc, Bool, List, [], ◌∷◌, ◌++◌, length, drop, Option, None, Some, refl, sym, ap, subst, ◌∙◌, arith}
use Rattle.std.specs.Prelude.{◌≢◌, All, unwrap_or, slice_index}
use Rattle.std.specs.List.{flat_map}
use Rattle.std.proofs.lemmas.List.{take_at, drop_at}
use Rattle.rs_optime.specs.declared.optime.OpTime.{OpTime}
use Rattle.bson_codec.specs.Numbers.{number_bytes}
use Rattle.bson_codec.proofs.AgainLemmas.{one_document}
use Rattle.bson_codec.proofs.NumberLemmas.{number_once}
use Rattle.oplog_entry.specs.declared.entry.Entry.{Entry}
use Rattle.entry_bytes.specs.Layout.{document_of}
use Rattle.entry_bytes.proofs.LayoutLemmas.{entries_apart}
use Rattle.entry_bytes.proofs.OptimeLemmas.{optime_once, optime_parts}
use Rattle.entry_bytes.specs.Optimes.{optime_bytes}
use Rattle.member_config.specs.declared.config.Config.{Config}
use Rattle.vote_store.specs.declared.vote.Vote.{Vote}
use Rattle.repl_msg.specs.declared.record.Record.{Record}
use Rattle.repl_msg.specs.declared.record.Record.TheVariants as records
use Rattle.record_file.proofs.ParseLemmas.{one_list}
use Rattle.record_file.proofs.ListLemmas.{piece_is, later_is}
use Rattle.node_journal.specs.Files.{HasJournal}
use Rattle.node_journal.specs.Layout.{NOBODY, vote_bytes, truth_byte, member_bytes, config_bytes, entry_bytes, sized_entry, batch_bytes, record_bytes}
use Rattle.node_journal.specs.Spelled.{IsOptime, IsVote, IsMember, IsConfig, IsEntry, AreEntries, IsRecord, IsOfFirstForm, IsSpelled, AreSpelled}
use Rattle.node_journal.proofs.NumberLemmas.{truth_read, truth_rest, truth_back}
use Rattle.node_journal.proofs.PartLemmas.{member_parts, entry_parts, entry_short, spelled_here}

-- bytes begin with one such item at most
abbrev Tells : {A : Type 0} → (A → Type 0) → (A → List ℕ) → Type 0
Tells {A = A} IsItem item_bytes =
    (one other : A) (later after : List ℕ) → IsItem one → IsItem other → item_bytes one ++ later ≡ item_bytes other ++ after → (one ≡ other) × (later ≡ after)

truth_tells : (x y : Bool) (later after : List ℕ) → truth_byte x ∷ later ≡ truth_byte y ∷ after → (x ≡ y) × (later ≡ after)
truth_tells x y later after same =
    (truth_read y x after (truth_byte x ∷ later) same (sym (truth_back x)), truth_rest y after (truth_byte x ∷ later) later same refl)

optime_tells : Tells IsOptime optime_bytes
optime_tells one other later after fits fits' same =
    let parts = sym (optime_parts one later _ refl) ∙ same ∙ optime_parts other after _ refl in
    let term = number_once 8 one.term other.term _ _ fits.0 fits'.0 parts in
    let ts = number_once 8 one.ts other.ts later after fits.1 fits'.1 term.1 in
    (λ i. record { term = term.0 i; ts = ts.0 i }, ts.1)

one_candidate : (one other : Option ℕ) → one ≢ Some NOBODY → other ≢ Some NOBODY → unwrap_or one NOBODY ≡ unwrap_or other NOBODY → one ≡ other
one_candidate None None is is' same = refl
one_candidate None (Some y) is is' same = absurd (is' (ap (λ (n : ℕ). Some n) (sym same)))
one_candidate (Some x) None is is' same = absurd (is (ap (λ (n : ℕ). Some n) same))
one_candidate (Some x) (Some y) is is' same = ap (λ (n : ℕ). Some n) same

vote_tells : (one other : Vote) → IsVote one → IsVote other → vote_bytes one ≡ vote_bytes other → one ≡ other
vote_tells one other fits fits' same =
    let term = number_once 8 one.term other.term _ _ fits.0 fits'.0 same in
    let number = number_once 4 (unwrap_or one.candidate NOBODY) (unwrap_or other.candidate NOBODY) [] [] fits.1 fits'.1 (ap (λ (l : List ℕ). l ++ []) term.1) in
    let candidate = one_candidate one.candidate other.candidate fits.2 fits'.2 number.0 in
    λ i. record { term = term.0 i; candidate = candidate i }

member_tells : Tells IsMember member_bytes
member_tells one other later after fits fits' same =
    let parts = sym (member_parts one later _ refl) ∙ same ∙ member_parts other after _ refl in
    let number = number_once 4 one.number other.number _ _ fits.0 fits'.0 parts in
    let votes = truth_tells one.votes other.votes _ _ number.1 in
    let priority = number_once 4 one.priority other.priority later after fits.1 fits'.1 votes.1 in
    (λ i. record { number = number.0 i; votes = votes.0 i; priority = priority.0 i }, priority.1)

entry_tells : Tells IsEntry sized_entry
entry_tells one other later after is is' same =
    let parts = sym (entry_parts one later _ refl) ∙ same ∙ entry_parts other after _ refl in
    let size = number_once 4 (length (entry_bytes one)) (length (entry_bytes other)) _ _ (entry_short one is) (entry_short other is') parts in
    let piece = piece_is (entry_bytes other) after _ (entry_bytes one) (length (entry_bytes one)) size.1 size.0 (sym (take_at (entry_bytes one) later _ refl)) in
    let document = one_document 1048576 103 (entry_bytes one) (document_of one) (document_of other) (omega arith) is.sound is'.sound is.spelling (spelled_here other (entry_bytes one) is' piece) in (
      entries_apart one other is.lawful is'.lawful document,
      later_is (entry_bytes other) after _ later (length (entry_bytes one)) size.1 size.0 (sym (drop_at (entry_bytes one) later _ refl)),
    )

items_tell : {A : Type 0} (IsItem : A → Type 0) (item_bytes : A → List ℕ) → Tells IsItem item_bytes → (one other : List A) → All IsItem one → All IsItem other
    → length one ≡ length other → flat_map item_bytes one ≡ flat_map item_bytes other → one ≡ other
items_tell IsItem item_bytes tells [] [] each each' size same = refl
items_tell IsItem item_bytes tells [] (b ∷ other) each each' size same = absurd (omega (arith, size))
items_tell IsItem item_bytes tells (a ∷ one) [] each each' size same = absurd (omega (arith, size))
items_tell IsItem item_bytes tells (a ∷ one) (b ∷ other) each each' size same =
    let first = tells a b (flat_map item_bytes one) (flat_map item_bytes other) (each 0 a (omega arith)) (each' 0 b (omega arith)) same in
    let rest = items_tell IsItem item_bytes tells one other (λ k d within. each (suc k) d (omega arith)) (λ k d within. each' (suc k) d (omega arith)) (omega (arith, size)) first.1 in
    λ i. first.0 i ∷ rest i

config_tells : (one other : Config) → IsConfig one → IsConfig other → config_bytes one ≡ config_bytes other → one ≡ other
config_tells one other fits fits' same =
    let term = number_once 8 one.term other.term _ _ fits.0 fits'.0 same in
    let version = number_once 4 one.version other.version _ _ fits.1 fits'.1 term.1 in
    let chaining = truth_tells one.chaining other.chaining _ _ version.1 in
    let count = number_once 4 (length one.members) (length other.members) _ _ (omega (arith, fits.2)) (omega (arith, fits'.2)) chaining.1 in
    let members = items_tell IsMember member_bytes member_tells one.members other.members fits.3 fits'.3 count.0 count.1 in
    λ i. record { term = term.0 i; version = version.0 i; members = members i; chaining = chaining.0 i }

batch_tells : (one other : List Entry) (point point' : OpTime) → IsOptime point → IsOptime point' → AreEntries one → AreEntries other
    → batch_bytes one point ≡ batch_bytes other point' → (one ≡ other) × (point ≡ point')
batch_tells one other point point' fits fits' are are' same =
    let first = optime_tells point point' _ _ fits fits' same in
    let count = number_once 4 (length one) (length other) _ _ (omega (arith, are.0)) (omega (arith, are'.0)) first.1 in
    (items_tell IsEntry sized_entry entry_tells one other are.1 are'.1 count.0 count.1, first.0)

entries_once : (one other : List Entry) (point point' : OpTime) → IsOptime point × AreEntries one → IsOptime point' × AreEntries other
    → batch_bytes one point ≡ batch_bytes other point' → records.Entries one point ≡ records.Entries other point'
entries_once one other point point' is is' same =
    let both = batch_tells one other point point' is.0 is'.0 is.1 is'.1 same in λ i. records.Entries (both.0 i) (both.1 i)

form_once : (one other : ℕ) → one < 2 ^ 32 → other < 2 ^ 32 → number_bytes 4 one ≡ number_bytes 4 other → one ≡ other
form_once one other fits fits' same = (number_once 4 one other [] [] (omega (arith, fits)) (omega (arith, fits')) (ap (λ (l : List ℕ). l ++ []) same)).0

abbrev kind : List ℕ → ℕ
kind bytes = slice_index bytes 0

after_kind : {k : ℕ} (one other : List ℕ) → k ∷ one ≡ k ∷ other → one ≡ other
after_kind one other same = ap (λ (l : List ℕ). drop 1 l) same

-- records that are written with the same bytes are one record
written_once : (one other : Record) → IsRecord one → IsRecord other → record_bytes one ≡ record_bytes other → one ≡ other
written_once (records.Vote x) (records.Vote y) is is' same = ap (λ (v : Vote). records.Vote v) (vote_tells x y is is' (after_kind (vote_bytes x) (vote_bytes y) same))
written_once (records.Config x) (records.Config y) is is' same = ap (λ (c : Config). records.Config c) (config_tells x y is is' (after_kind (config_bytes x) (config_bytes y) same))
written_once (records.Entries x p) (records.Entries y q) is is' same = entries_once x y p q is is' (after_kind (batch_bytes x p) (batch_bytes y q) same)
written_once (records.Cut x) (records.Cut y) is is' same = ap (λ (o : OpTime). records.Cut o) (optime_once x y is is' (after_kind (optime_bytes x) (optime_bytes y) same))
written_once (records.Form x) (records.Form y) is is' same = ap (λ (n : ℕ). records.Form n) (form_once x y is is' (after_kind (number_bytes 4 x) (number_bytes 4 y) same))
written_once (records.Vote x) (records.Config y) is is' same = absurd (omega (arith, ap kind same))
written_once (records.Vote x) (records.Entries y q) is is' same = absurd (omega (arith, ap kind same))
written_once (records.Vote x) (records.Cut y) is is' same = absurd (omega (arith, ap kind same))
written_once (records.Vote x) (records.Form y) is is' same = absurd (omega (arith, ap kind same))
written_once (records.Config x) (records.Vote y) is is' same = absurd (omega (arith, ap kind same))
written_once (records.Config x) (records.Entries y q) is is' same = absurd (omega (arith, ap kind same))
written_once (records.Config x) (records.Cut y) is is' same = absurd (omega (arith, ap kind same))
written_once (records.Config x) (records.Form y) is is' same = absurd (omega (arith, ap kind same))
written_once (records.Entries x p) (records.Vote y) is is' same = absurd (omega (arith, ap kind same))
written_once (records.Entries x p) (records.Config y) is is' same = absurd (omega (arith, ap kind same))
written_once (records.Entries x p) (records.Cut y) is is' same = absurd (omega (arith, ap kind same))
written_once (records.Entries x p) (records.Form y) is is' same = absurd (omega (arith, ap kind same))
written_once (records.Cut x) (records.Vote y) is is' same = absurd (omega (arith, ap kind same))
written_once (records.Cut x) (records.Config y) is is' same = absurd (omega (arith, ap kind same))
written_once (records.Cut x) (records.Entries y q) is is' same = absurd (omega (arith, ap kind same))
written_once (records.Cut x) (records.Form y) is is' same = absurd (omega (arith, ap kind same))
written_once (records.Form x) (records.Vote y) is is' same = absurd (omega (arith, ap kind same))
written_once (records.Form x) (records.Config y) is is' same = absurd (omega (arith, ap kind same))
written_once (records.Form x) (records.Entries y q) is is' same = absurd (omega (arith, ap kind same))
written_once (records.Form x) (records.Cut y) is is' same = absurd (omega (arith, ap kind same))

-- of the kind that entries have in the first form no record is written
first_kind : (item : Record) (bytes : List ℕ) → IsOfFirstForm item bytes → kind bytes ≡ 3
first_kind (records.Entries x p) bytes is = ap kind is.0
first_kind (records.Vote _) bytes is = absurd is
first_kind (records.Config _) bytes is = absurd is
first_kind (records.Cut _) bytes is = absurd is
first_kind (records.Form _) bytes is = absurd is

other_kind : (item : Record) (bytes : List ℕ) → bytes ≡ record_bytes item → kind bytes ≡ 3 → ⊥
other_kind (records.Vote x) bytes is third = absurd (omega (arith, ap kind is, third))
other_kind (records.Config x) bytes is third = absurd (omega (arith, ap kind is, third))
other_kind (records.Entries x p) bytes is third = absurd (omega (arith, ap kind is, third))
other_kind (records.Cut x) bytes is third = absurd (omega (arith, ap kind is, third))
other_kind (records.Form x) bytes is third = absurd (omega (arith, ap kind is, third))

first_once : (one other : Record) (bytes : List ℕ) → IsRecord one → IsRecord other → IsOfFirstForm one bytes → IsOfFirstForm other bytes → one ≡ other
first_once (records.Entries x p) (records.Entries y q) bytes is is' old old' = entries_once x y p q is is' (after_kind (batch_bytes x p) (batch_bytes y q) (sym old.0 ∙ old'.0))
first_once (records.Entries x p) (records.Vote _) bytes is is' old old' = absurd old'
first_once (records.Entries x p) (records.Config _) bytes is is' old old' = absurd old'
first_once (records.Entries x p) (records.Cut _) bytes is is' old old' = absurd old'
first_once (records.Entries x p) (records.Form _) bytes is is' old old' = absurd old'
first_once (records.Vote _) other bytes is is' old old' = absurd old
first_once (records.Config _) other bytes is is' old old' = absurd old
first_once (records.Cut _) other bytes is is' old old' = absurd old
first_once (records.Form _) other bytes is is' old old' = absurd old

-- bytes are of one record
pub one_record : (one other : Record) (bytes : List ℕ) → IsSpelled one bytes → IsSpelled other bytes → one ≡ other
one_record one other bytes is is' = by_form is.spelled is'.spelled
  where
    by_form : (bytes ≡ record_bytes one) ⊎ IsOfFirstForm one bytes → (bytes ≡ record_bytes other) ⊎ IsOfFirstForm other bytes → one ≡ other
    by_form (inl new) (inl new') = written_once one other is.lawful is'.lawful (sym new ∙ new')
    by_form (inl new) (inr old') = absurd (other_kind one bytes new (first_kind other bytes old'))
    by_form (inr old) (inl new') = absurd (other_kind other bytes new' (first_kind one bytes old))
    by_form (inr old) (inr old') = first_once one other bytes is.lawful is'.lawful old old'

same_records : (one other : List Record) (pieces : List (List ℕ)) → AreSpelled one pieces → AreSpelled other pieces → one ≡ other
same_records [] [] [] spelled spelled' = refl
same_records [] other (piece ∷ pieces) spelled spelled' = absurd spelled
same_records [] (y ∷ other) [] spelled spelled' = absurd spelled'
same_records (x ∷ one) other [] spelled spelled' = absurd spelled
same_records (x ∷ one) [] (piece ∷ pieces) spelled spelled' = absurd spelled'
same_records (x ∷ one) (y ∷ other) (piece ∷ pieces) spelled spelled' =
    let first = one_record x y piece spelled.0 spelled'.0 in
    let rest = same_records one other pieces spelled.1 spelled'.1 in
    λ i. first i ∷ rest i

-- a file has one list of records
pub one_journal : (bytes : List ℕ) (one other : List Record) → HasJournal bytes one → HasJournal bytes other → one ≡ other
one_journal bytes one other has has' =
    same_records one other has.pieces has.spelled
    (subst (λ (l : List (List ℕ)). AreSpelled other l) (one_list bytes has'.pieces has.pieces has'.has has.has) has'.spelled)
