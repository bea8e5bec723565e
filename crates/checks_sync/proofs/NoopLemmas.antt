-- Such a log can be pinned.
use Rattle.std.proofs.Common.{◌≡◌, ◌∙◌, ◌<◌, ◌≤◌, ◌+◌, ◌^◌, ℕ, zero, suc, inl, [], ◌∷◌, length, map, Option, None, Some, ap, sym, subst, refl, arith}
use Rattle.std.specs.List.{All}
use Rattle.std.specs.FinMap.{empty, empty_of_len, entries, entries-from_sorted, from_sorted, get, get-empty, len-entries}
use Rattle.std.proofs.lemmas.List.Elements.{All-push}
use Rattle.std.proofs.lemmas.List.Sums.{fold-append}
use Rattle.bson_doc.specs.Place.{Place, place_cmp}
use Rattle.bson_doc.specs.Tree.{Fields}
use Rattle.rs_optime.specs.declared.optime.OpTime.{OpTime}
use Rattle.oplog_entry.specs.Docs.{Documents, applied, docs}
use Rattle.oplog_entry.specs.Lawful.{IsLawful}
use Rattle.oplog_entry.specs.Log.{IsOplog}
use Rattle.oplog_entry.specs.Visible.{last_of}
use Rattle.oplog_entry.specs.declared.entry.Entry.{Entry}
use Rattle.oplog_store.proofs.Keeps.{FitsBeside, with_entry_keeps, with_last}
use Rattle.oplog_store.proofs.PlaceLemmas.{last_is_one}
use Rattle.entry_bytes.specs.Sizes.{IsWithinEntry}
use Rattle.initial_sync.specs.Pinned.{IsPinned, placed}
use Rattle.initial_sync.specs.declared.pinned.Pinned.{Pinned}
use Rattle.checks_sync.specs.Noops.{noop, noops}

lawful : (ts : ℕ) → IsLawful (noop ts)
lawful ts = record { term = omega arith; op = tt; session = tt; write = tt }

abbrev IsUpTo : ℕ → Entry → Type 0
IsUpTo count entry = (entry.optime.ts ≤ count) × (entry.optime.term ≡ 1)

up_to : (count : ℕ) → All (IsUpTo count) (noops count)
up_to zero = λ k d within. absurd (omega arith)
up_to (suc count) =
    All-push (IsUpTo (suc count)) (noops count) (noop (count + 1)) (λ k d within. let e = up_to count k d within in (omega (arith, e.0), e.1)) (omega arith, refl)

pub oplog : (count : ℕ) → IsOplog (noops count)
oplog zero = record { order = λ i j d less within. absurd (omega arith); lawful = λ k d within. absurd (omega arith) }
oplog (suc count) =
    let before : All (λ other. other.optime.ts < count + 1) (noops count) = λ k d within. omega (arith, (up_to count k d within).0) in
    let beside : All (FitsBeside (noop (count + 1))) (noops count) = λ k d within.
    let e = up_to count k d within in inl (record { earlier = omega (arith, e.0); term = omega (arith, e.1) }) in
    subst IsOplog (with_last (noops count) (noop (count + 1)) before) (with_entry_keeps (noops count) (noop (count + 1)) (oplog count) (lawful (count + 1)) beside)

pub no_documents : (count : ℕ) → docs (noops count) ≡ empty
no_documents zero = refl
no_documents (suc count) = fold-append applied empty (noops count) (noop (count + 1) ∷ []) ∙ no_documents count

pub within : (count : ℕ) → count < 2 ^ 64 → All IsWithinEntry (noops count)
within zero small = λ k d inside. absurd (omega arith)
within (suc count) small = All-push IsWithinEntry (noops count) (noop (count + 1)) (within count (omega arith)) (record { bytes = omega arith; levels = omega arith })

pub last : (count : ℕ) → 0 < count → last_of (noops count) ≡ record { term = 1; ts = count }
last zero some = absurd (omega arith)
last (suc count) some = last_is_one (noops count) (noop (count + 1)) ∙ ap (λ (n : ℕ). (noop n).optime) (omega arith)

nothing_sorted : Documents
nothing_sorted = from_sorted []

no_entries : entries {K = Place} {X = Fields} {R = place_cmp} empty ≡ []
unfolding nothing_sorted
no_entries =
    let listed : entries nothing_sorted ≡ [] = entries-from_sorted place_cmp [] tt in
    ap entries (sym (empty_of_len nothing_sorted (len-entries nothing_sorted ∙ ap length listed))) ∙ listed

pub pinned_so : (pinned : Pinned) (count : ℕ) → 0 < count → count < 2 ^ 64 → pinned.entries.items ≡ noops count → pinned.at ≡ record { term = 1; ts = count } → pinned.documents.items ≡ [] → IsPinned pinned
pinned_so pinned count some small is at none =
    let empty_now : docs pinned.entries.items ≡ empty = ap docs is ∙ no_documents count in
    record {
      oplog = subst IsOplog (sym is) (oplog count);
      last = ap last_of is ∙ last count some ∙ sym at;
      above = λ zero. absurd (omega (arith, some, ap (λ (o : OpTime). o.ts) at, ap (λ (o : OpTime). o.ts) zero));
      within = subst (All IsWithinEntry) (sym is) (within count small);
      documents = ap (map placed) none ∙ sym no_entries ∙ ap entries (sym empty_now);
      can = λ place document there. absurd (nothing (get (docs pinned.entries.items) place) document there (ap (λ (d : Documents). get d place) empty_now ∙ get-empty place_cmp place));
    }
  where
    nothing : (found : Option Fields) (document : Fields) → found ≡ Some document → found ≡ None → ⊥
    nothing found document there none = cc
