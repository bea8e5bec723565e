-- Entries that are applied one after another, each to the shard of its document.
use Rattle.std.proofs.Common.{◌≡◌, ◌≢◌, ◌⊎◌, inl, inr, ◌∙◌, ◌<◌, ◌+◌, ◌%◌, ap, sym, subst, refl, arith, true, false, cond, List, [], ◌∷◌, ◌++◌, ℕ, length, take, drop, Option, None, Some}
use Rattle.std.specs.Prelude.{slice_index_or, slice_set}
use Rattle.std.proofs.Common.{get_or-set_same, get_or-set_other, length-set, length-append, take-append-drop, append_assoc}
use Rattle.std.proofs.Math.Seq.{get_or-append_seam}
use Rattle.std.proofs.lemmas.Bool.{cases_eq}
use Rattle.std.proofs.lemmas.Bool.Decides.{nat_tests}
use Rattle.std.proofs.lemmas.List.{take_at, take_more, get_or_default}
use Rattle.std.proofs.lemmas.List.Sums.{fold-append}
use Rattle.std.proofs.lemmas.List.Elements.{filter-append}
use Rattle.bson_doc.specs.Place.{Place}
use Rattle.oplog_entry.specs.declared.entry.Entry.{Entry}
use Rattle.oplog_entry.specs.Step.{place_of}
use Rattle.version_store.specs.Hash.{place_hash}
use Rattle.version_store.specs.Shards.{Shard, past_of}
use Rattle.batch_applier.specs.Applied.{past_with, past_after}
use Rattle.batch_applier.specs.Parts.{is_in, part_of, IsApplied, IsBegun, IsEachReady, IsReadyFor, EachOf}
use Rattle.batch_applier.proofs.PartLemmas.{ready_own, ready_later}

-- ---- one entry

-- nothing is applied
applied_nothing : (shard : Shard) → IsApplied shard shard []
applied_nothing shard = record { each = λ place. refl; number = refl; count = refl }

-- an entry's part in the shard of its document, and in any other
own_part : (entry : Entry) (count k : ℕ) → is_in count k (place_of entry.op) ≡ true → part_of (entry ∷ []) count k ≡ entry ∷ []
own_part entry count k test = ap (λ b. cond b (entry ∷ []) []) test

no_part : (entry : Entry) (count k : ℕ) → is_in count k (place_of entry.op) ≡ false → part_of (entry ∷ []) count k ≡ []
no_part entry count k test = ap (λ b. cond b (entry ∷ []) []) test

other_shard : (count k place : ℕ) (own : Option Place) → is_in count place own ≡ true → k ≢ place → is_in count k own ≡ false
other_shard count k place None test apart = refl
other_shard count k place (Some p) test apart = grind (arith, nat_tests, test, apart)

pub none_applied : (shards : List Shard) (entry : Entry) → place_of entry.op ≡ None → EachOf IsApplied shards shards (entry ∷ [])
none_applied shards entry none = record {
  long = refl;
  each = λ k s inside.
      subst (λ es. IsApplied (slice_index_or shards k s) (slice_index_or shards k s) es) (sym (no_part entry (length shards) k (ap (is_in (length shards) k) none)))
      (applied_nothing (slice_index_or shards k s));
}

pub one_applied : (shards : List Shard) (count place : ℕ) (entry : Entry) (any left : Shard) → length shards ≡ count → place < length shards → is_in count place (place_of entry.op) ≡ true
    → IsApplied (slice_index_or shards place any) left (entry ∷ []) → EachOf IsApplied shards (slice_set shards place left) (entry ∷ [])
one_applied shards count place entry any left long within here done = record {
  long = length-set shards place left;
  each = λ k s inside. at k s (cases_eq k place);
}
  where
    in_it : is_in (length shards) place (place_of entry.op) ≡ true
    in_it = ap (λ n. is_in n place (place_of entry.op)) long ∙ here

    at : (k : ℕ) (s : Shard) → (k ≡ place) ⊎ (k ≢ place) → IsApplied (slice_index_or shards k s) (slice_index_or (slice_set shards place left) k s) (part_of (entry ∷ []) (length shards) k)
    at k s (inl same) =
        let now : slice_index_or (slice_set shards place left) place s ≡ left = get_or-set_same shards place left s within in
        let was : slice_index_or shards place s ≡ slice_index_or shards place any = get_or_default shards place s any within in
        let whole : part_of (entry ∷ []) (length shards) place ≡ entry ∷ [] = own_part entry (length shards) place in_it in
        rw (same, now, was, whole) done
    at k s (inr ne) =
        let none : part_of (entry ∷ []) (length shards) k ≡ [] = no_part entry (length shards) k (other_shard (length shards) k place (place_of entry.op) in_it ne) in
        rw (get_or-set_other shards place k left s ne, none) (applied_nothing (slice_index_or shards k s))

-- ---- entries after entries

pub applied_then : (a b c : Shard) (xs ys : List Entry) → IsApplied a b xs → IsApplied b c ys → IsApplied a c (xs ++ ys)
applied_then a b c xs ys first more = record {
  each = λ place. more.each place ∙ ap (λ past. past_after place past ys) (first.each place) ∙ sym (fold-append (past_with place) (past_of a place) xs ys);
  number = more.number ∙ first.number;
  count = more.count ∙ first.count;
}

-- the part of entries is that of the first of them, and that of the others
part_more : (entries : List Entry) (count k i : ℕ) → part_of entries count k ≡ part_of (take i entries) count k ++ part_of (drop i entries) count k
part_more entries count k i =
    ap (λ es. part_of es count k) (sym (take-append-drop i entries)) ∙ filter-append (λ (e : Entry). is_in count k (place_of e.op)) (take i entries) (drop i entries)

part_next : (entries : List Entry) (count k i : ℕ) (entry : Entry) → i < length entries → ((d : Entry) → entry ≡ slice_index_or entries i d)
    → part_of (take (i + 1) entries) count k ≡ part_of (take i entries) count k ++ part_of (entry ∷ []) count k
part_next entries count k i entry within is =
    ap (λ es. part_of es count k) (take_more entries i entry within ∙ ap (λ e. take i entries ++ e ∷ []) (sym (is entry)))
    ∙ filter-append (λ (e : Entry). is_in count k (place_of e.op)) (take i entries) (entry ∷ [])

pub each_more : (old mid new : List Shard) (entries : List Entry) (i : ℕ) (entry : Entry) → i < length entries → ((d : Entry) → entry ≡ slice_index_or entries i d)
    → EachOf IsApplied old mid (take i entries) → EachOf IsApplied mid new (entry ∷ []) → EachOf IsApplied old new (take (i + 1) entries)
each_more old mid new entries i entry within is first one = record {
  long = one.long ∙ first.long;
  each = λ k s inside.
      let long : length mid ≡ length old = first.long in
      let step : IsApplied (slice_index_or mid k s) (slice_index_or new k s) (part_of (entry ∷ []) (length old) k) =
      subst (λ n. IsApplied (slice_index_or mid k s) (slice_index_or new k s) (part_of (entry ∷ []) n k)) long (one.each k s (omega (arith, long, inside))) in
      subst (λ es. IsApplied (slice_index_or old k s) (slice_index_or new k s) es) (sym (part_next entries (length old) k i entry within is)) (applied_then _ _ _ _ _ (first.each k s inside) step);
}

pub each_so_far : (old mid : List Shard) (entries : List Entry) (i : ℕ) → EachOf IsApplied old mid (take i entries) → EachOf IsBegun old mid entries
each_so_far old mid entries i done = record {
  long = done.long;
  each = λ k s inside.
      let front : take (length (part_of (take i entries) (length old) k)) (part_of entries (length old) k) ≡ part_of (take i entries) (length old) k =
      ap (take (length (part_of (take i entries) (length old) k))) (part_more entries (length old) k i) ∙ take_at (part_of (take i entries) (length old) k) _ _ refl in
      (length (part_of (take i entries) (length old) k), subst (λ es. IsApplied (slice_index_or old k s) (slice_index_or mid k s) es) (sym front) (done.each k s inside));
}

-- ---- the next entry

-- where an entry stands in its part
record StandsIn (entries : List Entry) (count k i : ℕ) (entry : Entry) : Type 0 where
  pub within : length (part_of (take i entries) count k) < length (part_of entries count k)
  pub here : entry ≡ slice_index_or (part_of entries count k) (length (part_of (take i entries) count k)) entry
  pub front : take (length (part_of (take i entries) count k)) (part_of entries count k) ≡ part_of (take i entries) count k

stands_in : (entries : List Entry) (count k i : ℕ) (entry : Entry) → i < length entries → ((d : Entry) → entry ≡ slice_index_or entries i d) → is_in count k (place_of entry.op) ≡ true
    → StandsIn entries count k i entry
stands_in entries count k i entry inside is test = record {
  within = omega (arith, longer);
  here = sym (ap (λ es. slice_index_or es (length first) entry) (whole ∙ append_assoc first (entry ∷ []) rest) ∙ get_or-append_seam first entry rest entry);
  front = ap (take (length first)) (part_more entries count k i) ∙ take_at first _ _ refl;
}
  where
    first : List Entry
    first = part_of (take i entries) count k

    rest : List Entry
    rest = part_of (drop (i + 1) entries) count k

    whole : part_of entries count k ≡ (first ++ entry ∷ []) ++ rest
    whole =
        part_more entries count k (i + 1)
        ∙ ap (λ es. es ++ part_of (drop (i + 1) entries) count k) (part_next entries count k i entry inside is ∙ ap (λ es. part_of (take i entries) count k ++ es) (own_part entry count k test))

    one_more : length (first ++ entry ∷ []) ≡ length first + 1
    one_more = length-append first (entry ∷ [])

    longer : length (part_of entries count k) ≡ (length first + 1) + length rest
    longer = ap (λ (es : List Entry). length es) whole ∙ length-append (first ++ entry ∷ []) rest ∙ ap (λ n. n + length rest) one_more

pub ready_for : (old mid : List Shard) (entries : List Entry) (i : ℕ) (entry : Entry) → i < length entries → ((d : Entry) → entry ≡ slice_index_or entries i d)
    → IsEachReady old entries → EachOf IsApplied old mid (take i entries) → IsReadyFor mid entry
ready_for old mid entries i entry within is ready done = record {
  own = λ k s place inside at here.
      let short : k < length old = omega (arith, inside, long) in
      let stands = stands_in entries (length old) k i entry within is (in_it k place at here) in
      let applied = done.each k s short in
      ready_own (slice_index_or old k s) (slice_index_or mid k s) (part_of entries (length old) k) (length (part_of (take i entries) (length old) k)) entry (ready k s short)
      stands.within stands.here applied.number applied.count place at;
  later = λ k s place inside at here.
      let short : k < length old = omega (arith, inside, long) in
      let stands = stands_in entries (length old) k i entry within is (in_it k place at here) in
      let applied : IsApplied (slice_index_or old k s) (slice_index_or mid k s) (take (length (part_of (take i entries) (length old) k)) (part_of entries (length old) k)) =
      subst (λ es. IsApplied (slice_index_or old k s) (slice_index_or mid k s) es) (sym stands.front) (done.each k s short) in
      ready_later (slice_index_or old k s) (slice_index_or mid k s) (part_of entries (length old) k) (length (part_of (take i entries) (length old) k)) entry (ready k s short)
      stands.within stands.here applied place at;
}
  where
    long : length mid ≡ length old
    long = done.long

    in_it : (k : ℕ) (place : Place) → place_of entry.op ≡ Some place → place_hash place % length mid ≡ k → is_in (length old) k (place_of entry.op) ≡ true
    in_it k place at here =
        let same : place_hash place % length old ≡ k = ap (λ n. place_hash place % n) (sym long) ∙ here in
        ap (is_in (length old) k) at ∙ grind (arith, nat_tests, same)
