-- A batch over all shards of a store.
use Rattle.std.proofs.Common.{◌≡◌, inl, inr, ◌∙◌, ◌<◌, ◌%◌, ap, sym, subst, refl, arith, true, false, List, [], ◌∷◌, ℕ, suc, zero, length, take, drop, Option, None, Some}
use Rattle.std.specs.Prelude.{slice_get, slice_index_or, unwrap_or}
use Rattle.std.specs.List.{All, AllPairs}
use Rattle.std.proofs.lemmas.List.Elements.{All-filter, filter_passes}
use Rattle.std.proofs.lemmas.List.Kept.{AllPairs-filter}
use Rattle.std.proofs.lemmas.Bool.Decides.{nat_tests}
use Rattle.std.proofs.lemmas.Option.{slice_get-get_or}
use Rattle.rs_optime.proofs.Optimes.{at_most_refl, before_at_most}
use Rattle.bson_doc.specs.Place.{Place}
use Rattle.oplog_entry.specs.declared.entry.Entry.{Entry}
use Rattle.oplog_entry.specs.Step.{place_of}
use Rattle.oplog_entry.proofs.PlaceLemmas.{is_at-only}
use Rattle.version_store.specs.Hash.{place_hash}
use Rattle.version_store.specs.Past.{Past, is_before, back_before}
use Rattle.version_store.specs.Shards.{Shard, past_of}
use Rattle.version_store.specs.Store.{Store, past_at, AreShards, AreAllOrNone, ChangesEach}
use Rattle.version_store.proofs.StoreLemmas.{past_there, shard_there, found_is, found_within}
use Rattle.batch_applier.specs.Applied.{past_after, IsBatch, HasApplied}
use Rattle.batch_applier.specs.Parts.{is_in, part_of, AreParts, IsReady, IsApplied, IsBegun, AreReady, Each, IsEachReady, EachOf}
use Rattle.batch_applier.proofs.PastLemmas.{past_filtered, past_back}

-- ---- parts

pub ready_parts : (shards : List Shard) (entries : List Entry) (parts : List (List Entry)) → IsEachReady shards entries → AreParts entries (length shards) parts → AreReady shards parts
ready_parts shards entries parts ready are = record {
  long = are.long;
  each = λ k s p inside. subst (λ es. IsReady (slice_index_or shards k s) es) (sym (are.each k p inside)) (ready k s inside);
}

pub of_parts : (So : Shard → Shard → List Entry → Type 0) (old new : List Shard) (entries : List Entry) (parts : List (List Entry)) → AreParts entries (length old) parts → Each So old new parts → EachOf So old new entries
of_parts So old new entries parts are done = record {
  long = done.long;
  each = λ k s inside. subst (λ es. So (slice_index_or old k s) (slice_index_or new k s) es) (are.each k [] inside) (done.each k s [] inside);
}

-- where there are shards, there are all of them
pub all_there : (count : ℕ) (shards : List Shard) → AreAllOrNone count shards → 0 < length shards → AreShards count shards
all_there count shards all some = elim all.1 [
  | inl none ↦ absurd (let empty : length shards ≡ 0 = ap (λ (xs : List Shard). length xs) none in omega (arith, empty))
  | inr are ↦ are
]

-- ---- a batch is ready for each shard

pub passes_at : (count k : ℕ) (own : Option Place) (place : Place) → is_in count k own ≡ true → own ≡ Some place → place_hash place % count ≡ k
passes_at count k None place test own = cc own
passes_at count k (Some other) place test own = ap (λ (p : Place). place_hash p % count) (some_same (sym own)) ∙ grind (arith, nat_tests, test)
  where
    some_same : Some place ≡ Some other → place ≡ other
    some_same e = cc

pub batch_ready : (count : ℕ) (shards : List Shard) (entries : List Entry) → AreShards count shards → IsBatch (record { count = count; shards = shards }) entries → IsEachReady shards entries
batch_ready count shards entries are batch k s inside =
    let there : slice_get shards k ≡ Some (slice_index_or shards k s) = slice_get-get_or shards k s inside in
    let here : (slice_index_or shards k s).number ≡ k = are.numbered k _ there in
    let all : (slice_index_or shards k s).count ≡ count = are.counted k _ there in
    record {
      own = λ i e within place at.
          ap (λ n. place_hash place % n) (all ∙ sym are.long)
          ∙ passes_at (length shards) k _ place (filter_passes (λ (e : Entry). is_in (length shards) k (place_of e.op)) entries i e within) at ∙ sym here;
      rising = AllPairs-filter (λ (one two : Entry). is_before one.optime two.optime ≡ true) (λ (e : Entry). is_in (length shards) k (place_of e.op)) entries batch.rising;
      later = λ place own i v within.
          let at : place_hash place % count ≡ k = ap (λ n. place_hash place % n) (sym all) ∙ own ∙ here in
          let same : past_of (slice_index_or shards k s) place ≡ past_at (record { count = count; shards = shards }) place =
          past_there count shards place _ (ap (slice_get shards) at ∙ there) in
          All-filter (λ (e : Entry). is_in (length shards) k (place_of e.op)) (λ e. is_before (slice_index_or (past_of (slice_index_or shards k s) place).versions i v).at e.optime ≡ true) entries
          (subst (λ (past : Past). i < length past.versions → All (λ (e : Entry). is_before (slice_index_or past.versions i v).at e.optime ≡ true) entries) (sym same) (λ short. batch.later place i v short) within);
    }

-- ---- what it leaves

pub shards_kept : (count : ℕ) (old new : List Shard) (entries : List Entry) → AreShards count old → EachOf IsBegun old new entries → AreShards count new
shards_kept count old new entries are done = record {
  some = are.some;
  long = done.long ∙ are.long;
  numbered = λ i s is.
      let within : i < length old = found_within new i s is (length old) done.long in
      ap (λ (x : Shard). x.number) (sym (found_is new i s s is)) ∙ (done.each i s within).1.number ∙ are.numbered i _ (slice_get-get_or old i s within);
  counted = λ i s is.
      let within : i < length old = found_within new i s is (length old) done.long in
      ap (λ (x : Shard). x.count) (sym (found_is new i s s is)) ∙ (done.each i s within).1.count ∙ are.counted i _ (slice_get-get_or old i s within);
}

no_shard : Shard
no_shard = record { number = 0; count = 0; collections = [] }

-- the past of a place, in its shard
past_in_shard : (count : ℕ) (shards : List Shard) (place : Place) → AreShards count shards
    → past_at (record { count = count; shards = shards }) place ≡ past_of (slice_index_or shards (place_hash place % count) no_shard) place
past_in_shard count shards place are = sym (past_there count shards place _ (slice_get-get_or shards (place_hash place % count) no_shard (shard_there count shards place are)))

-- the entries on documents of its shard are all that touch the place
whole_part : (count : ℕ) (place : Place) (past : Past) (entries : List Entry) → past_after place past (part_of entries count (place_hash place % count)) ≡ past_after place past entries
whole_part count place past entries = past_filtered (λ (e : Entry). is_in count (place_hash place % count) (place_of e.op)) place past entries (λ entry touched. kept (place_of entry.op) (is_at-only (place_of entry.op) place touched))
  where
    kept : (own : Option Place) → own ≡ Some place → is_in count (place_hash place % count) own ≡ true
    kept own is = ap (is_in count (place_hash place % count)) is ∙ grind (arith, nat_tests)

pub batch_applied : (count : ℕ) (old new : List Shard) (entries : List Entry) → AreShards count old → AreShards count new → EachOf IsApplied old new entries
    → HasApplied (record { count = count; shards = old }) (record { count = count; shards = new }) entries
batch_applied count old new entries before after done = record {
  each = λ place.
      let within : place_hash place % count < length old = shard_there count old place before in
      past_in_shard count new place after ∙ (done.each (place_hash place % count) no_shard within).each place
      ∙ ap (λ n. past_after place (past_of (slice_index_or old (place_hash place % count) no_shard) place) (part_of entries n (place_hash place % count))) before.long
      ∙ whole_part count place _ entries ∙ ap (λ past. past_after place past entries) (sym (past_in_shard count old place before));
  count = refl;
}

-- ---- going back

pub head_is : (entries : List Entry) (first : Entry) → Some first ≡ slice_get entries 0 → entries ≡ first ∷ drop 1 entries
head_is [] first is = cc is
head_is (e ∷ entries) first is = ap (λ (o : Option Entry). unwrap_or o e ∷ entries) (sym is)

all_take : {X : Type 0} (P : X → Type 0) (n : ℕ) (xs : List X) → All P xs → All P (take n xs)
all_take P zero xs all k d within = absurd (omega arith)
all_take P (suc n) [] all k d within = absurd (omega arith)
all_take P (suc n) (x ∷ xs) all zero d within = all zero d (omega arith)
all_take P (suc n) (x ∷ xs) all (suc k) d within = all_take P n xs (λ i e short. all (suc i) e (omega arith)) k d (omega arith)

-- no entry is before the first
none_earlier : (first : Entry) (rest : List Entry) → AllPairs (λ one two. is_before one.optime two.optime ≡ true) (first ∷ rest)
    → All (λ entry. is_before entry.optime first.optime ≡ false) (first ∷ rest)
none_earlier first rest rising zero d within = at_most_refl first.optime
none_earlier first rest rising (suc k) d within = before_at_most first.optime (slice_index_or rest k d).optime (rising zero (suc k) d (omega arith) within)

pub batch_undone : (count : ℕ) (old new : List Shard) (last : Store) (first : Entry) (rest entries : List Entry) → entries ≡ first ∷ rest → AreShards count old → AreShards count new
    → IsBatch (record { count = count; shards = old }) entries → EachOf IsBegun old new entries
    → ChangesEach (record { count = count; shards = new }) last (back_before first.optime) → HasApplied (record { count = count; shards = old }) last []
batch_undone count old new last first rest entries is before after batch done back = record {
  each = λ place.
      let within : place_hash place % count < length old = shard_there count old place before in
      let begun : IsBegun (slice_index_or old (place_hash place % count) no_shard) (slice_index_or new (place_hash place % count) no_shard) (part_of entries (length old) (place_hash place % count)) =
      done.each (place_hash place % count) no_shard within in
      let same : past_of (slice_index_or old (place_hash place % count) no_shard) place ≡ past_at (record { count = count; shards = old }) place = sym (past_in_shard count old place before) in
      back.each place
      ∙ ap (back_before first.optime) (past_in_shard count new place after ∙ begun.1.each place
      ∙ ap (λ past. past_after place past (take begun.0 (part_of entries (length old) (place_hash place % count)))) same)
      ∙ past_back first.optime place (past_at (record { count = count; shards = old }) place) (take begun.0 (part_of entries (length old) (place_hash place % count)))
      (early place) (all_take (λ (e : Entry). is_before e.optime first.optime ≡ false) begun.0 _ (All-filter (λ (e : Entry). is_in (length old) (place_hash place % count) (place_of e.op)) (λ (e : Entry). is_before e.optime first.optime ≡ false) entries late));
  count = back.count;
}
  where
    late : All (λ entry. is_before entry.optime first.optime ≡ false) entries
    late = subst (λ es. All (λ (e : Entry). is_before e.optime first.optime ≡ false) es) (sym is)
        (none_earlier first rest (subst (λ es. AllPairs (λ (one two : Entry). is_before one.optime two.optime ≡ true) es) is batch.rising))

    early : (place : Place) → All (λ version. is_before version.at first.optime ≡ true) (past_at (record { count = count; shards = old }) place).versions
    early place k v inside =
        (subst (λ es. All (λ (e : Entry). is_before (slice_index_or (past_at (record { count = count; shards = old }) place).versions k v).at e.optime ≡ true) es) is (batch.later place k v inside)) zero first (omega arith)
