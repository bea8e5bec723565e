-- Entries applied to a shard, and a batch split over shards.
use Rattle.std.proofs.Common.{◌≡◌, inl, inr, ◌∙◌, ◌<◌, ◌+◌, ap, sym, subst, arith, true, List, [], ◌∷◌, ◌++◌, ℕ, length, take, Option, Some}
use Rattle.std.specs.Prelude.{slice_index_or}
use Rattle.std.specs.List.{All}
use Rattle.std.proofs.lemmas.List.{take_more, get_or_default}
use Rattle.std.proofs.lemmas.List.Elements.{filter-append}
use Rattle.std.proofs.Common.{get_or-take, length-take}
use Rattle.bson_doc.specs.Tree.{Fields}
use Rattle.bson_doc.specs.Place.{Place}
use Rattle.oplog_entry.specs.declared.entry.Entry.{Entry}
use Rattle.oplog_entry.specs.Step.{place_of, document_after}
use Rattle.oplog_entry.proofs.PlaceLemmas.{same_place}
use Rattle.version_store.specs.declared.history.Version.{Version}
use Rattle.version_store.specs.Past.{Past, is_before, latest_of, with_version}
use Rattle.version_store.specs.Shards.{Shard, past_of, BelongsTo, ChangesOf}
use Rattle.batch_applier.specs.Applied.{past_with, past_after}
use Rattle.batch_applier.specs.Parts.{is_in, part_of, AreParts, IsAdded, IsReady, IsApplied}
use Rattle.batch_applier.proofs.PastLemmas.{past_here, past_elsewhere, past_more, after_all}

-- ---- one entry

pub applied_one : (old new : Shard) (entry : Entry) (place : Place) (after : Option Fields) → place_of entry.op ≡ Some place → after ≡ document_after entry.op (latest_of (past_of old place).versions)
    → ChangesOf old new place (with_version (past_of old place) (record { at = entry.optime; doc = after })) → IsApplied old new (entry ∷ [])
applied_one old new entry place after own left changes = record {
  each = λ p. elim (same_place place p) [
    | inl same ↦ subst (λ q. past_of new q ≡ past_with q (past_of old q) entry) same
        (changes.here ∙ ap (λ (doc : Option Fields). with_version (past_of old place) (record { at = entry.optime; doc = doc })) left ∙ sym (past_here entry place (past_of old place) own))
    | inr apart ↦ changes.others p (λ e. apart (sym e)) ∙ sym (past_elsewhere entry p (past_of old p) (λ e. apart (some_same p (sym own ∙ e))))
  ];
  number = changes.number;
  count = changes.count;
}
  where
    some_same : (p : Place) → Some place ≡ Some p → place ≡ p
    some_same p e = cc

-- ---- one entry after others

pub applied_more : (old mid new : Shard) (entries : List Entry) (i : ℕ) (entry : Entry) → i < length entries → ((d : Entry) → entry ≡ slice_index_or entries i d)
    → IsApplied old mid (take i entries) → IsApplied mid new (entry ∷ []) → IsApplied old new (take (i + 1) entries)
applied_more old mid new entries i entry within is first then_one = record {
  each = λ p.
      then_one.each p ∙ ap (λ past. past_with p past entry) (first.each p) ∙ sym (past_more p (past_of old p) (take i entries) entry)
      ∙ ap (past_after p (past_of old p)) (ap (λ e. take i entries ++ e ∷ []) (is entry) ∙ sym (take_more entries i entry within));
  number = then_one.number ∙ first.number;
  count = then_one.count ∙ first.count;
}

-- what the next entry needs
pub ready_own : (shard now : Shard) (entries : List Entry) (i : ℕ) (entry : Entry) → IsReady shard entries → i < length entries → entry ≡ slice_index_or entries i entry
    → now.number ≡ shard.number → now.count ≡ shard.count → (place : Place) → place_of entry.op ≡ Some place → BelongsTo now.number now.count place
ready_own shard now entries i entry ready within is number count place at =
    let own : BelongsTo shard.number shard.count place = ready.own i entry within place (ap (λ (e : Entry). place_of e.op) (sym is) ∙ at) in
    rw (number, count) own

pub ready_later : (shard now : Shard) (entries : List Entry) (i : ℕ) (entry : Entry) → IsReady shard entries → i < length entries → entry ≡ slice_index_or entries i entry
    → IsApplied shard now (take i entries) → (place : Place) → place_of entry.op ≡ Some place → All (λ version. is_before version.at entry.optime ≡ true) (past_of now place).versions
ready_later shard now entries i entry ready within is applied place at =
    subst (λ (past : Past). All (λ (version : Version). is_before version.at entry.optime ≡ true) past.versions) (sym (applied.each place))
    (after_all (λ version. is_before version.at entry.optime ≡ true) place (take i entries) (past_of shard place) old made)
  where
    own : BelongsTo shard.number shard.count place
    own = ready.own i entry within place (ap (λ (e : Entry). place_of e.op) (sym is) ∙ at)

    old : All (λ version. is_before version.at entry.optime ≡ true) (past_of shard place).versions
    old k d inside = subst (λ (e : Entry). is_before (slice_index_or (past_of shard place).versions k d).at e.optime ≡ true) (sym is) (ready.later place own k d inside i entry within)

    made : All (λ (e : Entry). (doc : Option Fields) → is_before e.optime entry.optime ≡ true) (take i entries)
    made k d inside doc =
        let less : k < i = omega (arith, inside, length-take i entries) in
        let early : is_before (slice_index_or entries k d).optime (slice_index_or entries i d).optime ≡ true = ready.rising k i d less within in
        let there : slice_index_or entries i d ≡ entry = get_or_default entries i d entry within ∙ sym is in
        let same : slice_index_or (take i entries) k d ≡ slice_index_or entries k d = get_or-take i entries k d less in
        subst (λ (e : Entry). is_before e.optime entry.optime ≡ true) (sym same) (subst (λ (e : Entry). is_before (slice_index_or entries k d).optime e.optime ≡ true) there early)

-- ---- a batch parted

pub parts_more : (entries : List Entry) (count : ℕ) (old new : List (List Entry)) (i : ℕ) (entry : Entry) → i < length entries → ((d : Entry) → entry ≡ slice_index_or entries i d)
    → AreParts (take i entries) count old → length new ≡ length old → IsAdded old new count entry → AreParts (take (i + 1) entries) count new
parts_more entries count old new i entry within is parts long added = record {
  long = long ∙ parts.long;
  each = λ k d less.
      let was : length old ≡ count = parts.long in
      added k d (omega arith) ∙ ap (λ p. p ++ part_of (entry ∷ []) count k) (parts.each k d less)
      ∙ sym (filter-append (λ (e : Entry). is_in count k (place_of e.op)) (take i entries) (entry ∷ []))
      ∙ ap (λ es. part_of es count k) (ap (λ e. take i entries ++ e ∷ []) (is entry) ∙ sym (take_more entries i entry within));
}
