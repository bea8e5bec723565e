-- The document that a write's entry touches is the one that was checked, and no open writer holds it.
use Rattle.std.proofs.Common.{◌≡◌, ◌∙◌, ap, sym, refl, ℕ, Bool, true, false, cond, codes, Option, None, Some, Result, Ok, Err, List}
use Rattle.std.specs.FinMap as maps
use Rattle.bson_doc.specs.Key.{key_of, same_key}
use Rattle.bson_doc.specs.Place.{Place}
use Rattle.bson_doc.specs.Tree.{Fields, Tree, found}
use Rattle.bson_doc.specs.View.{tree_of}
use Rattle.bson_doc.specs.declared.doc.Value.{Value}
use Rattle.bson_doc.specs.declared.key.IdKey.{IdKey}
use Rattle.doc_update.specs.Check.{broken_rule, by_rule, checked, insert_checked, names_id, replace_checked, same_id, update_checked, with_key}
use Rattle.bson_doc.specs.Same.{same_fields}
use Rattle.doc_update.specs.Effect.{id_first, is_too_large, prepared, sets_of, stored, under, unsets_of, update_prepared, updated, written}
use Rattle.doc_update.specs.Increment.{has_overflow, has_wrong_side}
use Rattle.doc_update.specs.Refusal.{DocTooLarge, ImmutableId, IncOverflow, IncType, Reason}
use Rattle.doc_update.specs.declared.write.Prepared.{Prepared}
use Rattle.doc_update.specs.declared.write.Prepared.TheVariants as effects
use Rattle.doc_update.specs.declared.write.WriteOp.{WriteOp}
use Rattle.doc_update.specs.declared.write.WriteOp.TheVariants as writes
use Rattle.oplog_entry.specs.Docs.{docs}
use Rattle.oplog_entry.specs.Step.{place_in, place_of}
use Rattle.oplog_entry.specs.declared.entry.Op.{Op}
use Rattle.oplog_entry.specs.declared.entry.Op.TheVariants as ops
use Rattle.set_model.specs.Admitted.{admitted, or_refused, refusal_of, unless_held}
use Rattle.set_model.specs.Holds.{holder}
use Rattle.set_model.specs.Node.{Node}
use Rattle.set_model.specs.declared.reply.Refusal.{Refusal}
use Rattle.set_model.specs.declared.reply.Refusal.TheVariants.{WriteConflict}

-- ---- the place that is checked

some_place : {A : Type 0} (one two : Place) → ◌≡◌ {A = Result Place A} (Ok one) (Ok two) → one ≡ two
some_place one two same = cc same

keyed : (ns : List ℕ) (key : Option IdKey) (place : Place) → with_key ns key ≡ Ok place → place_in ns key ≡ Some place
keyed ns None place is = absurd (cc is)
keyed ns (Some key) place is = ap (λ (p : Place). Some p) (some_place (ns, key) place is)

by_test : (test : Bool) (one place : Place) (why : Reason) → ◌≡◌ {A = Result Place Reason} (cond test (Ok one) (Err why)) (Ok place) → Some one ≡ Some place
by_test true one place why is = ap (λ (p : Place). Some p) (some_place one place is)
by_test false one place why is = absurd (cc is)

by_other_test : (test : Bool) (one place : Place) (why : Reason) → ◌≡◌ {A = Result Place Reason} (cond test (Err why) (Ok one)) (Ok place) → Some one ≡ Some place
by_other_test false one place why is = ap (λ (p : Place). Some p) (some_place one place is)
by_other_test true one place why is = absurd (cc is)

inserted : (ns : List ℕ) (doc : Fields) (own : Option Tree) (place : Place) → insert_checked ns own ≡ Ok place → place_of (ops.Insert ns (id_first own doc)) ≡ Some place
inserted ns doc None place is = absurd (cc is)
inserted ns doc (Some id) place is = keyed ns (key_of id) place is

replaced : (ns : List ℕ) (key : Option IdKey) (own : Option Tree) (place : Place) → replace_checked ns key own ≡ Ok place → place_in ns key ≡ Some place
replaced ns None own place is = absurd (cc is)
replaced ns (Some key) None place is = ap (λ (p : Place). Some p) (some_place (ns, key) place is)
replaced ns (Some key) (Some id) place is = by_own (key_of id) is
  where
    by_own : (own : Option IdKey) → same_id ns key own ≡ Ok place → Some (ns, key) ≡ Some place
    by_own None is = absurd (cc is)
    by_own (Some own) is = by_test (same_key own key) (ns, key) place ImmutableId is

changed : (ns : List ℕ) (key : Option IdKey) (operators : Fields) (place : Place) → update_checked ns key operators ≡ Ok place → place_in ns key ≡ Some place
changed ns None operators place is = absurd (cc is)
changed ns (Some key) operators place is = by_found (broken_rule operators) is
  where
    by_found : (rule : Option ℕ) → by_rule ns key (names_id operators) rule ≡ Ok place → Some (ns, key) ≡ Some place
    by_found (Some rule) is = absurd (cc is)
    by_found None is = by_other_test (names_id operators) (ns, key) place ImmutableId is

-- ---- what is logged

entry_of : (one two : Op) (after other : Option Fields) → ◌≡◌ {A = Result Prepared Reason} (Ok (effects.Entry one after)) (Ok (effects.Entry two other)) → one ≡ two
entry_of one two after other same = cc same

of_stored : (op logged : Op) (doc : Fields) (after : Option Fields) → stored op doc ≡ Ok (effects.Entry logged after) → op ≡ logged
of_stored op logged doc after is = go (is_too_large doc) is
  where
    go : (b : Bool) → ◌≡◌ {A = Result Prepared Reason} (cond b (Err DocTooLarge) (Ok (effects.Entry op (Some doc)))) (Ok (effects.Entry logged after)) → op ≡ logged
    go true is = absurd (cc is)
    go false is = entry_of op logged (Some doc) after is

of_written : (op logged : Op) (before doc : Fields) (after : Option Fields) → written op before doc ≡ Ok (effects.Entry logged after) → op ≡ logged
of_written op logged before doc after is = go (same_fields doc before) is
  where
    go : (b : Bool) → ◌≡◌ {A = Result Prepared Reason} (cond b (Ok effects.Unchanged) (stored op doc)) (Ok (effects.Entry logged after)) → op ≡ logged
    go true is = absurd (cc is)
    go false is = of_stored op logged doc after is

of_update : (ns : List ℕ) (id : Value) (operators before : Fields) (logged : Op) (after : Option Fields) → update_prepared ns id operators before ≡ Ok (effects.Entry logged after)
    → ops.Fields ns id (sets_of operators before) (unsets_of operators before) ≡ logged
of_update ns id operators before logged after is = go (has_wrong_side before (under (codes "$inc") operators)) (has_overflow before (under (codes "$inc") operators)) is
  where
    go : (a b : Bool)
        → ◌≡◌ {A = Result Prepared Reason}
        (cond a (Err IncType) (cond b (Err IncOverflow) (written (ops.Fields ns id (sets_of operators before) (unsets_of operators before)) before (updated operators before))))
        (Ok (effects.Entry logged after))
        → ops.Fields ns id (sets_of operators before) (unsets_of operators before) ≡ logged
    go true b is = absurd (cc is)
    go false true is = absurd (cc is)
    go false false is = of_written _ logged before (updated operators before) after is

-- the entry of a write touches the place that was checked
logged_place : (op : WriteOp) (before : Option Fields) (place : Place) (logged : Op) (after : Option Fields) → checked op ≡ Ok place → prepared op before ≡ Ok (effects.Entry logged after)
    → place_of logged ≡ Some place
logged_place (writes.Insert ns doc) None place logged after is made =
    ap place_of (sym (of_stored (ops.Insert ns (id_first (found (codes "_id") doc) doc)) logged (id_first (found (codes "_id") doc) doc) after made)) ∙ inserted ns doc (found (codes "_id") doc) place is
logged_place (writes.Insert ns doc) (Some before) place logged after is made = absurd (cc made)
logged_place (writes.Replace ns id doc) None place logged after is made = absurd (cc made)
logged_place (writes.Replace ns id doc) (Some before) place logged after is made =
    ap place_of (sym (of_written (ops.Replace ns id (id_first (found (codes "_id") before) doc)) logged before (id_first (found (codes "_id") before) doc) after made))
    ∙ replaced ns (key_of (tree_of id)) (found (codes "_id") doc) place is
logged_place (writes.Update ns id operators) None place logged after is made = absurd (cc made)
logged_place (writes.Update ns id operators) (Some before) place logged after is made =
    ap place_of (sym (of_update ns id operators before logged after made)) ∙ changed ns (key_of (tree_of id)) operators place is
logged_place (writes.Delete ns id) None place logged after is made = absurd (cc made)
logged_place (writes.Delete ns id) (Some before) place logged after is made = ap place_of (sym (entry_of (ops.Delete ns id) logged None after made)) ∙ keyed ns (key_of (tree_of id)) place is

-- ---- what is admitted

refusals : (one : Result Prepared Reason) (logged : Op) (after : Option Fields) → or_refused one ≡ Ok (effects.Entry logged after) → one ≡ Ok (effects.Entry logged after)
refusals (Ok effect) logged after is = ap (λ (p : Prepared). let r : Result Prepared Reason = Ok p in r) (same effect is)
  where
    same : (effect : Prepared) → ◌≡◌ {A = Result Prepared Refusal} (Ok effect) (Ok (effects.Entry logged after)) → effect ≡ effects.Entry logged after
    same effect is = cc is
refusals (Err why) logged after is = absurd (cc is)

refused_at : (node : Node) (op : WriteOp) (why : Reason) → checked op ≡ Err why → admitted node op ≡ Err (refusal_of why)
refused_at node op why is = rw is refl

at_place : (node : Node) (op : WriteOp) (place : Place) (held : Option ℕ) → checked op ≡ Ok place → holder node place ≡ held
    → admitted node op ≡ unless_held held (or_refused (prepared op (maps.get (docs node.log) place)))
at_place node op place held is by_holder = rw (is, by_holder) refl

no_effect : (why : Refusal) (effect : Prepared) → ◌≡◌ {A = Result Prepared Refusal} (Err why) (Ok effect) → ⊥
no_effect why effect is = cc is

-- it touches a document that nobody holds
pub record IsFree (node : Node) (op : Op) : Type 0 where
  pub place : Place
  pub touches : place_of op ≡ Some place
  pub free : holder node place ≡ None

pub admitted_free : (node : Node) (op : WriteOp) (logged : Op) (after : Option Fields) → admitted node op ≡ Ok (effects.Entry logged after) → IsFree node logged
admitted_free node op logged after is = by_place (checked op) refl
  where
    by_holder : (place : Place) → checked op ≡ Ok place → (held : Option ℕ) → holder node place ≡ held → IsFree node logged
    by_holder place checked_is (Some writer) held = absurd (no_effect (WriteConflict writer) (effects.Entry logged after) (sym (at_place node op place (Some writer) checked_is held) ∙ is))
    by_holder place checked_is None held = record {
      place = place;
      touches = logged_place op (maps.get (docs node.log) place) place logged after checked_is (refusals (prepared op (maps.get (docs node.log) place)) logged after (sym (at_place node op place None checked_is held) ∙ is));
      free = held;
    }

    by_place : (place : Result Place Reason) → checked op ≡ place → IsFree node logged
    by_place (Err why) checked_is = absurd (no_effect (refusal_of why) (effects.Entry logged after) (sym (refused_at node op why checked_is) ∙ is))
    by_place (Ok place) checked_is = by_holder place checked_is (holder node place) refl
