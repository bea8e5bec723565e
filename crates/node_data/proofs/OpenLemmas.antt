-- Open writers and their ops, as slots come and go.
use Rattle.std.proofs.Common.{◌≡◌, ◌≢◌, ◌⊎◌, inl, inr, ◌<◌, ◌∙◌, ℕ, suc, zero, Bool, true, false, not, ◌&&◌, ◌||◌, IsTrue, List, None, Some, refl, sym, ap, arith}
use Rattle.std.specs.Ordering.{eq_by_cmp, is_eq}
use Rattle.std.specs.Cmp.{tied_itself, Equal-is}
use Rattle.std.specs.FinMap.{get, insert, remove}
use Rattle.std.specs.FinSet as sets
use Rattle.rs_optime.specs.Order.{optime_cmp}
use Rattle.rs_optime.specs.declared.optime.OpTime.{OpTime}
use Rattle.oplog_entry.specs.declared.entry.Entry.{Entry}
use Rattle.oplog_entry.specs.declared.entry.Op.{Op}
use Rattle.oplog_entry.specs.Step.{place_of}
use Rattle.oplog_store.specs.Log.{with_entry}
use Rattle.oplog_store.proofs.Keeps.{all_with_entry}
use Rattle.optime_slots.proofs.SlotLemmas.{optime_total, optime_exact}
use Rattle.set_model.specs.declared.writer.Writer.TheVariants.{Open, Done}
use Rattle.node_data.specs.Kept.{FitsBeside, IsNewest}
use Rattle.node_data.specs.Writers.{Writers, HasOpen}
use Rattle.node_data.proofs.MapLemmas.{same_or_apart, get-with-same, get-with-other, get-without-same, get-without-other}

-- and stays so where another entry comes that fits beside it, unless that is later and of its document
pub newest_with : (log : List Entry) (entry other : Entry) → IsNewest log entry → FitsBeside entry other → (entry.optime.ts < other.optime.ts → place_of other.op ≢ place_of entry.op) → IsNewest (with_entry log other) entry
newest_with log entry other newest beside apart = record {
  fits = all_with_entry (FitsBeside entry) log other beside newest.fits;
  last = all_with_entry (λ (e : Entry). entry.optime.ts < e.optime.ts → place_of e.op ≢ place_of entry.op) log other apart newest.last;
}

-- ---- slots

pub slot-itself : (slots : sets.FinSet optime_cmp) (at : OpTime) → IsTrue (sets.contains (sets.insert slots at) at)
slot-itself slots at =
    sets.contains-insert optime_total slots at at ∙ ap (λ r. is_eq r || sets.contains slots at) (tied_itself optime_total at)

pub slot-more : (slots : sets.FinSet optime_cmp) (at other : OpTime) → IsTrue (sets.contains slots other) → IsTrue (sets.contains (sets.insert slots at) other)
slot-more slots at other there = sets.contains-insert optime_total slots at other ∙ right_too (eq_by_cmp optime_cmp other at) (sets.contains slots other) there
  where
    right_too : (a b : Bool) → IsTrue b → (a || b) ≡ true
    right_too true b h = refl
    right_too false b h = h

pub slot-other : (slots : sets.FinSet optime_cmp) (at other : OpTime) → (other ≡ at → ⊥) → IsTrue (sets.contains slots other) → IsTrue (sets.contains (sets.remove slots at) other)
slot-other slots at other apart there = sets.contains-remove optime_total slots at other ∙ by_test (eq_by_cmp optime_cmp other at) refl
  where
    by_test : (b : Bool) → eq_by_cmp optime_cmp other at ≡ b → (not b && sets.contains slots other) ≡ true
    by_test true is = absurd (apart (optime_exact other at ((Equal-is _).0 is)))
    by_test false is = there

-- ---- who is open

pub opened_cases : (writers : Writers) (writer : ℕ) (at : OpTime) (op : Op) (v : ℕ) (by : OpTime) (other : Op) → HasOpen (insert writers writer (Open at op)) v by other
    → ((v ≡ writer) × (at ≡ by) × (op ≡ other)) ⊎ ((v ≢ writer) × HasOpen writers v by other)
opened_cases writers writer at op v by other opens = elim (same_or_apart v writer) [
  | inl same ↦
      let here : Some (Open at op) ≡ Some (Open by other) =
      sym (get-with-same writers writer (Open at op)) ∙ ap (get (insert writers writer (Open at op))) (sym same.0) ∙ opens in
      inl (same.0, cc, cc)
  | inr differ ↦ inr (differ.0, sym (get-with-other writers writer v (Open at op) differ.0) ∙ opens)
]

pub done_cases : (writers : Writers) (writer : ℕ) (at : OpTime) (v : ℕ) (by : OpTime) (other : Op) → HasOpen (insert writers writer (Done at)) v by other → (v ≢ writer) × HasOpen writers v by other
done_cases writers writer at v by other opens = elim (same_or_apart v writer) [
  | inl same ↦
      let here : Some (Done at) ≡ Some (Open by other) =
      sym (get-with-same writers writer (Done at)) ∙ ap (get (insert writers writer (Done at))) (sym same.0) ∙ opens in
      absurd (cc)
  | inr differ ↦ (differ.0, sym (get-with-other writers writer v (Done at) differ.0) ∙ opens)
]

pub gone_cases : (writers : Writers) (writer v : ℕ) (by : OpTime) (other : Op) → HasOpen (remove writers writer) v by other → (v ≢ writer) × HasOpen writers v by other
gone_cases writers writer v by other opens = elim (same_or_apart v writer) [
  | inl same ↦
      let here : None ≡ Some (Open by other) = sym (get-without-same writers writer) ∙ ap (get (remove writers writer)) (sym same.0) ∙ opens in
      absurd (cc)
  | inr differ ↦ (differ.0, sym (get-without-other writers writer v differ.0) ∙ opens)
]

pub three_ways : (m n : ℕ) → (m < n) ⊎ ((m ≡ n) ⊎ (n < m))
three_ways zero zero = inr (inl refl)
three_ways zero (suc n) = inl (omega arith)
three_ways (suc m) zero = inr (inr (omega arith))
three_ways (suc m) (suc n) = elim (three_ways m n) [
  | inl less ↦ inl (omega arith)
  | inr rest ↦ elim rest [ inl same ↦ inr (inl (ap (λ k. suc k) same)) | inr more ↦ inr (inr (omega arith)) ]
]
