-- Open slots, and what is visible before the least of them.
use Rattle.std.proofs.Common.{◌≡◌, ◌⊎◌, inl, inr, subst, refl, true, Option, None, Some, List}
use Rattle.std.specs.FinSet as sets
use Rattle.std.specs.List.{AllPairs}
use Rattle.rs_optime.specs.Order.{optime_cmp}
use Rattle.rs_optime.specs.declared.optime.OpTime.{OpTime}
use Rattle.rs_optime.proofs.Optimes.{before_at_most_trans}
use Rattle.rs_optime.specs.Membership.{In}
use Rattle.rs_optime.proofs.MembershipLemmas.{contains_in, in_contains, in_filter}
use Rattle.oplog_entry.specs.declared.entry.Entry.{Entry}
use Rattle.oplog_entry.specs.Visible.{is_before, least, entries_before, last_of}
use Rattle.oplog_entry.proofs.LeastLemmas.{least_in, least_of}
use Rattle.optime_slots.proofs.SlotLemmas.{open_without}
use Rattle.oplog_store.specs.Log.{StandsBefore, IsOplog}
use Rattle.oplog_store.proofs.LogLemmas.{oplog_filter}
use Rattle.set_model.specs.Safety.{AtMost}
use Rattle.node_state.proofs.EntryLemmas.{filter_in, last_grows}

-- ---- a set of slots

pub in_fewer : (slots : sets.FinSet optime_cmp) (at o : OpTime) → In o (sets.items (sets.remove slots at)) → In o (sets.items slots)
in_fewer slots at o there = contains_in slots o (open_without slots at o (in_contains (sets.remove slots at) o there))

-- ---- the least slot

-- ---- what is visible

-- an entry is visible where it stands before each slot
pub visible_in : (slots : List OpTime) (log : List Entry) (entry : Entry) → In entry log → ((slot : OpTime) → In slot slots → is_before entry.optime slot ≡ true)
    → In entry (entries_before (least slots) log)
visible_in slots log entry there before = go (least slots) refl
  where
    go : (found : Option OpTime) → least slots ≡ found → In entry (entries_before found log)
    go None is = there
    go (Some slot) is = filter_in (λ (e : Entry). is_before e.optime slot) log entry there (before slot (least_in slots slot is))

pub in_visible : (slots : List OpTime) (log : List Entry) (entry : Entry) → In entry (entries_before (least slots) log)
    → In entry log × ((slot : OpTime) → In slot slots → is_before entry.optime slot ≡ true)
in_visible slots log entry there = (in_log (least slots) refl there, before)
  where
    in_log : (found : Option OpTime) → least slots ≡ found → In entry (entries_before found log) → In entry log
    in_log None is there = there
    in_log (Some slot) is there = (in_filter (λ (e : Entry). is_before e.optime slot) log entry there).0

    before : (slot : OpTime) → In slot slots → is_before entry.optime slot ≡ true
    before slot listed =
        let first : (s : OpTime) × (least slots ≡ Some s) × AtMost s slot = least_of slots slot listed in
        let passes : In entry (entries_before (Some first.0) log) = subst (λ found. In entry (entries_before found log)) first.1 there in
        before_at_most_trans entry.optime first.0 slot (in_filter (λ (e : Entry). is_before e.optime first.0) log entry passes).1 first.2

pub visible_order : (slots : List OpTime) (log : List Entry) → IsOplog log → AllPairs StandsBefore (entries_before (least slots) log)
visible_order slots log oplog = go (least slots)
  where
    go : (found : Option OpTime) → AllPairs StandsBefore (entries_before found log)
    go None = oplog.order
    go (Some slot) = (oplog_filter (λ (e : Entry). is_before e.optime slot) log oplog).order

-- more entries, and no slot that any of the earlier ones comes after: what is visible goes no less far
pub visible_grows : (slots others : List OpTime) (log more : List Entry) → IsOplog more → ((entry : Entry) → In entry log → In entry more)
    → ((slot : OpTime) → In slot others → In slot slots ⊎ ((entry : Entry) → In entry log → is_before entry.optime slot ≡ true))
    → AtMost (last_of (entries_before (least slots) log)) (last_of (entries_before (least others) more))
visible_grows slots others log more oplog longer later =
    last_grows (entries_before (least slots) log) (entries_before (least others) more) (visible_order others more oplog)
    (λ entry there.
    let seen : In entry log × ((slot : OpTime) → In slot slots → is_before entry.optime slot ≡ true) = in_visible slots log entry there in
    visible_in others more entry (longer entry seen.0) (λ slot listed. elim (later slot listed) [
      | inl old ↦ seen.1 slot old
      | inr past ↦ past entry seen.0
    ]))
