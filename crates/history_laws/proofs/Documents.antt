-- In each log the entries of one document stand in the order of the events that wrote them.
use Rattle.std.proofs.Common.{◌≡◌, ◌∙◌, ◌<◌, ◌≤◌, ◌+◌, inl, inr, ap, sym, subst, refl, arith, ℕ, suc, Bool, true, false, nat_lt, ltb-true, cond, not, Some, slice_get, List, [], ◌∷◌}
use Rattle.std.proofs.lemmas.Bool.{cases_order}
use Rattle.std.proofs.lemmas.Option.{same_Some}
use Rattle.rs_optime.specs.Membership.{In}
use Rattle.rs_optime.specs.Order.{Before, is_before}
use Rattle.rs_optime.proofs.Optimes.{at_most_refl, at_most_term, before_at_most, not_both}
use Rattle.oplog_entry.specs.Visible.{log_up_to}
use Rattle.oplog_entry.specs.declared.entry.Entry.{Entry}
use Rattle.oplog_store.specs.Log.{with_entry}
use Rattle.set_model.specs.declared.command.Event.{Event}
use Rattle.set_model.specs.Limits.{IsRun}
use Rattle.set_model.specs.Node.{Node}
use Rattle.set_model.specs.Points.{visible_log}
use Rattle.set_model.specs.Roles.{is_leading, is_primary}
use Rattle.set_model.specs.Run.{AreSizes, Sizes, world_at}
use Rattle.set_model.specs.Safety as safety
use Rattle.set_model.specs.Safety.{IsAt, Safe}
use Rattle.commit_machine.specs.Nodes.{State, Winner}
use Rattle.commit_machine.specs.Words.{Rises}
use Rattle.commit_machine.proofs.Facts.{HasOrigin, HasWon, Invariant}
use Rattle.commit_machine.proofs.Growth.{in_append, in_left}
use Rattle.safety_laws.specs.Logs.{LeadersAddTheirOwn, LeadersKeep, LogsRise, NextOptimesAreLast}
use Rattle.safety_laws.proofs.Delivers.{deliveries_tied}
use Rattle.safety_laws.proofs.Merges.{entries_in, in_entry, into_filter}
use Rattle.safety_laws.proofs.Orders.{rises_of}
use Rattle.safety_laws.proofs.Parts.{in_has}
use Rattle.safety_laws.proofs.Rel.{HasLog, snapshot_of}
use Rattle.safety_laws.proofs.Rows.{rows_tied}
use Rattle.safety_laws.proofs.Runs.{had_of, kept_of, state_of, up_of}
use Rattle.safety_laws.proofs.Steps.{leads_of, primary_leads}
use Rattle.linear_read.specs.Written.{EntriesAreWritten, WasWritten, Wrote}
use Rattle.history_laws.specs.Documents.{DocumentsAreInOrder}
use Rattle.history_laws.proofs.Holding.{AreApart}
use Rattle.history_laws.proofs.Runs.{CameAt, came_at}
use Rattle.history_laws.proofs.Seen.{in_seen, seen_in}

-- ---- an entry more

-- where timestamps rise, an entry that is written wasn't there before
pub is_new : (log : List Entry) (entry : Entry) → In entry log → Rises (with_entry log entry) → ⊥
is_new [] entry there rises = there
is_new (other ∷ log) entry there rises = go (nat_lt other.optime.ts entry.optime.ts) refl (is_new log entry) there rises
  where
    go : (b : Bool) → nat_lt other.optime.ts entry.optime.ts ≡ b → (In entry log → Rises (with_entry log entry) → ⊥) → In entry (other ∷ log)
        → Rises (cond b (other ∷ with_entry log entry) (entry ∷ other ∷ log)) → ⊥
    go true less_is again (inl same) rises =
        let less : other.optime.ts < entry.optime.ts = ltb-true other.optime.ts entry.optime.ts less_is in
        let level : other.optime.ts ≡ entry.optime.ts = ap (λ (e : Entry). e.optime.ts) same in
        omega (arith, less, level)
    go true less_is again (inr there) rises = again there rises.1
    go false less_is again there rises = let less : entry.optime.ts < entry.optime.ts = (rises.0 entry.optime (in_has entry (other ∷ log) there)).0 in omega (arith, less)

module _ (sizes : Sizes) (events : List Event) (are : AreSizes sizes) (is : IsRun sizes events) (safe : Safe sizes events) (logs : LogsRise sizes events) (keeps : LeadersKeep sizes events)
    (adds : LeadersAddTheirOwn sizes events) (next : NextOptimesAreLast sizes events) (written : EntriesAreWritten sizes events) where
  rises : (place number : ℕ) (node : Node) → IsAt sizes events place number node → Rises node.log
  rises place number node at = rises_of node.log (logs place number node at)

  module _ (i : ℕ) (one : Entry) (wrote : Wrote sizes events i one) where
    -- it was new
    was_new : In one wrote.old.log → ⊥
    was_new there = is_new wrote.old.log one there (subst (λ (l : List Entry). Rises l) wrote.more (rises (suc i) wrote.number wrote.new wrote.next.at))

    now_there : In one wrote.new.log
    now_there = subst (λ (l : List Entry). In one l) (sym wrote.more) (entries_in one wrote.old.log (one ∷ []) (inr (inl refl)))

    -- no entry after it in the log touched its document
    writes_apart : (other : Entry) → In other wrote.old.log → Before one.optime other.optime → AreApart one.op other.op
    writes_apart other there before = go (came_at sizes events are is next i wrote.number wrote.new wrote.next.at.there)
      where
        go : CameAt (world_at sizes events i) wrote.number wrote.new → AreApart one.op other.op
        go came = elim came.2.1 [
          | inl same ↦ absurd (was_new (subst (λ (l : List Entry). In one l) (same ∙ ap (λ (n : Node). n.log) old_is) now_there))
          | inr how ↦ elim how [
            | inl none ↦ absurd (let leads : is_leading wrote.new.role ≡ true = wrote.next.role in cc (none, leads))
            | inr added ↦
                let entry_is : added.entry ≡ one = elim (in_entry one came.0.log added.entry (subst (λ (l : List Entry). In one l) added.more now_there)) [
                  | inl old ↦ absurd (was_new (subst (λ (n : Node). In one n.log) old_is old))
                  | inr same ↦ same
                ] in
                subst (λ (e : Entry). AreApart e.op other.op) entry_is
                (added.apart other (subst (λ (n : Node). In other n.log) (sym old_is) there) (subst (λ (e : Entry). Before e.optime other.optime) (sym entry_is) before))
          ]
        ]
          where
            old_is : came.0 ≡ wrote.old
            old_is = same_Some came.0 wrote.old (sym came.1 ∙ wrote.before.at.there)

  -- ---- one event wrote it

  not_earlier : (i j : ℕ) (one : Entry) (first : Wrote sizes events i one) (second : Wrote sizes events j one) → i < j → ⊥
  not_earlier i j one first second less =
      let same : first.number ≡ second.number = safe.one_primary (suc i) j first.number second.number one.optime.term first.new second.old first.next second.before in
      was_new j one second
      (keeps (suc i) j second.number one.optime.term first.new second.old (omega (arith, less)) (subst (λ n. safety.Leads sizes events (suc i) n one.optime.term first.new) same first.next) second.before
      one (now_there i one first))

  once : (i j : ℕ) (one : Entry) → Wrote sizes events i one → Wrote sizes events j one → i ≡ j
  once i j one first second = elim (cases_order i j) [
    | inl same ↦ same
    | inr other ↦ elim other [ inl less ↦ absurd (not_earlier i j one first second less) | inr more ↦ absurd (not_earlier j i one second first more) ]
  ]

  -- ---- an entry of an earlier term

  log_of : (place number : ℕ) (node : Node) → IsAt sizes events place number node → HasLog node
  log_of place number node at = (up_of rows_tied deliveries_tied sizes events are is place number node at).1.log

  module _ (place number : ℕ) (node : Node) (one two : Entry) (at : IsAt sizes events place number node) (there : In one node.log) (there_too : In two node.log) (before : Before one.optime two.optime)
      (older : one.optime.term < two.optime.term) (j : ℕ) (wrote : Wrote sizes events j two) where
    -- where the node leads in the later entry's term, it is the one that wrote that
    by_leader : safety.Leads sizes events place number two.optime.term node → In one wrote.old.log
    by_leader leads =
        let same : number ≡ wrote.number = safe.one_primary place j number wrote.number two.optime.term node wrote.old leads wrote.before in
        adds j place wrote.number two.optime.term wrote.old node wrote.before (subst (λ n. safety.Leads sizes events place n two.optime.term node) same leads) one there older

    -- otherwise both are visible, and so the writer's term was won with the earlier one
    by_origin : (is_primary node.role ≡ true → two.optime.term < node.term) → In one wrote.old.log
    by_origin past = seen_in wrote.old one (subst (λ (l : List Entry). In one l) (sym led.log ∙ refl) (in_left one led.win.log led.rest (subst (λ (w : Winner). In one w.log) same_win in_win)))
      where
        state : State
        state = state_of rows_tied deliveries_tied sizes events are is (place + j)

        kept : Invariant state
        kept = kept_of rows_tied deliveries_tied sizes events are is (place + j)

        one_seen : In one (visible_log node)
        one_seen = in_seen node (log_of place number node at) one there (λ primary. let less : two.optime.term < node.term = past primary in omega (arith, less, older))

        two_seen : In two (visible_log node)
        two_seen = in_seen node (log_of place number node at) two there_too past

        source : HasOrigin state (visible_log node) two.optime
        source = kept.origin number (snapshot_of node) (had_of rows_tied deliveries_tied sizes events are is place (place + j) number node at (omega arith)) two.optime (in_has two (visible_log node) two_seen)

        in_source : In one source.node.log
        in_source = subst (λ (l : List Entry). In one l) (sym source.begins.1)
            (in_left one (log_up_to two.optime (visible_log node)) source.begins.0
            (into_filter (λ (e : Entry). not (is_before two.optime e.optime)) one (visible_log node) one_seen (ap not (before_at_most one.optime two.optime before))))

        won : HasWon state source.number source.node
        won = kept.leader_won source.number source.node source.was (inr source.role)

        in_win : In one won.win.log
        in_win = elim (in_append one won.win.log won.rest (subst (λ (l : List Entry). In one l) won.log in_source)) [
          | inl early ↦ early
          | inr late ↦ let own : one.optime.term ≡ source.node.term = won.own one.optime (in_has one won.rest late) in absurd (omega (arith, own, older, source.term))
        ]

        led : HasWon state wrote.number (snapshot_of wrote.old)
        led = kept.leader_won wrote.number (snapshot_of wrote.old) (had_of rows_tied deliveries_tied sizes events are is j (place + j) wrote.number wrote.old wrote.before.at (omega arith))
            (leads_of wrote.old.role wrote.before.role)

        same_win : won.win ≡ led.win
        same_win = kept.win_once won.win led.win won.won led.won (won.term ∙ source.term ∙ sym wrote.before.term_is ∙ sym led.term)

    was_there : In one wrote.old.log
    was_there = go (is_leading node.role) refl
      where
        high : two.optime.term ≤ node.term
        high = (log_of place number node at).terms two.optime (in_has two node.log there_too)

        leading : is_primary node.role ≡ true → is_leading node.role ≡ false → two.optime.term < node.term
        leading primary none = absurd (let leads : is_leading node.role ≡ true = primary_leads node.role primary in cc (none, leads))

        go : (b : Bool) → is_leading node.role ≡ b → In one wrote.old.log
        go false none = by_origin (λ primary. leading primary none)
        go true leads = elim (cases_order two.optime.term node.term) [
          | inl same ↦ by_leader (record { at = at; term_is = sym same; role = leads })
          | inr other ↦ elim other [ inl less ↦ by_origin (λ primary. less) | inr more ↦ absurd (omega (arith, more, high)) ]
        ]

  -- ---- in their order

  pub documents_in_order : DocumentsAreInOrder sizes events
  documents_in_order place number node one two at there there_too before touch i j first second = elim (cases_order one.optime.term two.optime.term) [
    | inl same ↦ in_term same
    | inr other ↦ elim other [
      | inl older ↦
          let was : WasWritten sizes events j one = written.logs j second.number second.old second.before.at.there one (was_there place number node one two at there there_too before older j second) in
          let same : i ≡ was.0 = once i was.0 one first was.2 in
          let less : was.0 < j = was.1 in
          omega (arith, same, less)
      | inr newer ↦ absurd (let low : one.optime.term ≤ two.optime.term = at_most_term one.optime two.optime (before_at_most one.optime two.optime before) in omega (arith, low, newer))
    ]
  ]
    where
      in_term : one.optime.term ≡ two.optime.term → i < j
      in_term same = elim (cases_order i j) [
        | inl level ↦ absurd (at_once level)
        | inr other ↦ elim other [ inl less ↦ less | inr more ↦ absurd (too_late more) ]
      ]
        where
          before_two : safety.Leads sizes events j second.number one.optime.term second.old
          before_two = subst (λ t. safety.Leads sizes events j second.number t second.old) (sym same) second.before

          next_two : safety.Leads sizes events (suc j) second.number one.optime.term second.new
          next_two = subst (λ t. safety.Leads sizes events (suc j) second.number t second.new) (sym same) second.next

          one_node : second.number ≡ first.number
          one_node = safe.one_primary j i second.number first.number one.optime.term second.old first.old before_two first.before

          -- one event writes one entry
          at_once : i ≡ j → ⊥
          at_once level =
              let new_there : slice_get (world_at sizes events (suc i)).nodes first.number ≡ Some second.new =
              subst (λ p. slice_get (world_at sizes events (suc p)).nodes first.number ≡ Some second.new) (sym level) (subst (λ n. slice_get (world_at sizes events (suc j)).nodes n ≡ Some second.new) one_node second.next.at.there) in
              let new_is : second.new ≡ first.new = same_Some second.new first.new (sym new_there ∙ first.next.at.there) in
              let old_there : slice_get (world_at sizes events i).nodes first.number ≡ Some second.old =
              subst (λ p. slice_get (world_at sizes events p).nodes first.number ≡ Some second.old) (sym level) (subst (λ n. slice_get (world_at sizes events j).nodes n ≡ Some second.old) one_node second.before.at.there) in
              let old_is : second.old ≡ first.old = same_Some second.old first.old (sym old_there ∙ first.before.at.there) in
              elim (in_entry one second.old.log two (subst (λ (l : List Entry). In one l) second.more (subst (λ (n : Node). In one n.log) (sym new_is) (now_there i one first)))) [
                | inl old ↦ was_new i one first (subst (λ (n : Node). In one n.log) old_is old)
                | inr two_is ↦ not_both one.optime one.optime (subst (λ (e : Entry). Before one.optime e.optime) two_is before) (at_most_refl one.optime)
              ]

          -- the earlier entry wasn't written after the later one
          too_late : j < i → ⊥
          too_late more =
              let had : In two first.old.log =
              keeps (suc j) i first.number one.optime.term second.new first.old (omega (arith, more)) (subst (λ n. safety.Leads sizes events (suc j) n one.optime.term second.new) one_node next_two) first.before
              two (now_there j two second) in
              writes_apart i one first two had before touch.0 touch.1 touch.2
