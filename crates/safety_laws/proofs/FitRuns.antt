-- What leaders write is fit for a log: in each world of a run each leader's log is fit.
use Rattle.std.proofs.Common.{◌≡◌, ◌∙◌, ◌<◌, inl, inr, ap, sym, subst, refl, arith, ℕ, true, false, Option, None, Some, slice_get, slice_set, List, [], ◌∷◌}
use Rattle.std.specs.Prelude.{option_and_then}
use Rattle.std.specs.List.{list_all}
use Rattle.std.proofs.lemmas.Bool.{and_parts, cases_Bool, cases_eq}
use Rattle.std.proofs.lemmas.Option.{same_Some}
use Rattle.rs_optime.specs.Membership.{In}
use Rattle.oplog_entry.specs.declared.entry.Entry.{Entry}
use Rattle.set_model.specs.declared.command.Event.{Event}
use Rattle.set_model.specs.declared.role.Role.{Role}
use Rattle.set_model.specs.declared.role.Role.TheVariants as roles
use Rattle.set_model.specs.Limits.{Fits, IsRun, is_within, nodes_of}
use Rattle.set_model.specs.Node.{Node}
use Rattle.set_model.specs.Outcome.{Outcome}
use Rattle.set_model.specs.Points.{visible_log}
use Rattle.set_model.specs.Roles.{is_draining, is_leading, is_primary}
use Rattle.set_model.specs.Run.{Sizes, AreSizes, opening, world_at}
use Rattle.set_model.specs.Safety as safety
use Rattle.set_model.specs.Stores.{Plan, done}
use Rattle.set_model.proofs.SessionLemmas.{Ascends, ascends_left}
use Rattle.set_model.specs.World.{World, Task, acts, takes, nothing, task, touched_node, plan_of, by_plan, with_outcome, step}
use Rattle.commit_machine.specs.Nodes.{Snapshot, State, Was}
use Rattle.commit_machine.specs.Words.{Has}
use Rattle.commit_machine.proofs.Facts.{Invariant}
use Rattle.safety_laws.proofs.Along.{worlds_before, IsKeptAlong}
use Rattle.safety_laws.proofs.FitDelivers.{deliver_fits}
use Rattle.safety_laws.proofs.FitNodes.{IsFit, IsFitEntry, follower_fit, standing_of}
use Rattle.safety_laws.proofs.FitRows.{FitNow, FitOn, FitsOn, IsFresh, fit_done, row_fits}
use Rattle.safety_laws.proofs.Frame.{RowsTied, DeliveriesTied}
use Rattle.safety_laws.proofs.Fronts.{AreFronts, IsFront, fronts_kept}
use Rattle.safety_laws.proofs.Opening.{get_from}
use Rattle.safety_laws.proofs.Places.{get_set_same, get_set_other}
use Rattle.safety_laws.proofs.Rel.{Rel, IsUp, role_of, snapshot_of}
use Rattle.safety_laws.proofs.Replies.{AreFit}
use Rattle.safety_laws.proofs.Runs.{along_of, had_of, kept_of, rel_of, state_of, up_of}
use Rattle.safety_laws.proofs.Steps.{draining_is, in_has, not_leading}
use Rattle.safety_laws.proofs.StoredLogs.{AreStored, none_too_large, stored_front}
use Rattle.safety_laws.proofs.Visibles.{visible_unless_primary}
use Rattle.safety_laws.proofs.WrittenEntries.{up_is, was_is}

-- ---- who leads and isn't primary

drains : (role : Role) → is_leading role ≡ true → is_primary role ≡ false → is_draining role ≡ true
drains roles.Draining leads none = refl
drains roles.Secondary leads none = absurd (cc leads)
drains roles.Candidate leads none = absurd (cc leads)
drains roles.Primary leads none = absurd (cc none)

-- a leader that hasn't drained has no entry of its term
drain_fresh : (state : State) (number : ℕ) (node : Node) → Invariant state → IsUp state node → Was state number (snapshot_of node) → IsFresh node
drain_fresh state number node kept up was draining entry there same =
    let older : entry.optime.term < node.term =
    kept.candidate_log number (snapshot_of node) was (inr (ap role_of (draining_is node.role draining))) entry.optime
    (subst (λ (l : List Entry). Has entry.optime l) (sym (visible_unless_primary node up.log (ap is_primary (draining_is node.role draining)))) (in_has entry node.log there)) in
    omega (arith, older, same)

-- ---- the worlds of a run

-- whoever led in these worlds was fit
abbrev LedFit : List World → Type 0
LedFit worlds = (world : World) → In world worlds → (number : ℕ) (node : Node) → slice_get world.nodes number ≡ Some node → FitsOn (standing_of node)

pub record AreLedFit (past : List World) (world : World) (state : State) : Type 0 where
  pub fronts : AreFronts past world state
  pub led : LedFit (world ∷ past)

front_stored : (worlds : List World) (front : List Entry) → LedFit worlds → IsFront worlds front → AreStored front
front_stored worlds front led (inl none) = subst (λ (l : List Entry). AreStored l) (sym none) (λ place. tt)
front_stored worlds front led (inr begun) =
    stored_front front begun.node.log begun.begins (led begun.world begun.among begun.number begun.node begun.leads.there begun.leads.up begun.leads.leads).stored

front_ascends : (worlds : List World) (front : List Entry) → LedFit worlds → IsFront worlds front → Ascends front
front_ascends worlds front led (inl none) = subst (λ (l : List Entry). Ascends l) (sym none) tt
front_ascends worlds front led (inr begun) =
    ascends_left front begun.begins.0 (subst (λ (l : List Entry). Ascends l) begun.begins.1
    (led begun.world begun.among begun.number begun.node begun.leads.there begun.leads.up begun.leads.leads).ascends)

-- and so is each node that is up, in the last of them
now_fit : (past : List World) (world : World) (state : State) → Rel world state → AreLedFit past world state → (number : ℕ) (node : Node) → slice_get world.nodes number ≡ Some node → FitNow (standing_of node)
now_fit past world state rel fits number node there up = elim (cases_Bool (is_leading node.role)) [
  | inl leads ↦ fits.led world (inl refl) number node there up leads
  | inr none ↦ follower_fit (standing_of node) (not_leading node.role none)
      (subst (λ (l : List Entry). AreStored l) (visible_unless_primary node (up_is world state rel number node there up).1.log (not_leading node.role none))
      (front_stored (world ∷ past) (visible_log node) fits.led (fits.fronts number (snapshot_of node) (was_is world state rel number node there up))))
      (subst (λ (l : List Entry). Ascends l) (visible_unless_primary node (up_is world state rel number node there up).1.log (not_leading node.role none))
      (front_ascends (world ∷ past) (visible_log node) fits.led (fits.fronts number (snapshot_of node) (was_is world state rel number node there up))))
]

-- ---- one event

module _ (past : List World) (world : World) (state : State) (event : Event) (kept : Invariant state) (rel : Rel world state) (fits : Fits world event) (led : AreLedFit past world state) where
  plan_fits : (number : ℕ) (node : Node) → slice_get world.nodes number ≡ Some node → (what : Task) (plan : Plan) → plan_of world event what node ≡ Some plan → FitOn plan
  plan_fits number node there (acts n) plan is =
      subst FitOn (same_Some _ plan is)
      (row_fits _ _ event.kept node event.command (now_fit past world state rel led number node there)
      (λ up. (up_is world state rel number node there up).1.log)
      (λ up. drain_fresh state number node kept (up_is world state rel number node there up).1 (was_is world state rel number node there up))
      (and_parts (list_all _ (nodes_of event.command)) (is_within event.command) fits.command).1
      fits.documents)
  plan_fits number node there (takes message) plan is = subst FitOn (same_Some _ plan is) (deliver_fits _ node message (now_fit past world state rel led number node there))
  plan_fits number node there nothing plan is = absurd (cc is)

  outcome_fits : (number : ℕ) (node : Node) (outcome : Outcome) → slice_get world.nodes number ≡ Some node → FitsOn (standing_of outcome.node)
      → (m : ℕ) (cur : Node) → slice_get (with_outcome world number outcome).world.nodes m ≡ Some cur → FitsOn (standing_of cur)
  outcome_fits number node outcome there fit m cur is = elim (cases_eq number m) [
    | inl same ↦ subst (λ n. FitsOn (standing_of n)) (same_Some outcome.node cur (sym (get_set_same world.nodes number outcome.node node there) ∙ ap (λ k. slice_get (slice_set world.nodes number outcome.node) k) same ∙ is)) fit
    | inr other ↦ led.led world (inl refl) m cur (sym (get_set_other world.nodes number m outcome.node other) ∙ is)
  ]

  step_fits : (m : ℕ) (cur : Node) → slice_get (step world event).world.nodes m ≡ Some cur → FitsOn (standing_of cur)
  step_fits = at_node (slice_get world.nodes number) refl
    where
      number : ℕ
      number = touched_node world event.command

      by : Node → Option Plan
      by node = plan_of world event (task world event.command) node

      at_plan : (node : Node) → slice_get world.nodes number ≡ Some node → (plan : Option Plan) → by node ≡ plan → (m : ℕ) (cur : Node) → slice_get (by_plan world event plan).world.nodes m ≡ Some cur → FitsOn (standing_of cur)
      at_plan node there None is = led.led world (inl refl)
      at_plan node there (Some plan) is = outcome_fits number node (done plan event.failed) there (fit_done plan event.failed (plan_fits number node there (task world event.command) plan is))

      at_node : (found : Option Node) → slice_get world.nodes number ≡ found → (m : ℕ) (cur : Node) → slice_get (by_plan world event (option_and_then by found)).world.nodes m ≡ Some cur → FitsOn (standing_of cur)
      at_node None there = led.led world (inl refl)
      at_node (Some node) there = at_plan node there (by node) refl

led_kept : IsKeptAlong AreLedFit
led_kept past world state event kept rel fits goes led = record {
  fronts = fronts_kept past world state event kept rel fits goes led.fronts;
  led = λ other among number node there. at_world other among number node there;
}
  where
    at_world : LedFit ((step world event).world ∷ world ∷ past)
    at_world other (inr before) number node there = led.led other before number node there
    at_world other (inl same) number node there = step_fits past world state event kept rel fits led number node (subst (λ (w : World). slice_get w.nodes number ≡ Some node) (sym same) there)

-- ---- the whole run

module _ (rows_tied : RowsTied) (deliveries_tied : DeliveriesTied) (sizes : Sizes) (events : List Event) (are : AreSizes sizes) (is : IsRun sizes events) where
  led_at : (place : ℕ) → AreLedFit (worlds_before (opening sizes) [] events place) (world_at sizes events place) (state_of rows_tied deliveries_tied sizes events are is place)
  led_at place = along_of rows_tied deliveries_tied sizes events are is AreLedFit led_kept
      (record {
        fronts = λ v y was. inl (ap (λ (x : Snapshot). x.log) (sym was));
        led = λ world among number node there up leads. absurd (elim among [
          | inl same ↦ cc (leads, ap (λ (n : Node). is_leading n.role) (get_from _ _ _ number node (subst (λ (w : World). slice_get w.nodes number ≡ Some node) (sym same) there)))
          | inr none ↦ none
        ]);
      }) place

  leader_fit : (j m term : ℕ) (leader : Node) → safety.Leads sizes events j m term leader → IsFit (standing_of leader)
  leader_fit j m term leader leads = (led_at j).led (world_at sizes events j) (inl refl) m leader leads.at.there leads.at.up leads.role

  -- the log of each node that is up is fit
  pub fit_at : (place number : ℕ) (node : Node) → safety.IsAt sizes events place number node → IsFit (standing_of node)
  fit_at place number node at =
      now_fit (worlds_before (opening sizes) [] events place) (world_at sizes events place) (state_of rows_tied deliveries_tied sizes events are is place)
      (rel_of rows_tied deliveries_tied sizes events are is place) (led_at place) number node at.there at.up

  pub fit_run : AreFit rows_tied deliveries_tied sizes events are is
  fit_run = record {
    ops = λ j m term leader leads entry there same.
        let fit : IsFitEntry entry = own_fit j m term leader leads entry there same in
        (fit.0, record { bytes = fit.1.0; levels = fit.1.1 }, fit.2);
    documents = λ j m term leader leads front begins. none_too_large front (stored_front front leader.log begins (leader_fit j m term leader leads).stored);
  }
    where
      own_fit : (j m term : ℕ) (leader : Node) → safety.Leads sizes events j m term leader → (entry : Entry) → In entry leader.log → entry.optime.term ≡ term → IsFitEntry entry
      own_fit j m term leader leads entry there same = elim (cases_Bool (is_primary leader.role)) [
        | inl primary ↦ ((leader_fit j m term leader leads).ready primary).own entry there (same ∙ sym leads.term_is)
        | inr none ↦ absurd (drain_fresh (state_of rows_tied deliveries_tied sizes events are is j) m leader (kept_of rows_tied deliveries_tied sizes events are is j)
            (up_of rows_tied deliveries_tied sizes events are is j m leader leads.at).1 (had_of rows_tied deliveries_tied sizes events are is j j m leader leads.at (omega arith))
            (drains leader.role leads.role none) entry there (same ∙ sym leads.term_is))
      ]
