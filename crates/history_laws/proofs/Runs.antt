-- In each world of a run writers hold their documents, and how each log came from the one before.
use Rattle.std.proofs.Common.{◌≡◌, ◌∙◌, inl, inr, ap, sym, subst, refl, ℕ, zero, suc, ◌+◌, true, Some, List, [], slice_get, length}
use Rattle.std.proofs.lemmas.Option.{same_Some}
use Rattle.std.specs.FinMap as maps
use Rattle.rs_optime.specs.Membership.{In}
use Rattle.rs_optime.specs.Order.{Before}
use Rattle.oplog_entry.specs.declared.entry.Entry.{Entry}
use Rattle.member_config.specs.Config.{first_config}
use Rattle.member_config.specs.declared.config.Config.{Config}
use Rattle.set_model.specs.declared.command.Event.{Event}
use Rattle.set_model.specs.declared.role.Role.TheVariants as roles
use Rattle.set_model.specs.Limits.{IsRun}
use Rattle.set_model.specs.Node.{Node, opening_node}
use Rattle.set_model.specs.Points.{next_optime}
use Rattle.set_model.specs.Run.{AreSizes, Sizes, world_at}
use Rattle.set_model.specs.Stores.{Plan}
use Rattle.set_model.specs.World.{World, Task, acts, takes, nothing, task, touched_node, plan_of, step}
use Rattle.safety_laws.specs.Logs.{NextOptimesAreLast}
use Rattle.safety_laws.proofs.Delivers.{deliveries_tied}
use Rattle.safety_laws.proofs.Opening.{get_from}
use Rattle.safety_laws.proofs.Rows.{rows_tied}
use Rattle.safety_laws.proofs.Runs.{next_of}
use Rattle.history_laws.proofs.Delivers.{deliver_goes}
use Rattle.history_laws.proofs.Holding.{Goes, Holding, PlanGoes, closed_holds, none_closed}
use Rattle.history_laws.proofs.Moves.{Came, step_came}
use Rattle.history_laws.proofs.Rows.{row_goes}

abbrev pub AreHolding : World → Type 0
AreHolding world = (number : ℕ) (node : Node) → slice_get world.nodes number ≡ Some node → Holding node

abbrev AreLast : World → Type 0
AreLast world = (number : ℕ) (node : Node) → slice_get world.nodes number ≡ Some node → node.up ≡ true → (entry : Entry) → In entry node.log → Before entry.optime (next_optime node)

module _ (world : World) (event : Event) (holds : AreHolding world) (last : AreLast world) where
  plan_goes : (what : Task) (node : Node) → slice_get world.nodes (touched_node world event.command) ≡ Some node → (plan : Plan) → plan_of world event what node ≡ Some plan → PlanGoes node plan
  plan_goes (acts n) node there plan is = subst (PlanGoes node) (same_Some _ plan is)
      (row_goes (length world.nodes) (length world.messages) event.kept node event.command (holds (touched_node world event.command) node there) (last (touched_node world event.command) node there))
  plan_goes (takes message) node there plan is = subst (PlanGoes node) (same_Some _ plan is) (deliver_goes (length world.messages) node message (holds (touched_node world event.command) node there))
  plan_goes nothing node there plan is = absurd (cc is)

  holding_came : (m : ℕ) (new : Node) → slice_get (step world event).world.nodes m ≡ Some new → Came Goes world event m new
  holding_came = step_came Goes world event (λ number node there. (holds number node there, inl refl)) (plan_goes (task world event.command))

-- the node as it was before
abbrev pub CameAt : World → ℕ → Node → Type 0
CameAt world number new = (old : Node) × (slice_get world.nodes number ≡ Some old) × Goes old new

-- ---- runs

opening_holds : (first : Config) (number : ℕ) → Holding (opening_node first number)
opening_holds first number = closed_holds roles.Secondary [] maps.empty none_closed

module _ (sizes : Sizes) (events : List Event) (are : AreSizes sizes) (is : IsRun sizes events) (next : NextOptimesAreLast sizes events) where
  came_from : (place : ℕ) → AreHolding (world_at sizes events place) → (number : ℕ) (new : Node) → slice_get (world_at sizes events (suc place)).nodes number ≡ Some new
      → CameAt (world_at sizes events place) number new
  came_from place holds number new there = elim (next_of rows_tied deliveries_tied sizes events are is place) [
    | inl same ↦ let before : slice_get (world_at sizes events place).nodes number ≡ Some new = ap (λ (w : World). slice_get w.nodes number) (sym same) ∙ there in
        (new, before, (holds number new before, inl refl))
    | inr step_is ↦ holding_came (world_at sizes events place) step_is.event holds (λ m node is_there up. next place m node (record { there = is_there; up = up })) number new
        (ap (λ (w : World). slice_get w.nodes number) (sym step_is.new_is) ∙ there)
  ]

  pub holding_at : (place : ℕ) → AreHolding (world_at sizes events place)
  holding_at zero number node there =
      subst Holding (sym (get_from (first_config sizes.voters sizes.members) 0 sizes.nodes number node there)) (opening_holds (first_config sizes.voters sizes.members) (0 + number))
  holding_at (suc place) number node there = (came_from place (holding_at place) number node there).2.0

  pub came_at : (place number : ℕ) (new : Node) → slice_get (world_at sizes events (suc place)).nodes number ≡ Some new → CameAt (world_at sizes events place) number new
  came_at place number new there = came_from place (holding_at place) number new there
