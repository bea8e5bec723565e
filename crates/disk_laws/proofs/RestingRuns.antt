-- In each world of a run a node that is down has no durable point in memory, and the nodes stay the same ones.
use Rattle.std.proofs.Common.{◌≡◌, ◌<◌, inl, inr, sym, subst, refl, arith, ℕ, zero, suc, Option, None, Some, List, [], ◌∷◌, slice_get, slice_set, length}
use Rattle.std.specs.Prelude.{option_and_then, slice_index_or}
use Rattle.std.proofs.lemmas.Option.{same_Some, slice_get-get_or}
use Rattle.member_config.specs.Config.{first_config}
use Rattle.set_model.specs.declared.command.Event.{Event}
use Rattle.set_model.specs.Limits.{IsRun}
use Rattle.set_model.specs.Node.{Node}
use Rattle.set_model.specs.Run.{AreSizes, Sizes, world_at}
use Rattle.set_model.specs.Stores.{Plan, done}
use Rattle.set_model.specs.World.{World, Task, acts, takes, nothing, task, touched_node, plan_of, by_plan, step}
use Rattle.safety_laws.specs.Bounds.{NumbersStaySmall}
use Rattle.safety_laws.proofs.Delivers.{deliveries_tied}
use Rattle.safety_laws.proofs.Opening.{get_from}
use Rattle.safety_laws.proofs.Rows.{rows_tied}
use Rattle.safety_laws.proofs.Runs.{next_of}
use Rattle.disk_laws.proofs.Resting.{PlanRests, Rests, rests_done, stays}
use Rattle.disk_laws.proofs.RestingDelivers.{deliver_rests}
use Rattle.disk_laws.proofs.RestingRows.{row_rests}

abbrev pub AreResting : List Node → Type 0
AreResting nodes = (number : ℕ) (node : Node) → slice_get nodes number ≡ Some node → Rests node

set_rests : (nodes : List Node) (at : ℕ) (new : Node) → AreResting nodes → Rests new → AreResting (slice_set nodes at new)
set_rests [] at new rests fresh m node there = rests m node there
set_rests (first ∷ nodes) zero new rests fresh zero node there = subst Rests (same_Some new node there) fresh
set_rests (first ∷ nodes) zero new rests fresh (suc m) node there = rests (suc m) node there
set_rests (first ∷ nodes) (suc at) new rests fresh zero node there = rests zero node there
set_rests (first ∷ nodes) (suc at) new rests fresh (suc m) node there = set_rests nodes at new (λ k other is. rests (suc k) other is) fresh m node there

module _ (world : World) (event : Event) (rests : AreResting world.nodes) where
  at_plan : (plan : Plan) → PlanRests plan → AreResting (by_plan world event (Some plan)).world.nodes
  at_plan plan ends = set_rests world.nodes (touched_node world event.command) (done plan event.failed).node rests (rests_done plan event.failed ends)

  at_task : (what : Task) (node : Node) → Rests node → AreResting (by_plan world event (plan_of world event what node)).world.nodes
  at_task (acts n) node has = at_plan _ (row_rests (length world.nodes) (length world.messages) event.kept node event.command has)
  at_task (takes message) node has = at_plan _ (deliver_rests (length world.messages) node message has)
  at_task nothing node has = rests

  step_rests : AreResting (step world event).world.nodes
  step_rests = at_node (slice_get world.nodes (touched_node world event.command)) refl
    where
      at_node : (found : Option Node) → slice_get world.nodes (touched_node world event.command) ≡ found
          → AreResting (by_plan world event (option_and_then (plan_of world event (task world event.command)) found)).world.nodes
      at_node None there = rests
      at_node (Some node) there = at_task (task world event.command) node (rests (touched_node world event.command) node there)

module _ (sizes : Sizes) (events : List Event) (are : AreSizes sizes) (is : IsRun sizes events) where
  pub rests_at : (place : ℕ) → AreResting (world_at sizes events place).nodes
  rests_at zero = λ number node there. subst Rests (sym (get_from (first_config sizes.voters sizes.members) 0 sizes.nodes number node there)) (stays _ refl)
  rests_at (suc place) = elim (next_of rows_tied deliveries_tied sizes events are is place) [
    | inl same ↦ subst (λ (w : World). AreResting w.nodes) (sym same) (rests_at place)
    | inr step_is ↦ subst (λ (w : World). AreResting w.nodes) (sym step_is.new_is) (step_rests (world_at sizes events place) step_is.event (rests_at place))
  ]

-- a node of one world is there in each
pub still_there : (sizes : Sizes) (events : List Event) → NumbersStaySmall sizes events → (i j number : ℕ) (node : Node) → slice_get (world_at sizes events i).nodes number ≡ Some node
    → (other : Node) × (slice_get (world_at sizes events j).nodes number ≡ Some other)
still_there sizes events small i j number node there =
    let known : number < sizes.nodes = (small.nodes i number node there).known in
    let count : length (world_at sizes events j).nodes ≡ sizes.nodes = small.count j in
    (slice_index_or (world_at sizes events j).nodes number node, slice_get-get_or (world_at sizes events j).nodes number node (omega (arith, known, count)))
