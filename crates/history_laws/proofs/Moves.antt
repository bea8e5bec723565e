-- One event: each node came from the one of its number, by what its plan does or not at all.
use Rattle.std.proofs.Common.{◌≡◌, ◌∙◌, inl, inr, ap, sym, subst, refl, ℕ, Option, None, Some, slice_get, slice_set}
use Rattle.std.proofs.lemmas.Bool.{cases_eq}
use Rattle.std.proofs.lemmas.Option.{same_Some}
use Rattle.std.specs.Prelude.{option_and_then}
use Rattle.set_model.specs.declared.command.Event.{Event}
use Rattle.set_model.specs.Node.{Node}
use Rattle.set_model.specs.Outcome.{Outcome}
use Rattle.set_model.specs.Stores.{Plan, done}
use Rattle.set_model.specs.World.{World, task, touched_node, plan_of, by_plan, step}
use Rattle.safety_laws.proofs.Places.{get_set_same, get_set_other}
use Rattle.history_laws.proofs.Plans.{PlanEnds, ends_done}

module _ (P : Node → Node → Type 0) (world : World) (event : Event) where
  -- the node as it was before
  abbrev pub Came : ℕ → Node → Type 0
  Came number new = (old : Node) × (slice_get world.nodes number ≡ Some old) × P old new

  abbrev touched : ℕ
  touched = touched_node world event.command

  abbrev by : Node → Option Plan
  by node = plan_of world event (task world event.command) node

  module _ (itself : (number : ℕ) (node : Node) → slice_get world.nodes number ≡ Some node → P node node)
      (plans : (node : Node) → slice_get world.nodes touched ≡ Some node → (plan : Plan) → by node ≡ Some plan → PlanEnds (P node) plan) where
    stays : (number : ℕ) (node : Node) → slice_get world.nodes number ≡ Some node → Came number node
    stays number node there = (node, there, itself number node there)

    moved : (node : Node) (outcome : Outcome) → slice_get world.nodes touched ≡ Some node → P node outcome.node
        → (m : ℕ) (new : Node) → slice_get (slice_set world.nodes touched outcome.node) m ≡ Some new → Came m new
    moved node outcome there ends m new is = elim (cases_eq touched m) [
      | inl same ↦
          let new_is : outcome.node ≡ new =
          same_Some outcome.node new (sym (get_set_same world.nodes touched outcome.node node there) ∙ ap (λ k. slice_get (slice_set world.nodes touched outcome.node) k) same ∙ is) in
          (node, ap (λ k. slice_get world.nodes k) (sym same) ∙ there, subst (λ n. P node n) new_is ends)
      | inr other ↦ stays m new (sym (get_set_other world.nodes touched m outcome.node other) ∙ is)
    ]

    at_plan : (node : Node) → slice_get world.nodes touched ≡ Some node → (plan : Option Plan) → by node ≡ plan
        → (m : ℕ) (new : Node) → slice_get (by_plan world event plan).world.nodes m ≡ Some new → Came m new
    at_plan node there None is m new is_new = stays m new is_new
    at_plan node there (Some plan) is m new is_new = moved node (done plan event.failed) there (ends_done (P node) plan event.failed (plans node there plan is)) m new is_new

    at_node : (found : Option Node) → slice_get world.nodes touched ≡ found → (m : ℕ) (new : Node) → slice_get (by_plan world event (option_and_then by found)).world.nodes m ≡ Some new → Came m new
    at_node None there m new is_new = stays m new is_new
    at_node (Some node) there m new is_new = at_plan node there (by node) refl m new is_new

    pub step_came : (m : ℕ) (new : Node) → slice_get (step world event).world.nodes m ≡ Some new → Came m new
    step_came m new is_new = at_node (slice_get world.nodes touched) refl m new is_new
