-- A plan wherever it ends, by cases.
use Rattle.std.proofs.Common.{◌≡◌, refl, ℕ, zero, suc, Bool, true, false, Option, None, Some, if◌then◌else◌}
use Rattle.set_model.specs.declared.reply.Refusal.{Refusal}
use Rattle.set_model.specs.Node.{Node}
use Rattle.set_model.specs.Outcome.{Outcome}
use Rattle.set_model.specs.Stores.{Plan, finished, storing, done, if_up, unless_refused}

module _ (P : Node → Type 0) where
  -- this is true of the node wherever the plan ends
  abbrev pub PlanEnds : Plan → Type 0
  PlanEnds (finished outcome) = P outcome.node
  PlanEnds (storing broken rest) = P broken × PlanEnds rest

  pub ends_done : (plan : Plan) (failed : Option ℕ) → PlanEnds plan → P (done plan failed).node
  ends_done (finished outcome) failed ends = ends
  ends_done (storing broken rest) None ends = ends_done rest None ends.1
  ends_done (storing broken rest) (Some zero) ends = ends.0
  ends_done (storing broken rest) (Some (suc number)) ends = ends_done rest (Some number) ends.1

  pub plan_if : (test : Bool) (one two : Plan) → (test ≡ true → PlanEnds one) → (test ≡ false → PlanEnds two) → PlanEnds (if test then one else two)
  plan_if true one two if_true if_false = if_true refl
  plan_if false one two if_true if_false = if_false refl

  pub end_if : (test : Bool) (one two : Outcome) → (test ≡ true → P one.node) → (test ≡ false → P two.node) → P (if test then one else two).node
  end_if true one two if_true if_false = if_true refl
  end_if false one two if_true if_false = if_false refl

  pub plan_unless : (node : Node) (why : Option Refusal) (plan : Plan) → P node → PlanEnds plan → PlanEnds (unless_refused why node plan)
  plan_unless node (Some why) plan stays ends = stays
  plan_unless node None plan stays ends = ends

  pub plan_up : (node : Node) (plan : Plan) → P node → (node.up ≡ true → PlanEnds plan) → PlanEnds (if_up node plan)
  plan_up node plan stays ends = plan_if node.up plan _ ends (λ is. stays)
