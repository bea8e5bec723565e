-- A node that is down has no durable point in memory.
use Rattle.std.proofs.Common.{◌≡◌, refl, ℕ, zero, suc, Bool, true, false, Option, None, Some, if◌then◌else◌}
use Rattle.oplog_entry.specs.Visible.{ZERO}
use Rattle.set_model.specs.declared.reply.Refusal.{Refusal}
use Rattle.set_model.specs.declared.reply.Refusal.TheVariants.{NodeDown}
use Rattle.set_model.specs.declared.store.Store.{Store}
use Rattle.set_model.specs.Node.{Node}
use Rattle.set_model.specs.Outcome.{Outcome, refused}
use Rattle.set_model.specs.Stores.{Plan, finished, storing, done, if_up, in_doubt, unless_refused}

pub record Rests (node : Node) : Type 0 where
  pub blank : node.up ≡ false → node.durable ≡ ZERO

pub stays : (node : Node) → node.up ≡ true → Rests node
stays node up = record { blank = λ down. absurd (cc (up, down)) }

pub breaks : (node : Node) (store : Store) → Rests (in_doubt node store)
breaks node store = record { blank = λ down. refl }

-- wherever the plan ends
abbrev pub PlanRests : Plan → Type 0
PlanRests (finished outcome) = Rests outcome.node
PlanRests (storing broken rest) = Rests broken × PlanRests rest

pub rests_done : (plan : Plan) (failed : Option ℕ) → PlanRests plan → Rests (done plan failed).node
rests_done (finished outcome) failed rests = rests
rests_done (storing broken rest) None rests = rests_done rest None rests.1
rests_done (storing broken rest) (Some zero) rests = rests.0
rests_done (storing broken rest) (Some (suc number)) rests = rests_done rest (Some number) rests.1

pub plan_if : (test : Bool) (one two : Plan) → PlanRests one → PlanRests two → PlanRests (if test then one else two)
plan_if true one two first second = first
plan_if false one two first second = second

pub end_if : (test : Bool) (one two : Outcome) → Rests one.node → Rests two.node → Rests (if test then one else two).node
end_if true one two first second = first
end_if false one two first second = second

pub plan_unless : (node : Node) (why : Option Refusal) (plan : Plan) → Rests node → PlanRests plan → PlanRests (unless_refused why node plan)
plan_unless node (Some why) plan first second = first
plan_unless node None plan first second = second

pub plan_up : (node : Node) (plan : Plan) → Rests node → (node.up ≡ true → PlanRests plan) → PlanRests (if_up node plan)
plan_up node plan rests ends = go node.up refl
  where
    go : (up : Bool) → node.up ≡ up → PlanRests (if up then plan else finished (refused NodeDown node))
    go true is = ends is
    go false is = rests
