-- Turns that finish at once.
use Rattle.std.proofs.Common.{◌≡◌, true, cond, ap, []}
use Rattle.set_model.specs.declared.reply.Reply.{Reply}
use Rattle.set_model.specs.declared.reply.Refusal.TheVariants.{NodeDown}
use Rattle.set_model.specs.Node.{Node}
use Rattle.set_model.specs.Outcome.{replied, refused}
use Rattle.set_model.specs.Stores.{Plan, finished, if_up}
use Rattle.node_state.specs.declared.turn.Turn.{Turn}
use Rattle.node_state.specs.declared.turn.Turn.TheVariants.{Finished, Storing}
use Rattle.node_state.specs.Turns.{Means, FinishesWith}

-- what a command does at a node that is up
pub while_up : (node : Node) (plan : Plan) → node.up ≡ true → if_up node plan ≡ plan
while_up node plan up = ap (λ b. cond b plan (finished (refused NodeDown node))) up

-- a turn that does what a plan does
pub says_means : (turn : Turn) (reply : Reply) (node : Node) (plan : Plan) → FinishesWith turn reply [] → plan ≡ finished (replied reply node) → Means turn node plan
says_means (Finished answer sent) reply node plan says is = cc
says_means (Storing item then) reply node plan says is = absurd says
