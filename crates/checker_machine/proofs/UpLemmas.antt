-- What a command does at a node that is down.
use Rattle.std.proofs.Common.{◌≡◌, ℕ, Bool, true, false, cond, Option, ap, refl, subst, sym}
use Rattle.set_model.specs.declared.command.Command.TheVariants.{Deliver, DeliverLatest, Restart, DiskFail, Clock}
use Rattle.set_model.specs.declared.command.Command.{Command}
use Rattle.set_model.specs.declared.reply.Refusal.TheVariants.{NodeDown}
use Rattle.set_model.specs.Node.{Node}
use Rattle.set_model.specs.Outcome.{refused}
use Rattle.set_model.specs.Rows.{row}
use Rattle.set_model.specs.Stores.{Plan, finished, if_up}
use Rattle.checker_node.specs.declared.answer.Answer.{Answer}
use Rattle.checker_node.specs.Done.{Answers, Does}
use Rattle.checker_machine.specs.Plain.{is_up_only}

by_up : (node : Node) (plan : Plan) (up : Bool) → node.up ≡ up → if_up node plan ≡ cond up plan (finished (refused NodeDown node))
by_up node plan up is = ap (λ b. cond b plan (finished (refused NodeDown node))) is

-- a node that is down refuses all but a few commands
row_down : (nodes next : ℕ) (there : Bool) (node : Node) (command : Command) → is_up_only command ≡ true → node.up ≡ false
    → row nodes next there node command ≡ finished (refused NodeDown node)
row_down nodes next there node (Deliver message) only down = absurd (cc only)
row_down nodes next there node (DeliverLatest from to) only down = absurd (cc only)
row_down nodes next there node (Restart number) only down = absurd (cc only)
row_down nodes next there node (DiskFail number disk call pick) only down = absurd (cc only)
row_down nodes next there node (Clock number seconds) only down = absurd (cc only)
row_down nodes next there node _ only down = by_up node _ false down

pub does_down : (nodes next : ℕ) (there : Bool) (node : Node) (command : Command) (failed : Option ℕ) (answer : Answer) → is_up_only command ≡ true → node.up ≡ false
    → Answers (refused NodeDown node) answer node → Does (row nodes next there node command) failed failed answer node
does_down nodes next there node command failed answer only down is =
    subst (λ (p : Plan). Does p failed failed answer node) (sym (row_down nodes next there node command only down)) (record { outcome = is; left_is = refl })
