-- What the steps of a run leave of each node's points.
use Rattle.std.proofs.Common.{◌≡◌, ◌∙◌, inl, inr, ap, sym, subst, refl, arith, ℕ, suc, ◌<◌, true, Some, List, [], ◌∷◌, slice_get, length}
use Rattle.std.proofs.lemmas.Option.{same_Some}
use Rattle.std.specs.Prelude.{Contains}
use Rattle.rs_optime.specs.Membership.{In}
use Rattle.rs_optime.specs.Order.{AtMost}
use Rattle.rs_optime.specs.declared.optime.OpTime.{OpTime}
use Rattle.oplog_entry.specs.Visible.{last_of}
use Rattle.oplog_entry.proofs.Optimes.{zero_at_most}
use Rattle.repl_msg.specs.declared.message.Message.{Message}
use Rattle.set_model.specs.declared.command.Event.{Event}
use Rattle.set_model.specs.Deliver.{termed}
use Rattle.set_model.specs.Limits.{IsRun}
use Rattle.set_model.specs.Node.{Node}
use Rattle.set_model.specs.Run.{AreSizes, Sizes, world_at}
use Rattle.set_model.specs.Safety.{IsAt, RollbacksKeep}
use Rattle.set_model.specs.Stores.{Plan}
use Rattle.set_model.specs.World.{World, Task, acts, takes, nothing, actor, task, touched_node, plan_of, step}
use Rattle.commit_machine.proofs.Lists.{at_most_last}
use Rattle.safety_laws.proofs.Delivers.{deliveries_tied}
use Rattle.safety_laws.proofs.Frame.{task_sent}
use Rattle.safety_laws.proofs.Rel.{IsUp, snapshot_of}
use Rattle.safety_laws.proofs.Rows.{rows_tied}
use Rattle.safety_laws.proofs.Runs.{had_of, kept_of, next_of, up_of}
use Rattle.history_laws.proofs.Moves.{Came, step_came}
use Rattle.history_laws.proofs.Plans.{PlanEnds}
use Rattle.history_laws.proofs.PointDelivers.{GoesBackTo, deliver_goes}
use Rattle.history_laws.proofs.PointRows.{row_goes}
use Rattle.history_laws.proofs.PointSteps.{itself_goes}
use Rattle.history_laws.proofs.Points.{Goes}
use Rattle.history_laws.proofs.Seen.{has_seen}

sent_among : (messages : List Message) (message : Message) → In message messages → Contains messages message
sent_among [] message there = absurd there
sent_among (first ∷ messages) message (inl same) = (0, omega arith, same)
sent_among (first ∷ messages) message (inr there) =
    let rest : Contains messages message = sent_among messages message there in
    let within : rest.0 < length messages = rest.1 in
    (suc rest.0, omega (arith, within), rest.2)

abbrev AreTop : World → Type 0
AreTop world = (number : ℕ) (node : Node) → slice_get world.nodes number ≡ Some node → node.up ≡ true → AtMost node.commit (last_of node.log)

abbrev GoBack : World → Type 0
GoBack world = (number : ℕ) (node : Node) (message : Message) → slice_get world.nodes number ≡ Some node → node.up ≡ true → In message world.messages → message.to ≡ number
    → GoesBackTo node.commit (termed node message) message.term message.body

module _ (world : World) (event : Event) (top : AreTop world) (back : GoBack world) where
  plan_goes : (what : Task) → what ≡ task world event.command → (node : Node) → slice_get world.nodes (touched_node world event.command) ≡ Some node → (plan : Plan) → plan_of world event what node ≡ Some plan
      → PlanEnds (Goes node) plan
  plan_goes (acts n) what_is node there plan is = subst (PlanEnds (Goes node)) (same_Some _ plan is)
      (row_goes (length world.nodes) (length world.messages) event.kept node event.command (top (touched_node world event.command) node there))
  plan_goes (takes message) what_is node there plan is = subst (PlanEnds (Goes node)) (same_Some _ plan is)
      (deliver_goes (length world.messages) node message (top (touched_node world event.command) node there)
      (λ up. back (touched_node world event.command) node message there up (task_sent world event.command message (sym what_is)) (taken_by message what_is)))
    where
      taken_by : (message : Message) → takes message ≡ task world event.command → message.to ≡ touched_node world event.command
      taken_by message is = ap actor is
  plan_goes nothing what_is node there plan is = absurd (cc is)

  pub points_came : (m : ℕ) (new : Node) → slice_get (step world event).world.nodes m ≡ Some new → Came Goes world event m new
  points_came = step_came Goes world event (λ number node there. itself_goes node) (plan_goes (task world event.command) refl)

-- the node as it was before
abbrev pub CameAt : World → ℕ → Node → Type 0
CameAt world number new = (old : Node) × (slice_get world.nodes number ≡ Some old) × Goes old new

module _ (sizes : Sizes) (events : List Event) (are : AreSizes sizes) (is : IsRun sizes events) (rollbacks : RollbacksKeep sizes events) where
  -- a commit point is no later than the end of the log
  pub within : (place number : ℕ) (node : Node) → IsAt sizes events place number node → AtMost node.commit (last_of node.log)
  within place number node at =
      let up : IsUp _ node = (up_of rows_tied deliveries_tied sizes events are is place number node at).1 in
      elim ((kept_of rows_tied deliveries_tied sizes events are is place).points number (snapshot_of node) (had_of rows_tied deliveries_tied sizes events are is place place number node at (omega arith))).commit [
        | inl zero_is ↦ subst (λ (o : OpTime). AtMost o (last_of node.log)) (sym zero_is) (zero_at_most (last_of node.log))
        | inr has ↦ at_most_last node.commit node.log up.log.rises (has_seen node node.commit has)
      ]

  goes_back : (place : ℕ) → GoBack (world_at sizes events place)
  goes_back place number node message there up sent to after optimes visible body none =
      (rollbacks place number node message after optimes visible (record { there = there; up = up }) (sent_among (world_at sizes events place).messages message sent) to body none place node (omega arith) there).0

  pub points_at : (place number : ℕ) (new : Node) → slice_get (world_at sizes events (suc place)).nodes number ≡ Some new → CameAt (world_at sizes events place) number new
  points_at place number new there = elim (next_of rows_tied deliveries_tied sizes events are is place) [
    | inl same ↦ (new, ap (λ (w : World). slice_get w.nodes number) (sym same) ∙ there, itself_goes new)
    | inr step_is ↦ points_came (world_at sizes events place) step_is.event (λ m node is_there up. within place m node (record { there = is_there; up = up })) (goes_back place) number new
        (ap (λ (w : World). slice_get w.nodes number) (sym step_is.new_is) ∙ there)
  ]
