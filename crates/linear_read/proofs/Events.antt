-- What the replies to a note and to an acknowledgement at majority say about the node.
use Rattle.std.proofs.Common.{◌≡◌, ◌∙◌, ap, sym, subst, refl, ℕ, Bool, true, false, not, ◌==◌, eqb-true, if◌then◌else◌, Option, None, Some, Result, Ok, Err, slice_get, length, []}
use Rattle.std.proofs.lemmas.Bool.{not-false}
use Rattle.std.specs.Prelude.{option_and_then}
use Rattle.rs_optime.specs.Order.{AtMost, is_before}
use Rattle.rs_optime.specs.declared.optime.OpTime.{OpTime}
use Rattle.oplog_entry.specs.declared.entry.Op.TheVariants.{Note}
use Rattle.member_config.specs.Voters.{voters, majority}
use Rattle.set_model.specs.declared.command.AckConcern.TheVariants as concerns
use Rattle.set_model.specs.declared.command.Command.{Command}
use Rattle.set_model.specs.declared.command.Event.{Event}
use Rattle.set_model.specs.declared.command.Target.{Target}
use Rattle.set_model.specs.declared.reply.Refusal.{Refusal}
use Rattle.set_model.specs.declared.reply.Refusal.TheVariants.{NodeDown, NotPrimary, SteppedDown, NoSuchWriter, Waiting}
use Rattle.set_model.specs.declared.reply.Reply.{Reply}
use Rattle.set_model.specs.declared.reply.Reply.TheVariants as reply
use Rattle.set_model.specs.declared.role.Role.{Role}
use Rattle.set_model.specs.declared.role.Role.TheVariants as roles
use Rattle.set_model.specs.Changes.{logged}
use Rattle.set_model.specs.Concerns.{ack, ack_at, acked, ack_refusal, held, target_point}
use Rattle.set_model.specs.Node.{Node}
use Rattle.set_model.specs.Outcome.{Outcome, refused}
use Rattle.set_model.specs.Points.{has_entry, if_primary, next_optime}
use Rattle.set_model.specs.Roles.{is_primary}
use Rattle.set_model.specs.Rows.{row, up_only}
use Rattle.set_model.specs.Safety.{is_refusal}
use Rattle.set_model.specs.Stores.{Plan}
use Rattle.set_model.specs.World.{World, acts, by_plan, plan_of, step, task, touched_node}
use Rattle.set_model.specs.Write.{note}
use Rattle.safety_laws.proofs.Places.{get_set_same}
use Rattle.safety_laws.proofs.Reconfigs.{primary_role}
use Rattle.safety_laws.proofs.Voters.{unless_some}

-- ---- a command that stores nothing

-- a node that was up did this, and answered so
pub record Did (world new : World) (number : ℕ) (does : Node → Outcome) (answer : Reply) : Type 0 where
  pub node : Node
  pub before : slice_get world.nodes number ≡ Some node
  pub up : node.up ≡ true
  pub next : slice_get new.nodes number ≡ Some (does node).node
  pub told : (does node).reply ≡ answer

module _ (world : World) (event : Event) (command : Command) (own : ℕ) (does : Node → Outcome) (answer : Reply) (asks : event.command ≡ command) (acts_is : task world command ≡ acts own)
    (row_is : (node : Node) → row (length world.nodes) (length world.messages) event.kept node command ≡ up_only node (does node)) (taken : is_refusal answer ≡ false) where
  abbrev number : ℕ
  number = touched_node world event.command

  abbrev by : Node → Option Plan
  by node = plan_of world event (task world event.command) node

  by_is : (node : Node) → by node ≡ Some (up_only node (does node))
  by_is node =
      ap (λ c. plan_of world event (task world c) node) asks ∙ ap (λ t. plan_of world event t node) acts_is
      ∙ ap (λ c. Some (row (length world.nodes) (length world.messages) event.kept node c)) asks ∙ ap (λ p. Some p) (row_is node)

  by_up : (node : Node) → slice_get world.nodes number ≡ Some node → (up : Bool) → node.up ≡ up
      → (by_plan world event (Some (if up then Plan.finished (does node) else Plan.finished (refused NodeDown node)))).reply ≡ answer
      → Did world (by_plan world event (Some (if up then Plan.finished (does node) else Plan.finished (refused NodeDown node)))).world number does answer
  by_up node there false up told = absurd (cc (ap is_refusal told, taken))
  by_up node there true up told = record { node = node; before = there; up = up; next = get_set_same world.nodes number _ node there; told = told }

  at_node : (found : Option Node) → slice_get world.nodes number ≡ found → (by_plan world event (option_and_then by found)).reply ≡ answer
      → Did world (by_plan world event (option_and_then by found)).world number does answer
  at_node None there told = absurd (cc (ap is_refusal told, taken))
  at_node (Some node) there told =
      subst (λ p. Did world (by_plan world event p).world number does answer) (sym (by_is node))
      (by_up node there node.up refl (subst (λ p. (by_plan world event p).reply ≡ answer) (by_is node) told))

  pub did : (step world event).reply ≡ answer → Did world (step world event).world (touched_node world event.command) does answer
  did told = at_node (slice_get world.nodes number) refl told

-- ---- a note

-- a primary wrote a note at its next optime
pub record Noted (node new : Node) (at : OpTime) : Type 0 where
  pub primary : node.role ≡ roles.Primary
  pub at_is : next_optime node ≡ at
  pub new_is : new ≡ logged node Note None

pub noted : (node : Node) (at : OpTime) → (note node).reply ≡ reply.Written at → Noted node (note node).node at
noted node at told = go node.role refl told
  where
    outcome : Role → Outcome
    outcome role = if_primary role (record { reply = reply.Written (next_optime node); node = logged node Note None; sent = [] }) (refused NotPrimary node)

    go : (role : Role) → node.role ≡ role → (outcome role).reply ≡ reply.Written at → Noted node (outcome role).node at
    go roles.Primary is told = let same : next_optime node ≡ at = cc told in record { primary = is; at_is = same; new_is = refl }
    go roles.Secondary is told = absurd (cc told)
    go roles.Candidate is told = absurd (cc told)
    go roles.Draining is told = absurd (cc told)

-- ---- an acknowledgement at majority

-- a primary has the optime in its log, of its term, and at or before its commit point
pub record Acked (node new : Node) (at : OpTime) : Type 0 where
  pub primary : node.role ≡ roles.Primary
  pub term_is : at.term ≡ node.term
  pub has : has_entry node.log at ≡ true
  pub within : AtMost at node.commit
  pub new_is : new ≡ node

acked_at : (one two : OpTime) → reply.Acked one ≡ reply.Acked two → one ≡ two
acked_at one two same = cc same

pub acked_majority : (node : Node) (target : Target) (at : OpTime) → (ack node target concerns.Majority).reply ≡ reply.Acked at → Acked node (ack node target concerns.Majority).node at
acked_majority node target at told = go (target_point node target) told
  where
    all_met : (o : OpTime) → ack_refusal node o concerns.Majority ≡ None → Acked node node o
    all_met o none =
        let one : (not (is_primary node.role) ≡ false) × _ = unless_some (not (is_primary node.role)) NotPrimary _ none in
        let two : (not (o.term == node.term) ≡ false) × _ = unless_some (not (o.term == node.term)) (SteppedDown o.term) _ one.1 in
        let three : (not (has_entry node.log o) ≡ false) × _ = unless_some (not (has_entry node.log o)) NoSuchWriter _ two.1 in
        let four : (is_before node.commit o ≡ false) × _ = unless_some (is_before node.commit o) (Waiting (held node o (voters node.config)) (majority node.config)) None three.1 in
        record {
          primary = primary_role node.role (not-false (is_primary node.role) one.0);
          term_is = eqb-true o.term node.term (not-false (o.term == node.term) two.0);
          has = not-false (has_entry node.log o) three.0;
          within = four.0;
          new_is = refl;
        }

    met : (o : OpTime) (why : Option Refusal) → ack_refusal node o concerns.Majority ≡ why → (acked node o why).reply ≡ reply.Acked at → Acked node (acked node o why).node at
    met o (Some why) is told = absurd (cc told)
    met o None is told = subst (λ p. Acked node node p) (acked_at o at told) (all_met o is)

    go : (found : Result OpTime Refusal) → (ack_at node concerns.Majority found).reply ≡ reply.Acked at → Acked node (ack_at node concerns.Majority found).node at
    go (Err why) told = absurd (cc told)
    go (Ok o) told = met o (ack_refusal node o concerns.Majority) refl told
