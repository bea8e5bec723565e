-- What the reply to the event after a place says about the node.
use Rattle.std.proofs.Common.{◌≡◌, ◌∙◌, ap, sym, refl, ℕ, suc, None, Some, List, slice_get}
use Rattle.rs_optime.specs.declared.optime.OpTime.{OpTime}
use Rattle.oplog_entry.specs.declared.entry.Entry.{Entry}
use Rattle.oplog_entry.specs.declared.entry.Op.TheVariants.{Note}
use Rattle.oplog_store.specs.Log.{with_entry}
use Rattle.set_model.specs.declared.command.Command.TheVariants as commands
use Rattle.set_model.specs.declared.command.Event.{Event}
use Rattle.set_model.specs.declared.reply.Reply.{Reply}
use Rattle.set_model.specs.declared.reply.Reply.TheVariants as reply
use Rattle.set_model.specs.Changes.{logged}
use Rattle.set_model.specs.Node.{Node}
use Rattle.set_model.specs.Outcome.{Outcome}
use Rattle.set_model.specs.Points.{next_optime}
use Rattle.set_model.specs.Roles.{is_leading}
use Rattle.set_model.specs.Run.{Sizes, opening, world_at}
use Rattle.set_model.specs.Safety.{Answers, IsAt, Leads}
use Rattle.set_model.specs.World.{World, step, touched_node}
use Rattle.set_model.specs.Write.{note}
use Rattle.safety_laws.proofs.Frame.{world_next}
use Rattle.linear_read.specs.Linear.{Asks}
use Rattle.linear_read.proofs.Events.{Did, Noted, did, noted}

module _ (sizes : Sizes) (events : List Event) where
  -- a node that was up, and what it did
  pub record DidAt (place number : ℕ) (does : Node → Outcome) (answer : Reply) : Type 0 where
    pub node : Node
    pub before : IsAt sizes events place number node
    pub next : slice_get (world_at sizes events (suc place)).nodes number ≡ Some (does node).node
    pub told : (does node).reply ≡ answer

  pub did_at : (place number : ℕ) (event : Event) (does : Node → Outcome) (answer : Reply) → Answers sizes events place number event answer
      → Did (world_at sizes events place) (step (world_at sizes events place) event).world (touched_node (world_at sizes events place) event.command) does answer → DidAt place number does answer
  did_at place number event does answer answers done = record {
    node = done.node;
    before = record { there = ap (λ v. slice_get (world_at sizes events place).nodes v) (sym answers.touches) ∙ done.before; up = done.up };
    next = ap (λ (w : World). slice_get w.nodes number) (world_next (opening sizes) events place event answers.event_is)
        ∙ ap (λ v. slice_get (step (world_at sizes events place) event).world.nodes v) (sym answers.touches) ∙ done.next;
    told = done.told;
  }

  -- ---- what a note tells

  pub record NotedAt (place number : ℕ) (at : OpTime) : Type 0 where
    pub old : Node
    pub new : Node
    pub entry : Entry
    pub before : Leads sizes events place number at.term old
    pub next : IsAt sizes events (suc place) number new
    pub more : new.log ≡ with_entry old.log entry
    pub at_is : entry.optime ≡ at
    pub next_is : next_optime old ≡ at

  pub noted_at : (place number : ℕ) (at : OpTime) → Asks sizes events place number (commands.Note number) (reply.Written at) → NotedAt place number at
  noted_at place number at asks =
      let there : DidAt place number note (reply.Written at) =
      did_at place number asks.event note (reply.Written at) asks.answers
      (did (world_at sizes events place) asks.event (commands.Note number) number note (reply.Written at) asks.command_is refl (λ n. refl) refl asks.answers.reply_is) in
      let tells : Noted there.node (note there.node).node at = noted there.node at there.told in
      record {
        old = there.node;
        new = logged there.node Note None;
        entry = record { optime = next_optime there.node; op = Note; session = None };
        before = record { at = there.before; term_is = ap (λ (o : OpTime). o.term) tells.at_is; role = ap is_leading tells.primary };
        next = record { there = there.next ∙ ap (λ n. Some n) tells.new_is; up = there.before.up };
        more = refl;
        at_is = tells.at_is;
        next_is = tells.at_is;
      }
