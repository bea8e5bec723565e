-- What the two events of a call show.
use Rattle.std.specs.Prelude.{◌≡◌, ◌<◌, ℕ, List, Option, None, Some, slice_get}
use Rattle.rs_optime.specs.declared.optime.OpTime.{OpTime}
use Rattle.oplog_entry.specs.declared.entry.Entry.{Entry}
use Rattle.set_model.specs.declared.command.Command.{Command}
use Rattle.set_model.specs.declared.command.Command.TheVariants as commands
use Rattle.set_model.specs.declared.command.Event.{Event}
use Rattle.set_model.specs.declared.reply.Reply.{Reply}
use Rattle.set_model.specs.declared.reply.Reply.TheVariants as reply
use Rattle.set_model.specs.Run.{Sizes}
use Rattle.set_model.specs.Safety.{reply_to}
use Rattle.change_stream.specs.Calls.{Call}

-- the term and the commit point of a node's state
abbrev pub shown_state : Reply → Option (ℕ × OpTime)
shown_state (reply.State role term vote last durable applied commit config rollback) = Some (term, commit)
shown_state _ = None

-- the entries of a log
abbrev pub shown_log : Reply → Option (List Entry)
shown_log (reply.Entries log) = Some log
shown_log _ = None

module _ (sizes : Sizes) (events : List Event) where
  -- the event after a place has this command and this reply
  pub record IsAnswered (place : ℕ) (command : Command) (answer : Reply) : Type 0 where
    pub event : Event
    pub there : slice_get events place ≡ Some event
    pub command_is : event.command ≡ command
    pub reply_is : reply_to sizes events place event ≡ answer

  -- the node was asked for its state, and later for its log
  pub record Shows (call : Call) : Type 0 where
    pub first : ℕ
    pub second : ℕ
    pub order : first < second
    pub state : Reply
    pub state_is : shown_state state ≡ Some (call.term, call.commit)
    pub asked : IsAnswered first (commands.State call.node) state
    pub read : IsAnswered second (commands.Log call.node) (reply.Entries call.log)
