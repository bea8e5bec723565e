-- A plan in code: what a command or a message does at a node, and how it goes on after something is stored.
use Rattle.std.specs.Prelude.{◌≡◌, List, None, Some}
use Rattle.repl_msg.specs.declared.message.Message.{Message}
use Rattle.set_model.specs.declared.reply.Reply.{Reply}
use Rattle.set_model.specs.declared.reply.Reply.TheVariants as reply
use Rattle.set_model.specs.Node.{Node}
use Rattle.set_model.specs.Changes.{in_new_term, installed}
use Rattle.set_model.specs.Disk.{flushed}
use Rattle.set_model.specs.Elections.{campaigned, candidate, drained, primary_begun}
use Rattle.set_model.specs.Outcome.{replied}
use Rattle.set_model.specs.Reconfig.{reconfigured}
use Rattle.set_model.specs.Stores.{Plan, finished, storing, in_doubt, stored}
use Rattle.set_model.specs.Votes.{vote_answered, vote_for}
use Rattle.node_state.specs.MessageContinuation.{message_plan, heard_outcome, cut_outcome}
use Rattle.node_state.specs.declared.turn.Continuation.{Continuation}
use Rattle.node_state.specs.declared.turn.Continuation.TheVariants.{Campaign, Drain, Flush, Checkpoint, Reconfig, VoteInTerm, VoteGiven, TookTerm, Installed, Cut}
use Rattle.node_state.specs.declared.turn.Turn.{Turn}
use Rattle.node_state.specs.declared.turn.Turn.TheVariants.{Finished, Storing}

-- what the rest of a row does at a node that has stored this
abbrev pub rest_of : Continuation → Node → Plan
rest_of (Campaign next tally sent) node = finished (campaigned next (candidate node))
rest_of (Drain config) node = finished (primary_begun (drained node))
rest_of (Flush count point) node = finished (replied (reply.Flushed count point) (flushed node point))
rest_of (Checkpoint at) node = finished (replied (reply.Checkpoint at) node)
rest_of (Reconfig config) node = finished (reconfigured node config)
rest_of (VoteInTerm next from ask why sent) node =
    vote_answered next from ask why (in_new_term node ask.asked (vote_for from why))
rest_of (VoteGiven next from ask why sent) node =
    vote_answered next from ask why (record node { vote = Some from })
rest_of (TookTerm term told) node = message_plan told (in_new_term node term None)
rest_of (Installed config hearing) node = finished (heard_outcome hearing (installed node config))
rest_of (Cut point removed lost) node = finished (cut_outcome point removed lost node)

-- a turn is a plan at a node: it is finished there, or it stores something and then continues
abbrev pub Means : Turn → Node → Plan → Type 0
Means (Finished answer sent) node plan =
    plan ≡ finished (record { reply = answer; node = node; sent = sent.items })
Means (Storing item then) node plan = plan ≡ storing (in_doubt node item) (rest_of then (stored node item))

-- a turn that is finished, with this reply and these messages
abbrev pub FinishesWith : Turn → Reply → List Message → Type 0
FinishesWith (Finished answer sent) said messages = (answer ≡ said) × (sent.items ≡ messages)
FinishesWith (Storing item then) said messages = ⊥
