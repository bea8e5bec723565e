-- What a command or a message does, if one of its stores may fail.
use Rattle.std.specs.Prelude.{◌≡◌, ℕ, zero, suc, List, Option, None, Some}
use Rattle.repl_msg.specs.declared.message.Message.{Message}
use Rattle.set_model.specs.declared.reply.Reply.{Reply}
use Rattle.set_model.specs.Node.{Node}
use Rattle.set_model.specs.Outcome.{Outcome}
use Rattle.set_model.specs.Stores.{Plan, finished, storing, done}
use Rattle.checker_node.specs.declared.answer.Answer.{Answer}

-- a node's answer, with the node after it
abbrev pub outcome_of : Answer → Node → Outcome
outcome_of answer node = record { reply = answer.reply; node = node; sent = answer.sent.items }

-- it replies so, and sends these messages
pub record Replies (answer : Answer) (reply : Reply) (sent : List Message) : Type 0 where
  pub reply_is : answer.reply ≡ reply
  pub sent_is : answer.sent.items ≡ sent

-- the outcome is this answer, and leaves this node
abbrev pub Answers : Outcome → Answer → Node → Type 0
Answers outcome answer node = outcome ≡ outcome_of answer node

-- the plan stores nothing, and its outcome is this
abbrev pub IsEnd : Plan → Answer → Node → Type 0
IsEnd plan answer node = plan ≡ finished (outcome_of answer node)

-- ---- the store that fails

-- its number, counted from the next store on; none if this is the one
abbrev pub next_failed : Option ℕ → Option ℕ
next_failed None = None
next_failed (Some zero) = None
next_failed (Some (suc number)) = Some number

-- What is left of its number after a plan is done: none if the plan reached it.
abbrev pub left_of : Plan → Option ℕ → Option ℕ
left_of (finished outcome) failed = failed
left_of (storing broken rest) None = left_of rest None
left_of (storing broken rest) (Some zero) = None
left_of (storing broken rest) (Some (suc number)) = left_of rest (Some number)

-- The plan was done up to the store that fails, with this answer, and left this node.
pub record Does (plan : Plan) (failed left : Option ℕ) (answer : Answer) (node : Node) : Type 0 where
  pub outcome : done plan failed ≡ outcome_of answer node
  pub left_is : left ≡ left_of plan failed
