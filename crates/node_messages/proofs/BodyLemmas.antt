-- How the body of a message decides how the message is taken.
use Rattle.std.proofs.Common.{◌≡◌, ◌∙◌, ◌<◌, ap, sym, refl, arith, ℕ, Bool, true, false, cond, ◌&&◌, List, Option, None}
use Rattle.std.specs.Prelude.{nat_lt}
use Rattle.std.proofs.lemmas.Bool.Decides.{nat_tests}
use Rattle.rs_optime.specs.declared.optime.OpTime.{OpTime}
use Rattle.repl_msg.specs.Rollback.{common_point}
use Rattle.repl_msg.specs.declared.message.Body.TheVariants.{Report, VoteReply, CommonReply}
use Rattle.repl_msg.specs.declared.message.Message.{Message}
use Rattle.repl_msg.specs.declared.message.VoteRefusal.{VoteRefusal}
use Rattle.set_model.specs.Changes.{in_new_term}
use Rattle.set_model.specs.Deliver.{brings_term, told}
use Rattle.set_model.specs.Node.{Node}
use Rattle.set_model.specs.Outcome.{ignored}
use Rattle.set_model.specs.Rollback.{rollback_reason}
use Rattle.set_model.specs.Safety.{AtMost}
use Rattle.set_model.specs.Stores.{finished}
use Rattle.set_model.specs.declared.reply.Ignored.TheVariants.{NotCandidate, NotPrimary, OldTerm}
use Rattle.node_messages.specs.Ahead.{IsPreparedFor, in_term, taking}
use Rattle.set_model.specs.Taking.{CanTake}
use Rattle.node_state.specs.declared.turn.MessageContinuation.TheVariants.{Ignored}
use Rattle.node_messages.proofs.TakenLemmas.{foretold}

pub is_higher : (own term : ℕ) → own < term → nat_lt own term ≡ true
is_higher own term less = grind (arith, nat_tests)

-- ---- the node in the message's term

-- what the answer to one who asked for the optimes after a commit point needs
pub common_of : (node : Node) (message : Message) (after : OpTime) (optimes : List OpTime) (visible : OpTime)
    → CanTake node message → message.body ≡ CommonReply after optimes visible
    → rollback_reason (in_term message.term node) message.term after optimes visible ≡ None → AtMost node.commit (common_point node.log after optimes)
common_of node message after optimes visible can body reason =
    can.common after optimes visible body
    (ap (λ (n : Node). rollback_reason n message.term after optimes visible)
    (ap (λ b. cond (brings_term b && nat_lt node.term message.term) (in_new_term node message.term None) node) body)
    ∙ reason)

-- ---- answers to what a node has forgotten once it steps down

pub vote_reply_tells : (next from term asked : ℕ) (dry : Bool) (why : Option VoteRefusal) (node : Node)
    → IsPreparedFor (Ignored NotCandidate) true term (told next from term (VoteReply asked dry why)) node node
vote_reply_tells next from term asked true why node = foretold _ true term (told next from term (VoteReply asked true why)) node node (λ items. refl) refl
vote_reply_tells next from term asked false why node = foretold _ true term (told next from term (VoteReply asked false why)) node node (λ items. refl) refl

not_less : (term : ℕ) → nat_lt term term ≡ false
not_less term = grind (arith, nat_tests)

pub report_tells : (next from term : ℕ) (config : ℕ × ℕ) (durable : OpTime) (node : Node)
    → IsPreparedFor (Ignored NotPrimary) true term (told next from term (Report config durable)) node node
report_tells next from term config durable node =
    foretold _ true term (told next from term (Report config durable)) node node
    (λ items.
    let there : Node = taking true term (record node { records = items }) in
    sym (ap (λ b. finished (cond b (ignored OldTerm there) (ignored NotPrimary there))) (not_less term)))
    refl
