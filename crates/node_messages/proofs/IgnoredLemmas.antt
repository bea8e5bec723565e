-- An answer to a fetch that a node ignores.
use Rattle.std.proofs.Common.{◌≡◌, ◌∙◌, ap, ℕ, Bool, true, false, cond, not, length, List, Option, None, Some}
use Rattle.std.specs.Prelude.{unwrap_or}
use Rattle.repl_msg.specs.Fetching.{continues}
use Rattle.repl_msg.specs.declared.message.FetchReply.{FetchReply}
use Rattle.repl_msg.specs.declared.record.Record.{Record}
use Rattle.set_model.specs.Fetching.{entries_told, taken}
use Rattle.set_model.specs.Node.{Node}
use Rattle.set_model.specs.Outcome.{ignored, replied}
use Rattle.set_model.specs.Points.{last_point}
use Rattle.set_model.specs.Roles.{is_secondary}
use Rattle.set_model.specs.Stores.{Plan, finished}
use Rattle.set_model.specs.declared.reply.Ignored.{Ignored}
use Rattle.set_model.specs.declared.reply.Ignored.TheVariants.{NotSecondary, OtherPlace}
use Rattle.set_model.specs.declared.reply.Reply.TheVariants.{Took}
use Rattle.set_model.specs.declared.role.Role.{Role}
use Rattle.node_messages.specs.Ahead.{IsPreparedFor, taking}
use Rattle.node_messages.specs.Fetched.{ignored_for}
use Rattle.node_messages.proofs.ForeseenLemmas.{there}
use Rattle.node_messages.proofs.TakenLemmas.{foretold}
use Rattle.node_state.specs.declared.turn.MessageContinuation.TheVariants as message_continuations

-- what a node tells, by its role and by whether the answer goes on
abbrev told_by : Bool → Bool → Node → ℕ → FetchReply → Plan
told_by secondary goes_on node from reply =
    finished
    (cond (not secondary) (ignored NotSecondary node)
    (cond (not goes_on) (ignored OtherPlace node)
    (replied (Took (length reply.entries) (last_point (taken node from reply))) (taken node from reply))))

reason_tells : (secondary goes_on : Bool) (node : Node) (from : ℕ) (reply : FetchReply) (why : Ignored)
    → Some why ≡ cond (not secondary) (Some NotSecondary) (cond (not goes_on) (Some OtherPlace) None)
    → finished (ignored why node) ≡ told_by secondary goes_on node from reply
reason_tells false goes_on node from reply why is = ap (λ (o : Option Ignored). finished (ignored (unwrap_or o why) node)) is
reason_tells true false node from reply why is = ap (λ (o : Option Ignored). finished (ignored (unwrap_or o why) node)) is
reason_tells true true node from reply why is = cc is

pub ignored_tells : (raised : Bool) (term from : ℕ) (old new : Node) (reply : FetchReply) (role : Role) (why : Ignored)
    → role ≡ (taking raised term old).role → Some why ≡ ignored_for role (last_point old) reply → new ≡ old
    → IsPreparedFor (message_continuations.Ignored why) raised term (λ node. finished (entries_told node from reply)) old new
ignored_tells raised term from old new reply role why role_is is same =
    foretold (message_continuations.Ignored why) raised term (λ node. finished (entries_told node from reply)) old new (at raised role_is) same
  where
    at : (raised : Bool) → role ≡ (taking raised term old).role → (items : List Record)
        → finished (ignored why (there raised term old items)) ≡ finished (entries_told (there raised term old items) from reply)
    at true role_is items =
        reason_tells (is_secondary role) (continues (last_point old) reply) (there true term old items) from reply why is
        ∙ ap (λ (r : Role). told_by (is_secondary r) (continues (last_point old) reply) (there true term old items) from reply) role_is
    at false role_is items =
        reason_tells (is_secondary role) (continues (last_point old) reply) (there false term old items) from reply why is
        ∙ ap (λ (r : Role). told_by (is_secondary r) (continues (last_point old) reply) (there false term old items) from reply) role_is
