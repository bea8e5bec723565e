-- What is prepared for a message is what it does.
use Rattle.std.proofs.Common.{◌≡◌, ◌∙◌, ap, sym, refl, ℕ, nat_lt, Bool, true, false, List, [], ◌∷◌, None}
use Rattle.std.specs.List.{AllPairs}
use Rattle.rs_optime.specs.Order.{optime_cmp}
use Rattle.rs_optime.specs.declared.optime.OpTime.{OpTime}
use Rattle.oplog_entry.specs.Visible.{entries_before, last_of, least, log_up_to}
use Rattle.oplog_store.specs.Log.{StandsBefore}
use Rattle.std.specs.FinSet as sets
use Rattle.visibility_point.proofs.Least.{none_listed, items_again}
use Rattle.repl_msg.specs.Fetching.{reply_of}
use Rattle.repl_msg.specs.declared.message.Body.{Body}
use Rattle.repl_msg.specs.declared.message.Body.TheVariants as bodies
use Rattle.repl_msg.specs.declared.message.FetchReply.{FetchReply}
use Rattle.repl_msg.specs.declared.message.Message.{Message}
use Rattle.repl_msg.specs.declared.record.Record.{Record}
use Rattle.set_model.specs.Changes.{in_new_term}
use Rattle.set_model.specs.declared.reply.Reply.TheVariants as reply
use Rattle.set_model.specs.declared.role.Role.TheVariants.{Secondary}
use Rattle.set_model.specs.Fetching.{reply_to}
use Rattle.set_model.specs.Node.{Node}
use Rattle.set_model.specs.Outcome.{message_to, sending}
use Rattle.set_model.specs.Points.{last_point, visible_point}
use Rattle.set_model.specs.Roles.{is_primary}
use Rattle.set_model.specs.Stores.{finished}
use Rattle.node_messages.specs.Ahead.{IsInTerm, taking}
use Rattle.node_messages.proofs.FrontLemmas.{shown_reply}

-- the node as it takes a message, with some records
abbrev pub there : Bool → ℕ → Node → List Record → Node
there raised term node items = taking raised term (record node { records = items })

pub sends_then : (raised : Bool) (term from : ℕ) (node : Node) (items : List Record) (body : Body)
    → message_to (record node { term = (taking raised term node).term }) from body ≡ message_to (there raised term node items) from body
sends_then true term from node items body = refl
sends_then false term from node items body = refl

-- one message, whose body is what the node then says
pub answered_is : (raised : Bool) (term next from : ℕ) (node : Node) (list : List Message) (body : Body) (of : Node → Body)
    → list ≡ message_to (record node { term = (taking raised term node).term }) from body ∷ []
    → ((items : List Record) → body ≡ of (there raised term node items))
    → (items : List Record) → finished (record { reply = reply.Replied next; node = there raised term node items; sent = list })
    ≡ finished (sending (reply.Replied next) (there raised term node items) from (of (there raised term node items)))
answered_is raised term next from node list body of sent_is body_is items =
    ap (λ (l : List Message). finished (record { reply = reply.Replied next; node = there raised term node items; sent = l }))
    (sent_is ∙ ap (λ (m : Message). m ∷ []) (sends_then raised term from node items body ∙ ap (message_to (there raised term node items) from) (body_is items)))

-- the answer to one who fetches
pub fetch_body : (raised : Bool) (term : ℕ) (node : Node) (base visible : OpTime) (primary : Bool) (given : FetchReply)
    → AllPairs StandsBefore node.log → visible ≡ visible_point (taking raised term node) → primary ≡ is_primary (taking raised term node).role
    → given ≡ reply_of (log_up_to visible node.log) visible base node.commit primary
    → (items : List Record) → bodies.FetchReply given ≡ bodies.FetchReply (reply_to (there raised term node items) base)
fetch_body true term node base visible primary given order visible_is primary_is given_is items =
    ap bodies.FetchReply
    (given_is ∙ ap (λ v. reply_of (log_up_to v node.log) v base node.commit primary) visible_is
    ∙ ap (reply_of (log_up_to (visible_point (in_new_term node term None)) node.log) (visible_point (in_new_term node term None)) base node.commit) primary_is
    ∙ shown_reply (least (sets.items (in_new_term node term None).slots)) node.log order base node.commit false)
fetch_body false term node base visible primary given order visible_is primary_is given_is items =
    ap bodies.FetchReply
    (given_is ∙ ap (λ v. reply_of (log_up_to v node.log) v base node.commit primary) visible_is
    ∙ ap (reply_of (log_up_to (visible_point node) node.log) (visible_point node) base node.commit) primary_is
    ∙ shown_reply (least (sets.items node.slots)) node.log order base node.commit (is_primary node.role))

-- a node that steps down shows its whole log
pub visible_raised : (raised : Bool) (term : ℕ) (node : Node) → raised ≡ true → last_point node ≡ visible_point (taking raised term node)
visible_raised true term node is = ap (λ (slots : List OpTime). last_of (entries_before (least slots) node.log)) (sym (none_listed (sets.items (sets.empty {R = optime_cmp})) (items_again (sets.empty {R = optime_cmp}))))
visible_raised false term node is = absurd (cc is)

-- what the node is in a higher term, and in its own
pub in_higher_term : (node : Node) (term : ℕ) → nat_lt node.term term ≡ true → IsInTerm (record { term = term; role = Secondary; visible = last_point node }) term node
in_higher_term node term higher = record {
  term_is = ap (λ (b : Bool). (taking b term node).term) (sym higher);
  role_is = ap (λ (b : Bool). (taking b term node).role) (sym higher);
  visible_is = visible_raised (nat_lt node.term term) term node higher;
}

pub in_own_term : (node : Node) (term : ℕ) → nat_lt node.term term ≡ false → IsInTerm (record { term = node.term; role = node.role; visible = visible_point node }) term node
in_own_term node term own = record {
  term_is = ap (λ (b : Bool). (taking b term node).term) (sym own);
  role_is = ap (λ (b : Bool). (taking b term node).role) (sym own);
  visible_is = ap (λ (b : Bool). visible_point (taking b term node)) (sym own);
}
