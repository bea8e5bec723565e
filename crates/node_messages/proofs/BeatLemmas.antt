-- What a heartbeat does, and the answer that is prepared beforehand.
use Rattle.std.proofs.Common.{◌≡◌, ◌∙◌, ◌<◌, ap, sym, refl, ℕ, Bool, true, false, cond, not, ◌&&◌, List, [], ◌∷◌, ◌++◌, Option, None, Some}
use Rattle.std.specs.Prelude.{◌==◌, nat_lt}
use Rattle.std.proofs.lemmas.Bool.{and_parts}
use Rattle.member_config.specs.Rule.{rule}
use Rattle.member_config.specs.declared.config.Config.{Config}
use Rattle.rs_optime.specs.declared.optime.OpTime.{OpTime}
use Rattle.repl_msg.specs.declared.message.Beat.{Beat}
use Rattle.repl_msg.specs.declared.message.Body.TheVariants as bodies
use Rattle.repl_msg.specs.declared.message.Message.{Message}
use Rattle.repl_msg.specs.declared.record.Record.{Record}
use Rattle.repl_msg.specs.declared.record.Record.TheVariants as records
use Rattle.set_model.specs.declared.reply.Ignored.TheVariants.{OldTerm}
use Rattle.set_model.specs.declared.reply.Reply.TheVariants as reply
use Rattle.set_model.specs.declared.role.Role.{Role}
use Rattle.set_model.specs.declared.role.Role.TheVariants.{Secondary, Candidate, Draining, Primary}
use Rattle.set_model.specs.Beats.{beat_answered, beat_of, beat_told, commit_heard, given_way, heard, unless_old}
use Rattle.set_model.specs.Changes.{heard_of}
use Rattle.set_model.specs.Node.{Node}
use Rattle.set_model.specs.Outcome.{Outcome, ignored, message_to, replied, sending}
use Rattle.set_model.specs.Points.{commit_after, last_point, visible_point}
use Rattle.set_model.specs.Roles.{is_candidate, is_primary, is_secondary}
use Rattle.set_model.specs.Stores.{Plan, config_record, finished, in_doubt, storing}
use Rattle.node_messages.specs.Ahead.{taking, view_in_term}
use Rattle.node_messages.specs.HeardBeats.{beat_after, commit_learnt, installs, newer, told_of}
use Rattle.node_state.specs.Ready.{IsHeard}
use Rattle.node_state.specs.StateView.{StateView}
use Rattle.node_state.specs.MessageContinuation.{answered, message_plan}
use Rattle.node_state.specs.declared.turn.Answer.{Answer}
use Rattle.node_state.specs.declared.turn.HeardBeat.{HeardBeat}
use Rattle.node_messages.proofs.ForeseenLemmas.{there}

-- one that gives way wasn't primary
role_way : (role : Role) (primary : Bool) → is_primary (cond (is_candidate role && primary) Secondary role) ≡ is_primary role
role_way Secondary primary = refl
role_way Candidate true = refl
role_way Candidate false = refl
role_way Draining primary = refl
role_way Primary primary = refl

-- the node once it has heard a heartbeat, in a configuration and with some records
abbrev after : Node → List Record → ℕ → Beat → Config → Node
after node items from beat config = commit_heard (heard_of (record (given_way node beat) { records = items; config = config }) from beat.visible beat.primary) beat

said : (node : Node) (items : List Record) (from : ℕ) (beat : Beat) (config : Config)
    → message_to node from (bodies.HeartbeatReply (record { config = config; commit = commit_learnt node beat.commit; visible = visible_point node; primary = is_primary node.role }))
    ≡ message_to (after node items from beat config) from (bodies.HeartbeatReply (beat_of (after node items from beat config)))
said node items from beat config =
    ap (λ (p : Bool). message_to node from (bodies.HeartbeatReply (record {
      config = config;
      commit = cond (not p && beat.commit.term == (last_point node).term) (commit_after node beat.commit) node.commit;
      visible = visible_point node;
      primary = p;
    })))
    (sym (role_way node.role beat.primary))

replied_is : (next from : ℕ) (answer : Answer) (node : Node) → answer.next ≡ next → answer.sent.items ≡ message_to node from (bodies.HeartbeatReply (beat_of node)) ∷ []
    → answered (Some answer) node ≡ sending (reply.Replied next) node from (bodies.HeartbeatReply (beat_of node))
replied_is next from answer node next_is sent_is =
    ap (λ (n : ℕ). record { reply = reply.Replied n; node = node; sent = answer.sent.items }) next_is
    ∙ ap (λ (l : List Message). record { reply = reply.Replied next; node = node; sent = l }) sent_is

-- how a heartbeat is told, by whether its configuration is installed
heard_is : (node : Node) (items : List Record) (from : ℕ) (beat : Beat) (installing : Bool) (answer : Option Answer) (say : Node → Outcome)
    → installing ≡ installs node beat
    → ((after_items : List Record) → answered answer (after node after_items from beat (cond installing beat.config node.config)) ≡ say (after node after_items from beat (cond installing beat.config node.config)))
    → message_plan (told_of from beat installing answer) (record node { records = items }) ≡ heard (record node { records = items }) from beat say
heard_is node items from beat true answer say installing says =
    ap (λ (o : Outcome). storing (in_doubt (record (given_way node beat) { records = items }) (config_record beat.config)) (finished o)) (says (items ++ records.Config beat.config ∷ []))
    ∙ ap (λ b. cond b (storing (in_doubt (record (given_way node beat) { records = items }) (config_record beat.config)) (finished (say (after node (items ++ records.Config beat.config ∷ []) from beat beat.config)))) (finished (say (after node items from beat node.config)))) installing
heard_is node items from beat false answer say installing says =
    ap finished (says items)
    ∙ ap (λ b. cond b (storing (in_doubt (record (given_way node beat) { records = items }) (config_record beat.config)) (finished (say (after node (items ++ records.Config beat.config ∷ []) from beat beat.config)))) (finished (say (after node items from beat node.config)))) installing

-- a message that isn't old
not_old : (node : Node) (term : ℕ) (told plan : Plan) → nat_lt term node.term ≡ false → told ≡ plan → told ≡ unless_old node term plan
not_old node term told plan new is = is ∙ sym (ap (λ b. cond b (finished (ignored OldTerm node)) plan) new)

beat_at : (node : Node) (items : List Record) (next from term : ℕ) (beat : Beat) (installing : Bool) (answer : Answer)
    → nat_lt term node.term ≡ false → installing ≡ installs node beat → answer.next ≡ next
    → answer.sent.items ≡ message_to node from (bodies.HeartbeatReply (beat_after node beat)) ∷ []
    → message_plan (told_of from beat installing (Some answer)) (record node { records = items }) ≡ beat_told next (record node { records = items }) from term beat
beat_at node items next from term beat installing answer new installing_is next_is sent_is =
    not_old (record node { records = items }) term _ _ new
    (heard_is node items from beat installing (Some answer) (λ n. sending (reply.Replied next) n from (bodies.HeartbeatReply (beat_of n))) installing_is
    (λ after_items. replied_is next from answer (after node after_items from beat (cond installing beat.config node.config)) next_is
    (sent_is
    ∙ ap (λ b. message_to node from (bodies.HeartbeatReply (record { config = cond b beat.config node.config; commit = commit_learnt node beat.commit; visible = visible_point node; primary = is_primary node.role })) ∷ []) (sym installing_is)
    ∙ ap (λ (m : Message). m ∷ []) (said node after_items from beat (cond installing beat.config node.config)))))

answer_at : (node : Node) (items : List Record) (from term : ℕ) (beat : Beat) (installing : Bool)
    → nat_lt term node.term ≡ false → installing ≡ installs node beat
    → message_plan (told_of from beat installing None) (record node { records = items }) ≡ beat_answered (record node { records = items }) from term beat
answer_at node items from term beat installing new installing_is =
    not_old (record node { records = items }) term _ _ new
    (heard_is node items from beat installing None (λ n. replied reply.Heard n) installing_is (λ after_items. refl))

-- ---- once the message's term is taken

-- the role alone decides whether a configuration is installed
pub installs_as : (raised : Bool) (term : ℕ) (node : Node) (beat : Beat) (role : Role) → role ≡ (taking raised term node).role
    → installs (record node { role = role }) beat ≡ installs (taking raised term node) beat
installs_as true term node beat role is = ap (λ (r : Role). installs (record node { role = r }) beat) is
installs_as false term node beat role is = ap (λ (r : Role). installs (record node { role = r }) beat) is

-- and which commit point is learnt
pub learnt_as : (raised : Bool) (term : ℕ) (node : Node) (heard : OpTime) (role : Role) → role ≡ (taking raised term node).role
    → commit_learnt (record node { role = role }) heard ≡ commit_learnt (taking raised term node) heard
learnt_as true term node heard role is = ap (λ (r : Role). commit_learnt (record node { role = r }) heard) is
learnt_as false term node heard role is = ap (λ (r : Role). commit_learnt (record node { role = r }) heard) is

pub sent_in : (raised : Bool) (term from : ℕ) (node : Node) (beat : Beat) (config : Config) (commit visible : OpTime) (primary : Bool) (own : ℕ)
    → own ≡ (taking raised term node).term → config ≡ cond (installs (taking raised term node) beat) beat.config node.config
    → commit ≡ commit_learnt (taking raised term node) beat.commit → visible ≡ visible_point (taking raised term node) → primary ≡ is_primary (taking raised term node).role
    → message_to (record node { term = own }) from (bodies.HeartbeatReply (record { config = config; commit = commit; visible = visible; primary = primary }))
    ≡ message_to (taking raised term node) from (bodies.HeartbeatReply (beat_after (taking raised term node) beat))
sent_in true term from node beat config commit visible primary own own_is config_is commit_is visible_is primary_is =
    λ i. message_to (record node { term = own_is i }) from (bodies.HeartbeatReply (record { config = config_is i; commit = commit_is i; visible = visible_is i; primary = primary_is i }))
sent_in false term from node beat config commit visible primary own own_is config_is commit_is visible_is primary_is =
    λ i. message_to (record node { term = own_is i }) from (bodies.HeartbeatReply (record { config = config_is i; commit = commit_is i; visible = visible_is i; primary = primary_is i }))

pub beat_is : (raised : Bool) (node : Node) (next from term : ℕ) (beat : Beat) (installing : Bool) (answer : Answer)
    → nat_lt term (taking raised term node).term ≡ false → installing ≡ installs (taking raised term node) beat → answer.next ≡ next
    → answer.sent.items ≡ message_to (taking raised term node) from (bodies.HeartbeatReply (beat_after (taking raised term node) beat)) ∷ []
    → (items : List Record) → message_plan (told_of from beat installing (Some answer)) (there raised term node items) ≡ beat_told next (there raised term node items) from term beat
beat_is true node next from term beat installing answer new installing_is next_is sent_is items =
    beat_at (taking true term node) items next from term beat installing answer new installing_is next_is sent_is
beat_is false node next from term beat installing answer new installing_is next_is sent_is items =
    beat_at node items next from term beat installing answer new installing_is next_is sent_is

pub answer_is : (raised : Bool) (node : Node) (from term : ℕ) (beat : Beat) (installing : Bool)
    → nat_lt term (taking raised term node).term ≡ false → installing ≡ installs (taking raised term node) beat
    → (items : List Record) → message_plan (told_of from beat installing None) (there raised term node items) ≡ beat_answered (there raised term node items) from term beat
answer_is true node from term beat installing new installing_is items = answer_at (taking true term node) items from term beat installing new installing_is
answer_is false node from term beat installing new installing_is items = answer_at node items from term beat installing new installing_is

-- an older message isn't taken
old_at : (node : Node) (term : ℕ) (plan : Plan) → nat_lt term node.term ≡ true → finished (ignored OldTerm node) ≡ unless_old node term plan
old_at node term plan old = sym (ap (λ b. cond b (finished (ignored OldTerm node)) plan) old)

pub old_is : (raised : Bool) (node : Node) (term : ℕ) (plan : Node → Plan) → nat_lt term (taking raised term node).term ≡ true
    → (items : List Record) → finished (ignored OldTerm (there raised term node items)) ≡ unless_old (there raised term node items) term (plan (there raised term node items))
old_is true node term plan old items = old_at (there true term node items) term (plan (there true term node items)) old
old_is false node term plan old items = old_at (there false term node items) term (plan (there false term node items)) old

-- ---- what is kept of it

pub secondary_is : (role : Role) → is_secondary role ≡ true → role ≡ Secondary
secondary_is Secondary is = refl
secondary_is Candidate is = absurd (cc is)
secondary_is Draining is = absurd (cc is)
secondary_is Primary is = absurd (cc is)

heard_at : (standing : StateView) (hearing : HeardBeat) (config : Config) (primary : Bool) (installing : Bool) → 0 < standing.places → hearing.primary ≡ primary → rule config ≡ None
    → (installing ≡ true → is_secondary (cond (is_candidate standing.node.role && primary) Secondary standing.node.role) ≡ true) → IsHeard (newer installing config) hearing standing
heard_at standing hearing config primary true place primary_is lawful secondary =
    (place, (refl, lawful, ap (λ p. cond (is_candidate standing.node.role && p) Secondary standing.node.role) primary_is ∙ secondary_is _ (secondary refl)))
heard_at standing hearing config primary false place primary_is lawful secondary = (place, tt)

pub ready_is : (raised : Bool) (standing : StateView) (term : ℕ) (beat : Beat) (hearing : HeardBeat) (installing : Bool) → 0 < standing.places → hearing.primary ≡ beat.primary → rule beat.config ≡ None
    → installing ≡ installs (taking raised term standing.node) beat → IsHeard (newer installing beat.config) hearing (view_in_term raised term standing)
ready_is true standing term beat hearing installing place primary_is lawful installing_is =
    heard_at (view_in_term true term standing) hearing beat.config beat.primary installing place primary_is lawful (λ is. (and_parts _ _ (sym installing_is ∙ is)).0)
ready_is false standing term beat hearing installing place primary_is lawful installing_is =
    heard_at standing hearing beat.config beat.primary installing place primary_is lawful (λ is. (and_parts _ _ (sym installing_is ∙ is)).0)
