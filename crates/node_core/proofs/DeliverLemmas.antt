-- A message stores at most two short records, and leaves the others as they are.
use Rattle.std.proofs.Common.{refl, ℕ, zero, suc, Bool, true, false, not, ◌&&◌, nat_lt, ◌==◌, is_some, Option, None, Some, List, if◌then◌else◌}
use Rattle.rs_optime.specs.declared.optime.OpTime.{OpTime}
use Rattle.member_config.specs.Config.{is_newer}
use Rattle.member_config.specs.Voters.{is_member}
use Rattle.repl_msg.specs.declared.message.Beat.{Beat}
use Rattle.repl_msg.specs.declared.message.Body.{Body}
use Rattle.repl_msg.specs.declared.message.Body.TheVariants as bodies
use Rattle.repl_msg.specs.declared.message.Message.{Message}
use Rattle.repl_msg.specs.declared.message.VoteAsk.{VoteAsk}
use Rattle.repl_msg.specs.declared.message.VoteRefusal.{VoteRefusal}
use Rattle.repl_msg.specs.declared.record.Record.{Record}
use Rattle.set_model.specs.declared.reply.Ignored.{Ignored}
use Rattle.set_model.specs.Beats.{beat_of, given_way, heard}
use Rattle.set_model.specs.Deliver.{deliver, told, body_refusal, brings_term, vote_reply_told}
use Rattle.set_model.specs.Node.{Node, DryTally}
use Rattle.set_model.specs.declared.reply.Reply.TheVariants.{Replied, Heard}
use Rattle.set_model.specs.Outcome.{Outcome, replied, sending}
use Rattle.set_model.specs.Reports.{report_told}
use Rattle.set_model.specs.Roles.{is_secondary, is_primary, is_candidate}
use Rattle.set_model.specs.Rollback.{common_point, roll_back, rollback_reason}
use Rattle.set_model.specs.Stores.{Plan, finished, storing}
use Rattle.set_model.specs.Votes.{vote_decided, vote_refusal, vote_for, vote_told, vote_counted, is_elected, with_vote, dry_told, dry_counted}
use Rattle.node_core.specs.Putting.{IsShortStore}
use Rattle.node_core.proofs.DoesLemmas.{Does, IsKept, kept_if, does_if, does_unless, up_does, entries_kept}

abbrev KeepsAll : Node → Outcome → Type 0
KeepsAll node outcome = IsKept node.records node.stable outcome

abbrev StoresOnce : Node → Plan → Type 0
StoresOnce node plan = Does IsShortStore 1 node.records node.stable plan

-- fewer stores
does_more : (m : ℕ) (plan : Plan) (r : List Record) (s : OpTime) → Does IsShortStore m r s plan → Does IsShortStore (suc m) r s plan
does_more m (finished outcome) r s does = does
does_more zero (storing broken rest) r s does = absurd does
does_more (suc m) (storing broken rest) r s does = (does.0, does.1, does.2, does_more m rest _ _ does.3)

if_all : (node : Node) (b : Bool) (x y : Outcome) → KeepsAll node x → KeepsAll node y → KeepsAll node (if b then x else y)
if_all node b x y one other = kept_if node.records node.stable b x y one other

if_once : (node : Node) (b : Bool) (x y : Plan) → StoresOnce node x → StoresOnce node y → StoresOnce node (if b then x else y)
if_once node b x y one other = does_if IsShortStore 1 node.records node.stable b x y one other

report_kept : (node : Node) (from term : ℕ) (config : ℕ × ℕ) (durable : OpTime) → KeepsAll node (report_told node from term config durable)
report_kept node from term config durable =
    if_all node (nat_lt term node.term) _ _ (refl, refl)
    (if_all node (not (is_primary node.role)) _ _ (refl, refl) (if_all node (not (is_member node.config from)) _ _ (refl, refl) (refl, refl)))

-- ---- votes

counted_kept : (node : Node) (from : ℕ) (why : Option VoteRefusal) → KeepsAll node (vote_counted node from why)
counted_kept node from (Some why) = (refl, refl)
counted_kept node from None =
    if_all node (is_elected (record node { tally = with_vote node.config node.tally from })) _ _ (refl, refl) (refl, refl)

vote_told_kept : (node : Node) (from asked : ℕ) (why : Option VoteRefusal) → KeepsAll node (vote_told node from asked why)
vote_told_kept node from asked why =
    if_all node (not (is_candidate node.role)) _ _ (refl, refl) (if_all node (not (asked == node.term)) _ _ (refl, refl) (counted_kept node from why))

dry_counted_kept : (node : Node) (tally : DryTally) (from : ℕ) (why : Option VoteRefusal) → KeepsAll node (dry_counted node tally from why)
dry_counted_kept node tally from (Some why) = (refl, refl)
dry_counted_kept node tally from None = (refl, refl)

dry_told_kept : (node : Node) (from asked : ℕ) (why : Option VoteRefusal) (found : Option DryTally) → KeepsAll node (dry_told node from asked why found)
dry_told_kept node from asked why None = (refl, refl)
dry_told_kept node from asked why (Some tally) =
    if_all node (tally.term == asked && asked == node.term) _ _ (dry_counted_kept node tally from why) (refl, refl)

vote_reply_kept : (node : Node) (from asked : ℕ) (dry : Bool) (why : Option VoteRefusal) → KeepsAll node (vote_reply_told node from asked dry why)
vote_reply_kept node from asked true why = dry_told_kept node from asked why node.dry_tally
vote_reply_kept node from asked false why = vote_told_kept node from asked why

decided_once : (next : ℕ) (node : Node) (from : ℕ) (ask : VoteAsk) (why : Option VoteRefusal) → StoresOnce node (vote_decided next node from ask why)
decided_once next node from ask why =
    if_once node (not ask.dry && nat_lt node.term ask.asked) _ _ (refl, refl, tt, (refl, refl))
    (if_once node (not ask.dry && (ask.asked == node.term && is_some (vote_for from why))) _ _ (refl, refl, tt, (refl, refl)) (refl, refl))

-- ---- heartbeats

heard_once : (node : Node) (from : ℕ) (beat : Beat) (answer : Node → Outcome) → ((n : Node) → KeepsAll n (answer n)) → StoresOnce node (heard node from beat answer)
heard_once node from beat answer kept =
    if_once node (is_secondary (given_way node beat).role && is_newer beat.config (given_way node beat).config) _ _ (refl, refl, tt, kept _) (kept _)

-- ---- rollback

rolled_once : (node : Node) (point : OpTime) (why : Option Ignored) → StoresOnce node (roll_back node point why)
rolled_once node point (Some why) = (refl, refl)
rolled_once node point None = (refl, refl, tt, (refl, refl))

-- ---- all of them

told_once : (next from term : ℕ) (body : Body) (node : Node) → StoresOnce node (told next from term body node)
told_once next from term (bodies.Fetch base) node = (refl, refl)
told_once next from term (bodies.FetchReply reply) node = entries_kept node from reply
told_once next from term (bodies.Report config durable) node = report_kept node from term config durable
told_once next from term (bodies.VoteAsk ask) node = decided_once next node from ask (vote_refusal node ask)
told_once next from term (bodies.VoteReply asked dry why) node = vote_reply_kept node from asked dry why
told_once next from term (bodies.Heartbeat beat) node =
    if_once node (nat_lt term node.term) _ _ (refl, refl) (heard_once node from beat (λ n. sending (Replied next) n from (bodies.HeartbeatReply (beat_of n))) (λ n. (refl, refl)))
told_once next from term (bodies.HeartbeatReply beat) node =
    if_once node (nat_lt term node.term) _ _ (refl, refl) (heard_once node from beat (λ n. replied Heard n) (λ n. (refl, refl)))
told_once next from term (bodies.CommonAsk after) node = (refl, refl)
told_once next from term (bodies.CommonReply after optimes visible) node =
    rolled_once node (common_point node.log after optimes) (rollback_reason node term after optimes visible)

pub deliver_does : (next : ℕ) (node : Node) (message : Message) → Does IsShortStore 2 node.records node.stable (deliver next node message)
deliver_does next node message =
    up_does IsShortStore 2 node _
    (does_unless IsShortStore 2 node (body_refusal node message.term message.body) _
    (does_if IsShortStore 2 node.records node.stable (brings_term message.body && nat_lt node.term message.term) _ _
    (refl, refl, tt, told_once next message.from message.term message.body _)
    (does_more 1 _ node.records node.stable (told_once next message.from message.term message.body node))))
