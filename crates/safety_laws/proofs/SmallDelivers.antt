-- Each message within limits keeps the numbers of the node that takes it within limits, and
-- its configurations lawful.
use Rattle.std.proofs.Common.{◌≡◌, ◌≤◌, ◌<◌, ◌+◌, arith, ℕ, Bool, true, false, not, ◌&&◌, ◌==◌, nat_lt, cond, length, take, is_some, Option, None, Some, List, [], ◌∷◌, ◌++◌}
use Rattle.std.proofs.lemmas.List.{length-append}
use Rattle.std.specs.Prelude.{IfSome}
use Rattle.rs_optime.specs.declared.optime.OpTime.{OpTime}
use Rattle.member_config.specs.Config.{is_newer}
use Rattle.member_config.specs.Voters.{is_member}
use Rattle.repl_msg.specs.declared.message.Beat.{Beat}
use Rattle.repl_msg.specs.declared.message.Body.{Body}
use Rattle.repl_msg.specs.declared.message.Body.TheVariants as bodies
use Rattle.repl_msg.specs.declared.message.FetchReply.{FetchReply}
use Rattle.repl_msg.specs.declared.message.Message.{Message}
use Rattle.repl_msg.specs.declared.message.VoteAsk.{VoteAsk}
use Rattle.repl_msg.specs.declared.message.VoteRefusal.{VoteRefusal}
use Rattle.repl_msg.specs.declared.record.Record.TheVariants as records
use Rattle.set_model.specs.declared.reply.Ignored.{Ignored}
use Rattle.set_model.specs.declared.reply.Reply.TheVariants as reply
use Rattle.set_model.specs.Beats.{heard, given_way, beat_told, beat_answered, beat_of}
use Rattle.set_model.specs.Changes.{in_new_term}
use Rattle.set_model.specs.Deliver.{body_refusal, brings_term, vote_reply_told, told, deliver}
use Rattle.set_model.specs.Fetching.{holds, entries_told, reply_to}
use Rattle.set_model.specs.Node.{Node, DryTally}
use Rattle.set_model.specs.Outcome.{Outcome, replied, sending}
use Rattle.set_model.specs.Points.{last_point, log_after, visible_log, same_optime}
use Rattle.set_model.specs.Reports.{report_told}
use Rattle.set_model.specs.Roles.{is_secondary, is_candidate, is_primary}
use Rattle.set_model.specs.Rollback.{common_told, common_point, roll_back, rollback_reason, cut_record}
use Rattle.set_model.specs.Stores.{stored, vote_record, config_record}
use Rattle.set_model.specs.Votes.{vote_asked, vote_decided, vote_answered, vote_refusal, vote_for, with_vote, vote_told, vote_counted, is_elected, dry_told, dry_counted}
use Rattle.safety_laws.specs.Bounds.{IsLawfulConfig}
use Rattle.safety_laws.proofs.SmallNodes.{Limits, AreTimely, NodeFine, FineMessage, FineOutcome, FinePlan, quiet, says, take_timely, filter_timely, append_timely, visible_timely, seen_most_after, lost_times, stored_fine, doubt_fine}
use Rattle.safety_laws.proofs.SmallRows.{plan_if, end_if, plan_unless, plan_up}

-- a vote of this term is kept, and the node is a secondary of that term
turned_fine : (l : Limits) (node : Node) (term : ℕ) (vote : Option ℕ) → NodeFine l node → IfSome vote (λ candidate. candidate < l.nodes) → length node.records + 1 ≤ l.records
    → NodeFine l (in_new_term (stored node (vote_record term vote)) term vote)
turned_fine l node term vote ok new room =
    let more : NodeFine l (stored node (vote_record term vote)) = stored_fine l node (vote_record term vote) ok new room in (
      lost_times l.time node.seen node.log node.writers ok.0,
      record { number_is = ok.1.number_is; known = ok.1.known; voted = new; config_fine = ok.1.config_fine; first_fine = ok.1.first_fine },
      more.2,
      more.3,
    )

voted_fine : (nodes from : ℕ) (why : Option VoteRefusal) → from < nodes → IfSome (vote_for from why) (λ candidate. candidate < nodes)
voted_fine nodes from (Some why) known = tt
voted_fine nodes from None known = known

-- the sender is known
module _ (l : Limits) (from : ℕ) (known : from < l.nodes) where
  fetch_told_fine : (next : ℕ) (node : Node) (base : OpTime) → NodeFine l node → FineOutcome l (sending (reply.Replied next) node from (bodies.FetchReply (reply_to node base)))
  fetch_told_fine next node base ok = says l _ node from (bodies.FetchReply (reply_to node base)) ok known tt (go (holds node base))
    where
      go : (b : Bool) → AreTimely l.time (cond b (take 5000 (log_after base (visible_log node))) [])
      go true = take_timely l.time 5000 (log_after base (visible_log node)) (filter_timely l.time _ (visible_log node) (visible_timely l.time node ok.0.timely))
      go false = λ entry there. absurd there

  entries_fine : (node : Node) (fetched : FetchReply) → NodeFine l node → AreTimely l.time fetched.entries → FineOutcome l (entries_told node from fetched)
  entries_fine node fetched ok timely =
      end_if l (not (is_secondary node.role)) _ _ (λ is. quiet l _ node ok) (λ is.
      end_if l (not (fetched.holds && same_optime fetched.base (last_point node))) _ _ (λ other. quiet l _ node ok) (λ here. quiet l _ _ (
        record {
          seen_most = seen_most_after l.time node.seen fetched.entries ok.0.seen_most timely;
          timely = append_timely l.time node.log fetched.entries ok.0.timely timely;
          slots = ok.0.slots;
        },
        ok.1,
        ok.2,
        ok.3,
      )))

  report_fine : (node : Node) (term : ℕ) (config : ℕ × ℕ) (durable : OpTime) → NodeFine l node → FineOutcome l (report_told node from term config durable)
  report_fine node term config durable ok =
      end_if l (nat_lt term node.term) _ _ (λ is. quiet l _ node ok) (λ is.
      end_if l (not (is_primary node.role)) _ _ (λ other. quiet l _ node ok) (λ primary.
      end_if l (not (is_member node.config from)) _ _ (λ other. quiet l _ node ok) (λ member. quiet l _ _ ok)))

  vote_asked_fine : (next : ℕ) (node : Node) (ask : VoteAsk) → NodeFine l node → length node.records + 1 ≤ l.records → FinePlan l (vote_asked next node from ask)
  vote_asked_fine next node ask ok room = go (vote_refusal node ask)
    where
      answered : (why : Option VoteRefusal) (n : Node) → NodeFine l n → FinePlan l (vote_answered next from ask why n)
      answered why n fine = says l _ n from (bodies.VoteReply ask.asked ask.dry why) fine known tt (λ entry there. absurd there)

      go : (why : Option VoteRefusal) → FinePlan l (vote_decided next node from ask why)
      go why =
          plan_if l (not ask.dry && nat_lt node.term ask.asked) _ _
          (λ is. (
            doubt_fine l node (vote_record ask.asked (vote_for from why)) ok (voted_fine l.nodes from why known),
            answered why _ (turned_fine l node ask.asked (vote_for from why) ok (voted_fine l.nodes from why known) room),
          ))
          (λ is. plan_if l (not ask.dry && (ask.asked == node.term && is_some (vote_for from why))) _ _
          (λ given.
          let more : NodeFine l (stored node (vote_record node.term (Some from))) = stored_fine l node (vote_record node.term (Some from)) ok known room in (
            doubt_fine l node (vote_record node.term (Some from)) ok known,
            answered why _ (
              more.0,
              record { number_is = ok.1.number_is; known = ok.1.known; voted = known; config_fine = ok.1.config_fine; first_fine = ok.1.first_fine },
              more.2,
              more.3,
            ),
          ))
          (λ none. answered why node ok))

  dry_fine : (node : Node) (asked : ℕ) (why : Option VoteRefusal) (tally : Option DryTally) → NodeFine l node → FineOutcome l (dry_told node from asked why tally)
  dry_fine node asked why None ok = quiet l _ node ok
  dry_fine node asked why (Some tally) ok = end_if l (tally.term == asked && asked == node.term) _ _ (λ is. counted why) (λ is. quiet l _ node ok)
    where
      counted : (reason : Option VoteRefusal) → FineOutcome l (dry_counted node tally from reason)
      counted None = quiet l _ _ ok
      counted (Some reason) = quiet l _ node ok

  vote_told_fine : (node : Node) (asked : ℕ) (why : Option VoteRefusal) → NodeFine l node → FineOutcome l (vote_told node from asked why)
  vote_told_fine node asked why ok =
      end_if l (not (is_candidate node.role)) _ _ (λ is. quiet l _ node ok) (λ is.
      end_if l (not (asked == node.term)) _ _ (λ other. quiet l _ node ok) (λ here. counted why))
    where
      counted : (reason : Option VoteRefusal) → FineOutcome l (vote_counted node from reason)
      counted None = end_if l (is_elected (record node { tally = with_vote node.config node.tally from })) _ _ (λ is. quiet l _ _ ok) (λ is. quiet l _ _ ok)
      counted (Some reason) = quiet l _ node ok

  vote_reply_fine : (node : Node) (asked : ℕ) (dry : Bool) (why : Option VoteRefusal) → NodeFine l node → FineOutcome l (vote_reply_told node from asked dry why)
  vote_reply_fine node asked true why ok = dry_fine node asked why node.dry_tally ok
  vote_reply_fine node asked false why ok = vote_told_fine node asked why ok

  heard_fine : (node : Node) (beat : Beat) (answer : Node → Outcome) → NodeFine l node → IsLawfulConfig l.nodes beat.config → length node.records + 1 ≤ l.records
      → ((n : Node) → NodeFine l n → FineOutcome l (answer n)) → FinePlan l (heard node from beat answer)
  heard_fine node beat answer ok config room fine =
      plan_if l (is_secondary (given_way node beat).role && is_newer beat.config (given_way node beat).config) _ _
      (λ is.
      let more : NodeFine l (stored node (config_record beat.config)) = stored_fine l node (config_record beat.config) ok config room in (
        doubt_fine l node (config_record beat.config) ok config,
        fine _ (
          ok.0,
          record { number_is = ok.1.number_is; known = ok.1.known; voted = ok.1.voted; config_fine = config; first_fine = ok.1.first_fine },
          more.2,
          more.3,
        ),
      ))
      (λ is. fine _ ok)

  beat_told_fine : (next : ℕ) (node : Node) (term : ℕ) (beat : Beat) → NodeFine l node → IsLawfulConfig l.nodes beat.config → length node.records + 1 ≤ l.records → FinePlan l (beat_told next node from term beat)
  beat_told_fine next node term beat ok config room = plan_if l (nat_lt term node.term) _ _ (λ is. quiet l _ node ok) (λ is.
      heard_fine node beat (λ n. sending (reply.Replied next) n from (bodies.HeartbeatReply (beat_of n))) ok config room
      (λ n fine. says l _ n from (bodies.HeartbeatReply (beat_of n)) fine known fine.1.config_fine (λ entry there. absurd there)))

  beat_answered_fine : (node : Node) (term : ℕ) (beat : Beat) → NodeFine l node → IsLawfulConfig l.nodes beat.config → length node.records + 1 ≤ l.records → FinePlan l (beat_answered node from term beat)
  beat_answered_fine node term beat ok config room = plan_if l (nat_lt term node.term) _ _ (λ is. quiet l _ node ok) (λ is.
      heard_fine node beat (λ n. replied reply.Heard n) ok config room (λ n fine. quiet l _ n fine))

common_told_fine : (l : Limits) (node : Node) (term : ℕ) (after : OpTime) (optimes : List OpTime) (visible : OpTime) → NodeFine l node → length node.records + 1 ≤ l.records → node.rollback + 1 ≤ l.rollbacks
    → FinePlan l (common_told node term after optimes visible)
common_told_fine l node term after optimes visible ok room ids = go (rollback_reason node term after optimes visible)
  where
    point : OpTime
    point = common_point node.log after optimes

    go : (why : Option Ignored) → FinePlan l (roll_back node (common_point node.log after optimes) why)
    go (Some why) = quiet l _ node ok
    go None =
        let more : NodeFine l (stored node (cut_record (common_point node.log after optimes))) = stored_fine l node (cut_record (common_point node.log after optimes)) ok tt room in (
          doubt_fine l node (cut_record (common_point node.log after optimes)) ok tt,
          quiet l _ _ (
            record { seen_most = ok.0.seen_most; timely = filter_timely l.time _ node.log ok.0.timely; slots = ok.0.slots },
            ok.1,
            more.2,
            record { clock_most = ok.3.clock_most; rollback_most = ids; records_most = more.3.records_most },
          ),
        )

told_fine : (l : Limits) (next from to term : ℕ) (body : Body) (node : Node) → NodeFine l node → FineMessage l.nodes l.time (record { from = from; to = to; term = term; body = body })
    → length node.records + 1 ≤ l.records → node.rollback + 1 ≤ l.rollbacks → FinePlan l (told next from term body node)
told_fine l next from to term (bodies.Fetch base) node ok fine room ids = fetch_told_fine l from fine.sender next node base ok
told_fine l next from to term (bodies.FetchReply fetched) node ok fine room ids = entries_fine l from fine.sender node fetched ok fine.entries
told_fine l next from to term (bodies.Report config durable) node ok fine room ids = report_fine l from fine.sender node term config durable ok
told_fine l next from to term (bodies.VoteAsk ask) node ok fine room ids = vote_asked_fine l from fine.sender next node ask ok room
told_fine l next from to term (bodies.VoteReply asked dry why) node ok fine room ids = vote_reply_fine l from fine.sender node asked dry why ok
told_fine l next from to term (bodies.Heartbeat beat) node ok fine room ids = beat_told_fine l from fine.sender next node term beat ok fine.config room
told_fine l next from to term (bodies.HeartbeatReply beat) node ok fine room ids = beat_answered_fine l from fine.sender node term beat ok fine.config room
told_fine l next from to term (bodies.CommonAsk after) node ok fine room ids = says l _ node from (bodies.CommonReply _ _ _) ok fine.sender tt (λ entry there. absurd there)
told_fine l next from to term (bodies.CommonReply after optimes visible) node ok fine room ids = common_told_fine l node term after optimes visible ok room ids

pub deliver_fine : (l : Limits) (next : ℕ) (node : Node) (message : Message) → NodeFine l node → FineMessage l.nodes l.time message
    → length node.records + 2 ≤ l.records → node.rollback + 1 ≤ l.rollbacks → FinePlan l (deliver next node message)
deliver_fine l next node message ok fine room ids =
    plan_up l node _ ok (plan_unless l node (body_refusal node message.term message.body) _ ok (λ none.
    plan_if l (brings_term message.body && nat_lt node.term message.term) _ _
    (λ is. (
      doubt_fine l node (vote_record message.term None) ok tt,
      told_fine l next message.from message.to message.term message.body _ (turned_fine l node message.term None ok tt (omega (arith, room))) fine long ids,
    ))
    (λ is. told_fine l next message.from message.to message.term message.body node ok fine (omega (arith, room)) ids)))
  where
    long : length (node.records ++ records.Vote (record { term = message.term; candidate = None }) ∷ []) + 1 ≤ l.records
    long =
        let more : length (node.records ++ records.Vote (record { term = message.term; candidate = None }) ∷ []) ≡ length node.records + 1 =
        length-append node.records (records.Vote (record { term = message.term; candidate = None }) ∷ []) in
        omega (arith, more, room)
