-- What each message leaves of a node's points.
use Rattle.std.proofs.Common.{◌≡◌, ap, subst, refl, ℕ, Bool, true, false, not, ◌&&◌, ◌==◌, nat_lt, cond, is_some, Option, None, Some, if◌then◌else◌, List}
use Rattle.rs_optime.specs.Order.{AtMost}
use Rattle.rs_optime.specs.declared.optime.OpTime.{OpTime}
use Rattle.rs_optime.proofs.Optimes.{at_most_refl, at_most_trans, earlier_left, later_left}
use Rattle.oplog_entry.specs.Visible.{last_of}
use Rattle.member_config.specs.Config.{is_newer}
use Rattle.member_config.specs.Voters.{is_member}
use Rattle.repl_msg.specs.declared.message.Beat.{Beat}
use Rattle.repl_msg.specs.declared.message.Body.{Body}
use Rattle.repl_msg.specs.declared.message.Body.TheVariants as bodies
use Rattle.repl_msg.specs.declared.message.FetchReply.{FetchReply}
use Rattle.repl_msg.specs.declared.message.Message.{Message}
use Rattle.repl_msg.specs.declared.message.VoteAsk.{VoteAsk}
use Rattle.repl_msg.specs.declared.message.VoteRefusal.{VoteRefusal}
use Rattle.set_model.specs.declared.reply.Ignored.{Ignored}
use Rattle.set_model.specs.declared.reply.Reply.TheVariants as reply
use Rattle.set_model.specs.declared.role.Role.{Role}
use Rattle.set_model.specs.declared.role.Role.TheVariants as roles
use Rattle.set_model.specs.Beats.{heard, given_way, beat_told, beat_answered, beat_of, commit_heard, learns}
use Rattle.set_model.specs.Changes.{heard_of, in_new_term, installed}
use Rattle.set_model.specs.Deliver.{body_refusal, brings_term, vote_reply_told, told, termed, deliver}
use Rattle.set_model.specs.Fetching.{entries_told}
use Rattle.set_model.specs.Node.{Node, DryTally}
use Rattle.set_model.specs.Outcome.{Outcome, replied, sending}
use Rattle.set_model.specs.Points.{applied_point, commit_after, earlier_of, last_point, same_optime}
use Rattle.set_model.specs.Reports.{report_told}
use Rattle.set_model.specs.Roles.{is_secondary, is_candidate, is_primary}
use Rattle.set_model.specs.Rollback.{common_told, common_point, roll_back, rollback_reason, cut_record}
use Rattle.set_model.specs.Stores.{stored, vote_record, config_record}
use Rattle.set_model.specs.Votes.{vote_asked, vote_decided, vote_refusal, vote_for, with_vote, vote_told, vote_counted, is_elected, dry_told, dry_counted}
use Rattle.history_laws.proofs.Plans.{PlanEnds, end_if, plan_if, plan_unless, plan_up}
use Rattle.history_laws.proofs.PointSteps.{broken_goes, itself_goes}
use Rattle.history_laws.proofs.Points.{Goes, Kept, Still, evaluated_commit, kept_goes, lowered, risen, shown_point, still_itself}

-- what a common point must be, if a message makes a node roll back
abbrev pub GoesBackTo : OpTime → Node → ℕ → Body → Type 0
GoesBackTo commit node term body =
    (after : OpTime) (optimes : List OpTime) (visible : OpTime) → body ≡ bodies.CommonReply after optimes visible → rollback_reason node term after optimes visible ≡ None
    → AtMost commit (common_point node.log after optimes)

module _ (old : Node) (up : old.up ≡ true) (top : AtMost old.commit (last_of old.log)) (from : ℕ) where
  abbrev Ends : Outcome → Type 0
  Ends outcome = Goes old outcome.node

  quiet : (node : Node) → Still old node → Goes old node
  quiet node still = kept_goes old node up still.0

  rises : (node : Node) → Still old node → (new : Node) → AtMost node.commit new.commit → new.role ≡ node.role → new.applied ≡ node.applied → new.stable ≡ node.stable → Kept old new
  rises node still new more role_is applied_is stable_is = risen old node new.commit still.0 more new refl role_is applied_is stable_is

  alike : (node : Node) → Still old node → (new : Node) → new.commit ≡ node.commit → new.role ≡ node.role → new.applied ≡ node.applied → new.stable ≡ node.stable → Kept old new
  alike node still new commit_is role_is applied_is stable_is = risen old node node.commit still.0 (at_most_refl node.commit) new commit_is role_is applied_is stable_is

  turned : (node : Node) (term : ℕ) (vote : Option ℕ) → Still old node → Still old (in_new_term (stored node (vote_record term vote)) term vote)
  turned node term vote still = (record { commit = still.0.commit; applied = λ is. lowered old node top still; stable = still.0.stable }, still.1)

  given_way_still : (node : Node) (beat : Beat) → Still old node → Still old (given_way node beat)
  given_way_still node beat still = (record { commit = still.0.commit; applied = λ is. still.0.applied (way node.role beat.primary is); stable = still.0.stable }, still.1)
    where
      way : (role : Role) (primary : Bool) → is_primary (cond (is_candidate role && primary) roles.Secondary role) ≡ false → is_primary role ≡ false
      way roles.Primary primary is = is
      way roles.Secondary primary is = refl
      way roles.Candidate primary is = refl
      way roles.Draining primary is = refl

  entries_end : (node : Node) (fetched : FetchReply) → Still old node → Ends (entries_told node from fetched)
  entries_end node fetched still =
      end_if (Goes old) (not (is_secondary node.role)) _ _ (λ is. quiet node still) (λ is.
      end_if (Goes old) (not (fetched.holds && same_optime fetched.base (last_point node))) _ _ (λ other. quiet node still)
      (λ here. kept_goes old _ up (rises node still _ (later_left node.commit (earlier_of fetched.commit node.durable)) refl refl refl)))

  report_ends : (node : Node) (term : ℕ) (config : ℕ × ℕ) (durable : OpTime) → Still old node → Ends (report_told node from term config durable)
  report_ends node term config durable still =
      end_if (Goes old) (nat_lt term node.term) _ _ (λ is. quiet node still) (λ is.
      end_if (Goes old) (not (is_primary node.role)) _ _ (λ other. quiet node still) (λ primary.
      end_if (Goes old) (not (is_member node.config from)) _ _ (λ other. quiet node still)
      (λ member. kept_goes old _ up (rises node still _ (evaluated_commit node.role node.commit node.durable _) refl refl refl))))

  vote_asked_goes : (next : ℕ) (node : Node) (ask : VoteAsk) → Still old node → PlanEnds (Goes old) (vote_asked next node from ask)
  vote_asked_goes next node ask still = go (vote_refusal node ask)
    where
      go : (why : Option VoteRefusal) → PlanEnds (Goes old) (vote_decided next node from ask why)
      go why =
          plan_if (Goes old) (not ask.dry && nat_lt node.term ask.asked) _ _
          (λ is. (
            broken_goes old node (vote_record ask.asked (vote_for from why)),
            quiet (in_new_term (stored node (vote_record ask.asked (vote_for from why))) ask.asked (vote_for from why)) (turned node ask.asked (vote_for from why) still),
          ))
          (λ is. plan_if (Goes old) (not ask.dry && (ask.asked == node.term && is_some (vote_for from why))) _ _
          (λ given. (
            broken_goes old node (vote_record node.term (Some from)),
            kept_goes old (record (stored node (vote_record node.term (Some from))) { vote = Some from }) up
                (alike node still (record (stored node (vote_record node.term (Some from))) { vote = Some from }) refl refl refl refl),
          ))
          (λ none. quiet node still))

  dry_ends : (node : Node) (asked : ℕ) (why : Option VoteRefusal) (tally : Option DryTally) → Still old node → Ends (dry_told node from asked why tally)
  dry_ends node asked why None still = quiet node still
  dry_ends node asked why (Some tally) still = end_if (Goes old) (tally.term == asked && asked == node.term) _ _ (λ is. counted why) (λ is. quiet node still)
    where
      counted : (reason : Option VoteRefusal) → Ends (dry_counted node tally from reason)
      counted None = kept_goes old _ up (alike node still _ refl refl refl refl)
      counted (Some reason) = quiet node still

  vote_told_ends : (node : Node) (asked : ℕ) (why : Option VoteRefusal) → Still old node → Ends (vote_told node from asked why)
  vote_told_ends node asked why still =
      end_if (Goes old) (not (is_candidate node.role)) _ _ (λ is. quiet node still) (λ is.
      end_if (Goes old) (not (asked == node.term)) _ _ (λ other. quiet node still) (λ here. counted is why))
    where
      apart : (role : Role) → not (is_candidate role) ≡ false → is_primary role ≡ false
      apart roles.Candidate candidate = refl
      apart roles.Secondary candidate = refl
      apart roles.Draining candidate = refl
      apart roles.Primary candidate = absurd (let clash : true ≡ false = candidate in cc clash)

      counted : not (is_candidate node.role) ≡ false → (reason : Option VoteRefusal) → Ends (vote_counted node from reason)
      counted candidate None = end_if (Goes old) (is_elected (record node { tally = with_vote node.config node.tally from })) _ _
          (λ is. kept_goes old _ up (record { commit = still.0.commit; applied = λ other. still.0.applied (apart node.role candidate); stable = still.0.stable }))
          (λ is. kept_goes old _ up (alike node still _ refl refl refl refl))
      counted candidate (Some reason) = quiet node still

  vote_reply_ends : (node : Node) (asked : ℕ) (dry : Bool) (why : Option VoteRefusal) → Still old node → Ends (vote_reply_told node from asked dry why)
  vote_reply_ends node asked true why still = dry_ends node asked why node.dry_tally still
  vote_reply_ends node asked false why still = vote_told_ends node asked why still

  -- a commit point that is heard of
  heard_kept : (node : Node) (beat : Beat) → Still old node → Kept old (commit_heard (heard_of node from beat.visible beat.primary) beat)
  heard_kept node beat still = rises node still (commit_heard (heard_of node from beat.visible beat.primary) beat) (go (learns (heard_of node from beat.visible beat.primary) beat)) refl refl refl
    where
      go : (b : Bool) → AtMost node.commit (if b then commit_after (heard_of node from beat.visible beat.primary) beat.commit else node.commit)
      go true = later_left node.commit (earlier_of beat.commit node.durable)
      go false = at_most_refl node.commit

  heard_goes : (node : Node) (beat : Beat) (answer : Node → Outcome) → Still old node → ((n : Node) → Kept old n → Ends (answer n)) → PlanEnds (Goes old) (heard node from beat answer)
  heard_goes node beat answer still goes =
      plan_if (Goes old) (is_secondary (given_way node beat).role && is_newer beat.config (given_way node beat).config) _ _
      (λ is. (
        broken_goes old (given_way node beat) (config_record beat.config),
        goes (commit_heard (heard_of (installed (stored (given_way node beat) (config_record beat.config)) beat.config) from beat.visible beat.primary) beat)
            (heard_kept (installed (stored (given_way node beat) (config_record beat.config)) beat.config) beat
            (alike (given_way node beat) (given_way_still node beat still) (installed (stored (given_way node beat) (config_record beat.config)) beat.config) refl refl refl refl, still.1)),
      ))
      (λ is. goes (commit_heard (heard_of (given_way node beat) from beat.visible beat.primary) beat) (heard_kept (given_way node beat) beat (given_way_still node beat still)))

  beat_told_goes : (next : ℕ) (node : Node) (term : ℕ) (beat : Beat) → Still old node → PlanEnds (Goes old) (beat_told next node from term beat)
  beat_told_goes next node term beat still = plan_if (Goes old) (nat_lt term node.term) _ _ (λ is. quiet node still)
      (λ is. heard_goes node beat (λ n. sending (reply.Replied next) n from (bodies.HeartbeatReply (beat_of n))) still (λ n has. kept_goes old n up has))

  beat_answered_goes : (node : Node) (term : ℕ) (beat : Beat) → Still old node → PlanEnds (Goes old) (beat_answered node from term beat)
  beat_answered_goes node term beat still = plan_if (Goes old) (nat_lt term node.term) _ _ (λ is. quiet node still)
      (λ is. heard_goes node beat (λ n. replied reply.Heard n) still (λ n has. kept_goes old n up has))

  common_told_goes : (node : Node) (term : ℕ) (after : OpTime) (optimes : List OpTime) (visible : OpTime) → Still old node
      → (rollback_reason node term after optimes visible ≡ None → AtMost old.commit (common_point node.log after optimes)) → PlanEnds (Goes old) (common_told node term after optimes visible)
  common_told_goes node term after optimes visible still back = go (rollback_reason node term after optimes visible) refl
    where
      go : (why : Option Ignored) → rollback_reason node term after optimes visible ≡ why → PlanEnds (Goes old) (roll_back node (common_point node.log after optimes) why)
      go (Some why) is = quiet node still
      go None is = (
        broken_goes old node (cut_record (common_point node.log after optimes)),
        kept_goes old _ up (record {
          commit = still.0.commit;
          applied = λ other. at_most_trans (shown_point old) old.commit (common_point node.log after optimes) (earlier_left old.commit (applied_point old)) (back is);
          stable = still.0.stable;
        }),
      )

  told_goes : (next term : ℕ) (body : Body) (node : Node) → Still old node → GoesBackTo old.commit node term body → PlanEnds (Goes old) (told next from term body node)
  told_goes next term (bodies.Fetch base) node still back = quiet node still
  told_goes next term (bodies.FetchReply fetched) node still back = entries_end node fetched still
  told_goes next term (bodies.Report config durable) node still back = report_ends node term config durable still
  told_goes next term (bodies.VoteAsk ask) node still back = vote_asked_goes next node ask still
  told_goes next term (bodies.VoteReply asked dry why) node still back = vote_reply_ends node asked dry why still
  told_goes next term (bodies.Heartbeat beat) node still back = beat_told_goes next node term beat still
  told_goes next term (bodies.HeartbeatReply beat) node still back = beat_answered_goes node term beat still
  told_goes next term (bodies.CommonAsk after) node still back = quiet node still
  told_goes next term (bodies.CommonReply after optimes visible) node still back = common_told_goes node term after optimes visible still (back after optimes visible refl)

pub deliver_goes : (next : ℕ) (node : Node) (message : Message) → (node.up ≡ true → AtMost node.commit (last_of node.log)) → (node.up ≡ true → GoesBackTo node.commit (termed node message) message.term message.body)
    → PlanEnds (Goes node) (deliver next node message)
deliver_goes next node message top back =
    plan_up (Goes node) node _ (itself_goes node) (λ up. plan_unless (Goes node) node (body_refusal node message.term message.body) _ (itself_goes node)
    (plan_if (Goes node) (brings_term message.body && nat_lt node.term message.term) _ _
    (λ is. (
      broken_goes node node (vote_record message.term None),
      told_goes node up (top up) message.from next message.term message.body (in_new_term (stored node (vote_record message.term None)) message.term None)
          (turned node up (top up) message.from node message.term None (still_itself node))
          (λ after optimes visible body_is none. by_termed (in_new_term node message.term None) (ap (λ b. if b then in_new_term node message.term None else node) is) (back up) after optimes visible body_is none),
    ))
    (λ is. told_goes node up (top up) message.from next message.term message.body node (still_itself node)
    (by_termed node (ap (λ b. if b then in_new_term node message.term None else node) is) (back up)))))
  where
    by_termed : (n : Node) → termed node message ≡ n → GoesBackTo node.commit (termed node message) message.term message.body
        → GoesBackTo node.commit n message.term message.body
    by_termed n same back = subst (λ m. GoesBackTo node.commit m message.term message.body) same back
