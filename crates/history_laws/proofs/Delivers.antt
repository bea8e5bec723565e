-- What each message leaves of the documents that writers hold. A message writes nothing where a node leads.
use Rattle.std.proofs.Common.{◌≡◌, ◌∙◌, inl, inr, ap, sym, refl, ℕ, Bool, true, false, not, ◌&&◌, ◌==◌, nat_lt, cond, is_some, Option, None, Some, List}
use Rattle.std.proofs.lemmas.Bool.{not-false}
use Rattle.rs_optime.specs.declared.optime.OpTime.{OpTime}
use Rattle.member_config.specs.Config.{is_newer}
use Rattle.member_config.specs.Voters.{is_member}
use Rattle.repl_msg.specs.declared.message.Beat.{Beat}
use Rattle.repl_msg.specs.declared.message.Body.{Body}
use Rattle.repl_msg.specs.declared.message.Body.TheVariants as bodies
use Rattle.repl_msg.specs.declared.message.FetchReply.{FetchReply}
use Rattle.repl_msg.specs.declared.message.Message.{Message}
use Rattle.repl_msg.specs.declared.message.VoteAsk.{VoteAsk}
use Rattle.repl_msg.specs.declared.message.VoteRefusal.{VoteRefusal}
use Rattle.set_model.specs.declared.reply.Ignored.{Ignored}
use Rattle.set_model.specs.declared.reply.Ignored.TheVariants as ignoring
use Rattle.set_model.specs.declared.reply.Reply.TheVariants as reply
use Rattle.set_model.specs.declared.role.Role.{Role}
use Rattle.set_model.specs.declared.role.Role.TheVariants as roles
use Rattle.set_model.specs.Beats.{heard, given_way, beat_told, beat_answered, beat_of}
use Rattle.set_model.specs.Changes.{in_new_term}
use Rattle.set_model.specs.Deliver.{body_refusal, brings_term, vote_reply_told, told, deliver}
use Rattle.set_model.specs.Fetching.{entries_told}
use Rattle.set_model.specs.Node.{Node, DryTally}
use Rattle.set_model.specs.Outcome.{Outcome, replied, sending}
use Rattle.set_model.specs.Points.{last_point, same_optime}
use Rattle.set_model.specs.Reports.{report_told}
use Rattle.set_model.specs.Roles.{is_leading, is_secondary, is_candidate, is_primary}
use Rattle.set_model.specs.Rollback.{common_told, common_point, roll_back, rollback_reason, cut_record}
use Rattle.set_model.specs.Stores.{stored, vote_record, config_record}
use Rattle.set_model.specs.Votes.{vote_asked, vote_decided, vote_answered, vote_refusal, vote_for, with_vote, vote_told, vote_counted, is_elected, dry_told, dry_counted}
use Rattle.safety_laws.proofs.Steps.{secondary_is}
use Rattle.safety_laws.proofs.Voters.{unless_some}
use Rattle.history_laws.proofs.Holding.{Ends, Goes, Holding, PlanGoes, Still, broken_goes, closed_by, closed_holds, still_goes}
use Rattle.history_laws.proofs.Plans.{end_if, plan_if, plan_unless, plan_up}
use Rattle.history_laws.proofs.Rows.{lost_closed}

no_primary : (role : Role) → role ≡ roles.Secondary → role ≡ roles.Primary → ⊥
no_primary role one two = let clash : roles.Secondary ≡ roles.Primary = sym one ∙ two in cc clash

no_leader : (role : Role) → role ≡ roles.Secondary → is_leading role ≡ false
no_leader role is = ap is_leading is

module _ (old : Node) (from : ℕ) where
  -- a vote of this term is kept, and the node is a secondary of that term
  turned : (node : Node) (term : ℕ) (vote : Option ℕ) → Still old node → Still old (in_new_term (stored node (vote_record term vote)) term vote)
  turned node term vote still = (closed_holds roles.Secondary node.log _ (lost_closed node), still.1)

  -- a candidate isn't primary, whether it gives way or not
  given_way_still : (node : Node) (beat : Beat) → Still old node → Still old (given_way node beat)
  given_way_still node beat still = (
    record {
      primary = λ number at op is. way node.role beat.primary (still.0.primary number at op is);
      alone = still.0.alone;
      later = still.0.later;
    },
    still.1,
  )
    where
      way : (role : Role) (primary : Bool) → role ≡ roles.Primary → cond (is_candidate role && primary) roles.Secondary role ≡ roles.Primary
      way roles.Primary primary is = refl
      way roles.Secondary primary is = absurd (cc is)
      way roles.Candidate primary is = absurd (cc is)
      way roles.Draining primary is = absurd (cc is)

  entries_end : (node : Node) (fetched : FetchReply) → Still old node → Ends old (entries_told node from fetched)
  entries_end node fetched still =
      end_if (Goes old) (not (is_secondary node.role)) _ _ (λ is. still_goes old node still) (λ is.
      end_if (Goes old) (not (fetched.holds && same_optime fetched.base (last_point node))) _ _ (λ other. still_goes old node still)
      (λ here. let secondary : node.role ≡ roles.Secondary = secondary_is node.role (not-false (is_secondary node.role) is) in
      (closed_holds node.role _ node.writers (closed_by node still.0 (no_primary node.role secondary)), inr (inl (no_leader node.role secondary)))))

  report_ends : (node : Node) (term : ℕ) (config : ℕ × ℕ) (durable : OpTime) → Still old node → Ends old (report_told node from term config durable)
  report_ends node term config durable still =
      end_if (Goes old) (nat_lt term node.term) _ _ (λ is. still_goes old node still) (λ is.
      end_if (Goes old) (not (is_primary node.role)) _ _ (λ other. still_goes old node still) (λ primary.
      end_if (Goes old) (not (is_member node.config from)) _ _ (λ other. still_goes old node still) (λ member. (still.0, inl still.1))))

  vote_asked_goes : (next : ℕ) (node : Node) (ask : VoteAsk) → Still old node → PlanGoes old (vote_asked next node from ask)
  vote_asked_goes next node ask still = go (vote_refusal node ask)
    where
      answered : (why : Option VoteRefusal) (n : Node) → Still old n → PlanGoes old (vote_answered next from ask why n)
      answered why n has = still_goes old n has

      go : (why : Option VoteRefusal) → PlanGoes old (vote_decided next node from ask why)
      go why =
          plan_if (Goes old) (not ask.dry && nat_lt node.term ask.asked) _ _
          (λ is. (broken_goes old node (vote_record ask.asked (vote_for from why)), answered why (in_new_term (stored node (vote_record ask.asked (vote_for from why))) ask.asked (vote_for from why)) (turned node ask.asked (vote_for from why) still)))
          (λ is. plan_if (Goes old) (not ask.dry && (ask.asked == node.term && is_some (vote_for from why))) _ _
          (λ given. (broken_goes old node (vote_record node.term (Some from)), (still.0, inl still.1)))
          (λ none. answered why node still))

  dry_ends : (node : Node) (asked : ℕ) (why : Option VoteRefusal) (tally : Option DryTally) → Still old node → Ends old (dry_told node from asked why tally)
  dry_ends node asked why None still = still_goes old node still
  dry_ends node asked why (Some tally) still = end_if (Goes old) (tally.term == asked && asked == node.term) _ _ (λ is. counted why) (λ is. still_goes old node still)
    where
      counted : (reason : Option VoteRefusal) → Ends old (dry_counted node tally from reason)
      counted None = (still.0, inl still.1)
      counted (Some reason) = still_goes old node still

  vote_told_ends : (node : Node) (asked : ℕ) (why : Option VoteRefusal) → Still old node → Ends old (vote_told node from asked why)
  vote_told_ends node asked why still =
      end_if (Goes old) (not (is_candidate node.role)) _ _ (λ is. still_goes old node still) (λ is.
      end_if (Goes old) (not (asked == node.term)) _ _ (λ other. still_goes old node still) (λ here. counted is why))
    where
      -- a candidate has no open writer
      apart : (role : Role) → not (is_candidate role) ≡ false → role ≡ roles.Primary → ⊥
      apart role candidate primary = absurd (cc (candidate, primary))

      counted : not (is_candidate node.role) ≡ false → (reason : Option VoteRefusal) → Ends old (vote_counted node from reason)
      counted candidate None = end_if (Goes old) (is_elected (record node { tally = with_vote node.config node.tally from })) _ _
          (λ is. (closed_holds roles.Draining node.log node.writers (closed_by node still.0 (apart node.role candidate)), inl still.1))
          (λ is. (still.0, inl still.1))
      counted candidate (Some reason) = still_goes old node still

  vote_reply_ends : (node : Node) (asked : ℕ) (dry : Bool) (why : Option VoteRefusal) → Still old node → Ends old (vote_reply_told node from asked dry why)
  vote_reply_ends node asked true why still = dry_ends node asked why node.dry_tally still
  vote_reply_ends node asked false why still = vote_told_ends node asked why still

  heard_goes : (node : Node) (beat : Beat) (answer : Node → Outcome) → Still old node → ((n : Node) → Still old n → Ends old (answer n)) → PlanGoes old (heard node from beat answer)
  heard_goes node beat answer still goes =
      plan_if (Goes old) (is_secondary (given_way node beat).role && is_newer beat.config (given_way node beat).config) _ _
      (λ is. (broken_goes old (given_way node beat) (config_record beat.config), goes _ (given_way_still node beat still)))
      (λ is. goes _ (given_way_still node beat still))

  beat_told_goes : (next : ℕ) (node : Node) (term : ℕ) (beat : Beat) → Still old node → PlanGoes old (beat_told next node from term beat)
  beat_told_goes next node term beat still = plan_if (Goes old) (nat_lt term node.term) _ _ (λ is. still_goes old node still)
      (λ is. heard_goes node beat (λ n. sending (reply.Replied next) n from (bodies.HeartbeatReply (beat_of n))) still (λ n has. still_goes old n has))

  beat_answered_goes : (node : Node) (term : ℕ) (beat : Beat) → Still old node → PlanGoes old (beat_answered node from term beat)
  beat_answered_goes node term beat still = plan_if (Goes old) (nat_lt term node.term) _ _ (λ is. still_goes old node still) (λ is. heard_goes node beat (λ n. replied reply.Heard n) still (λ n has. still_goes old n has))

  common_told_goes : (node : Node) (term : ℕ) (after : OpTime) (optimes : List OpTime) (visible : OpTime) → Still old node → PlanGoes old (common_told node term after optimes visible)
  common_told_goes node term after optimes visible still = go (rollback_reason node term after optimes visible) refl
    where
      go : (why : Option Ignored) → rollback_reason node term after optimes visible ≡ why → PlanGoes old (roll_back node (common_point node.log after optimes) why)
      go (Some why) is = still_goes old node still
      go None is =
          let first : (not (is_secondary node.role) ≡ false) × _ = unless_some (not (is_secondary node.role)) ignoring.NotSecondary _ is in
          let secondary : node.role ≡ roles.Secondary = secondary_is node.role (not-false (is_secondary node.role) first.0) in (
            broken_goes old node (cut_record (common_point node.log after optimes)),
            (closed_holds node.role _ node.writers (closed_by node still.0 (no_primary node.role secondary)), inr (inl (no_leader node.role secondary))),
          )

  told_goes : (next term : ℕ) (body : Body) (node : Node) → Still old node → PlanGoes old (told next from term body node)
  told_goes next term (bodies.Fetch base) node still = still_goes old node still
  told_goes next term (bodies.FetchReply fetched) node still = entries_end node fetched still
  told_goes next term (bodies.Report config durable) node still = report_ends node term config durable still
  told_goes next term (bodies.VoteAsk ask) node still = vote_asked_goes next node ask still
  told_goes next term (bodies.VoteReply asked dry why) node still = vote_reply_ends node asked dry why still
  told_goes next term (bodies.Heartbeat beat) node still = beat_told_goes next node term beat still
  told_goes next term (bodies.HeartbeatReply beat) node still = beat_answered_goes node term beat still
  told_goes next term (bodies.CommonAsk after) node still = still_goes old node still
  told_goes next term (bodies.CommonReply after optimes visible) node still = common_told_goes node term after optimes visible still

pub deliver_goes : (next : ℕ) (node : Node) (message : Message) → Holding node → PlanGoes node (deliver next node message)
deliver_goes next node message ok =
    plan_up (Goes node) node _ (still_goes node node (ok, refl)) (λ up. plan_unless (Goes node) node (body_refusal node message.term message.body) _ (still_goes node node (ok, refl))
    (plan_if (Goes node) (brings_term message.body && nat_lt node.term message.term) _ _
    (λ is. (broken_goes node node (vote_record message.term None), told_goes node message.from next message.term message.body _ (turned node message.from node message.term None (ok, refl))))
    (λ is. told_goes node message.from next message.term message.body node (ok, refl))))
