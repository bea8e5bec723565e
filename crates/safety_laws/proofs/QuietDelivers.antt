-- What the reply to a message says about what it changed.
use Rattle.std.proofs.Common.{◌≡◌, ◌∙◌, ◌≤◌, ◌<◌, arith, ltb-true, ap, sym, subst, refl, ℕ, Bool, true, false, not, ◌&&◌, nat_lt, ◌==◌, is_some, Option, None, Some, if◌then◌else◌, List, [], ◌∷◌, ◌++◌, length}
use Rattle.std.proofs.lemmas.List.Sums.{fold-append}
use Rattle.member_config.specs.Config.{is_newer}
use Rattle.member_config.specs.Voters.{is_member}
use Rattle.repl_msg.specs.Fetching as fetching
use Rattle.repl_msg.specs.declared.message.Beat.{Beat}
use Rattle.repl_msg.specs.declared.message.Body.{Body}
use Rattle.repl_msg.specs.declared.message.Body.TheVariants.{Fetch, FetchReply as Fetched, Report as Reported, VoteAsk as Asks, VoteReply, Heartbeat, HeartbeatReply, CommonAsk, CommonReply}
use Rattle.repl_msg.specs.declared.message.FetchReply.{FetchReply}
use Rattle.repl_msg.specs.declared.message.Message.{Message}
use Rattle.repl_msg.specs.declared.message.VoteAsk.{VoteAsk}
use Rattle.repl_msg.specs.declared.message.VoteRefusal.{VoteRefusal}
use Rattle.rs_optime.specs.declared.optime.OpTime.{OpTime}
use Rattle.set_model.specs.declared.reply.Ignored.{Ignored}
use Rattle.set_model.specs.declared.reply.Ignored.TheVariants.{NotCandidate, OldTerm}
use Rattle.set_model.specs.declared.reply.Refusal.TheVariants as why
use Rattle.set_model.specs.declared.reply.Reply.TheVariants as reply
use Rattle.set_model.specs.declared.store.Store.{Store}
use Rattle.set_model.specs.Beats.{heard, given_way, beat_told, beat_answered, beat_of}
use Rattle.set_model.specs.Changes.{in_new_term}
use Rattle.set_model.specs.Deliver.{body_refusal, brings_term, deliver, take_term, told, vote_reply_told, with_term}
use Rattle.set_model.specs.Fetching.{entries_told}
use Rattle.set_model.specs.Node.{Node, DryTally, down}
use Rattle.set_model.specs.Outcome.{Outcome, ignored, refused, replied, sending}
use Rattle.set_model.specs.Points.{last_point, log_after}
use Rattle.set_model.specs.Reports.{report_told}
use Rattle.set_model.specs.Roles.{is_secondary, is_candidate, is_primary}
use Rattle.set_model.specs.Rollback.{common_point, common_told, cut_record, roll_back, rollback_reason, shown_in}
use Rattle.set_model.specs.Stores.{Plan, config_record, done, finished, in_doubt, records_after, stable_after, stored, storing, then_stored, unless_refused, vote_record}
use Rattle.set_model.specs.Votes.{dry_counted, dry_told, is_elected, vote_answered, vote_asked, vote_counted, vote_decided, vote_for, vote_refusal, vote_told, with_vote}
use Rattle.safety_laws.specs.Quiet.{with_stores, with_term_of}
use Rattle.safety_laws.proofs.QuietRows.{AreTame, IsTame, Owes, Works, changes, end_if, kind_of, tame_unless, tame_up, works_if}

-- ---- a node that was stored so much of, which is the one it was where it counts votes

module _ (base : Node) (earlier : List Store) (node : Node) (disks : down node ≡ down (with_stores base earlier))
    (asks : is_candidate node.role ≡ true → node ≡ base) (tries : (tally : DryTally) → node.dry_tally ≡ Some tally → node ≡ base) where
  abbrev Ends : Outcome → Type 0
  Ends outcome = IsTame base earlier node outcome

  plan_if : (test : Bool) (one two : Plan) → AreTame base earlier node one → AreTame base earlier node two → AreTame base earlier node (if test then one else two)
  plan_if true one two tame other = tame
  plan_if false one two tame other = other

  records_are : node.records ≡ (with_stores base earlier).records
  records_are = ap (λ (n : Node). n.records) disks

  stable_is : node.stable ≡ (with_stores base earlier).stable
  stable_is = ap (λ (n : Node). n.stable) disks

  other : (outcome : Outcome) → kind_of outcome.reply ≡ changes → outcome.node.records ≡ node.records → outcome.node.stable ≡ node.stable → Ends outcome
  other outcome is records stable = record { owes = subst (Owes base node outcome) (sym is) tt; records = records ∙ records_are; stable = stable ∙ stable_is }

  ignoring : (reason : Ignored) → Ends (ignored reason node)
  ignoring reason = record { owes = (refl, refl); records = records_are; stable = stable_is }

  unvoted : (reason : VoteRefusal) → node ≡ base → Ends (replied (reply.VoteRefused reason) node)
  unvoted reason same = record { owes = (same, refl); records = records_are; stable = stable_is }

  doubted : (store : Store) → in_doubt node store ≡ in_doubt (with_stores base earlier) store
  doubted store = ap (λ (n : Node). record n { doubt = Some store }) disks

  with_one : (store : Store) → with_stores base (earlier ++ store ∷ []) ≡ stored (with_stores base earlier) store
  with_one store = fold-append stored base earlier (store ∷ [])

  -- one store, and then a reply that tells of a change
  stores : (store : Store) (outcome : Outcome) → kind_of outcome.reply ≡ changes → outcome.node.records ≡ (stored node store).records → outcome.node.stable ≡ (stored node store).stable
      → AreTame base earlier node (storing (in_doubt node store) (finished outcome))
  stores store outcome is records stable = (
    store,
    doubted store,
    record {
      owes = subst (Owes base node outcome) (sym is) tt;
      records = records ∙ ap (λ list. records_after list store) records_are ∙ sym (ap (λ (n : Node). n.records) (with_one store));
      stable = stable ∙ ap (λ at. stable_after at store) stable_is ∙ sym (ap (λ (n : Node). n.stable) (with_one store));
    },
  )

  entries_tame : (from : ℕ) (fetched : FetchReply) → Ends (entries_told node from fetched)
  entries_tame from fetched =
      end_if base earlier node (not (is_secondary node.role)) _ _ (ignoring _)
      (end_if base earlier node (not (fetching.continues (last_point node) fetched)) _ _ (ignoring _) (other _ refl refl refl))

  report_tame : (from term : ℕ) (config : ℕ × ℕ) (durable : OpTime) → Ends (report_told node from term config durable)
  report_tame from term config durable =
      end_if base earlier node (nat_lt term node.term) _ _ (ignoring _)
      (end_if base earlier node (not (is_primary node.role)) _ _ (ignoring _)
      (end_if base earlier node (not (is_member node.config from)) _ _ (ignoring _) (other _ refl refl refl)))

  vote_asked_tame : (next from : ℕ) (ask : VoteAsk) → AreTame base earlier node (vote_asked next node from ask)
  vote_asked_tame next from ask = go (vote_refusal node ask)
    where
      go : (reason : Option VoteRefusal) → AreTame base earlier node (vote_decided next node from ask reason)
      go reason =
          plan_if (not ask.dry && nat_lt node.term ask.asked) _ _ (stores (vote_record ask.asked (vote_for from reason)) _ refl refl refl)
          (plan_if (not ask.dry && (ask.asked == node.term && is_some (vote_for from reason))) _ _ (stores (vote_record node.term (Some from)) _ refl refl refl) (other _ refl refl refl))

  dry_tame : (from asked : ℕ) (reason : Option VoteRefusal) → Ends (dry_told node from asked reason node.dry_tally)
  dry_tame from asked reason = go node.dry_tally refl
    where
      counted : (tally : DryTally) → node.dry_tally ≡ Some tally → (reason : Option VoteRefusal) → Ends (dry_counted node tally from reason)
      counted tally is None = other _ refl refl refl
      counted tally is (Some reason) = unvoted reason (tries tally is)

      go : (tally : Option DryTally) → node.dry_tally ≡ tally → Ends (dry_told node from asked reason tally)
      go None is = ignoring NotCandidate
      go (Some tally) is = end_if base earlier node (tally.term == asked && asked == node.term) _ _ (counted tally is reason) (ignoring NotCandidate)

  vote_told_tame : (from asked : ℕ) (reason : Option VoteRefusal) → Ends (vote_told node from asked reason)
  vote_told_tame from asked reason = go (is_candidate node.role) refl
    where
      counted : is_candidate node.role ≡ true → (reason : Option VoteRefusal) → Ends (vote_counted node from reason)
      counted is None = end_if base earlier node (is_elected (record node { tally = with_vote node.config node.tally from })) _ _ (other _ refl refl refl) (other _ refl refl refl)
      counted is (Some reason) = unvoted reason (asks is)

      go : (b : Bool) → is_candidate node.role ≡ b → Ends (if not b then ignored NotCandidate node else if not (asked == node.term) then ignored OldTerm node else vote_counted node from reason)
      go false is = ignoring NotCandidate
      go true is = end_if base earlier node (not (asked == node.term)) _ _ (ignoring OldTerm) (counted is reason)

  vote_reply_tame : (from asked : ℕ) (dry : Bool) (reason : Option VoteRefusal) → Ends (vote_reply_told node from asked dry reason)
  vote_reply_tame from asked true reason = dry_tame from asked reason
  vote_reply_tame from asked false reason = vote_told_tame from asked reason

  heard_tame : (from : ℕ) (beat : Beat) (answer : Node → Outcome) → ((n : Node) → (kind_of (answer n).reply ≡ changes) × ((answer n).node ≡ n)) → AreTame base earlier node (heard node from beat answer)
  heard_tame from beat answer tells =
      plan_if (is_secondary (given_way node beat).role && is_newer beat.config (given_way node beat).config) _ _
      (stores (config_record beat.config) _ (tells _).0 (ap (λ (n : Node). n.records) (tells _).1) (ap (λ (n : Node). n.stable) (tells _).1))
      (other _ (tells _).0 (ap (λ (n : Node). n.records) (tells _).1) (ap (λ (n : Node). n.stable) (tells _).1))

  beat_told_tame : (next from term : ℕ) (beat : Beat) → AreTame base earlier node (beat_told next node from term beat)
  beat_told_tame next from term beat =
      plan_if (nat_lt term node.term) _ _ (ignoring OldTerm) (heard_tame from beat (λ n. sending (reply.Replied next) n from (HeartbeatReply (beat_of n))) (λ n. (refl, refl)))

  beat_answered_tame : (from term : ℕ) (beat : Beat) → AreTame base earlier node (beat_answered node from term beat)
  beat_answered_tame from term beat = plan_if (nat_lt term node.term) _ _ (ignoring OldTerm) (heard_tame from beat (λ n. replied reply.Heard n) (λ n. (refl, refl)))

  common_told_tame : (term : ℕ) (after : OpTime) (optimes : List OpTime) (visible : OpTime) → AreTame base earlier node (common_told node term after optimes visible)
  common_told_tame term after optimes visible = go (rollback_reason node term after optimes visible)
    where
      go : (reason : Option Ignored) → AreTame base earlier node (roll_back node (common_point node.log after optimes) reason)
      go (Some reason) = ignoring reason
      go None = stores (cut_record (common_point node.log after optimes)) _ refl refl refl

  pub told_tame : (next from term : ℕ) (body : Body) → AreTame base earlier node (told next from term body node)
  told_tame next from term (Fetch at) = other _ refl refl refl
  told_tame next from term (Fetched fetched) = entries_tame from fetched
  told_tame next from term (Reported config durable) = report_tame from term config durable
  told_tame next from term (Asks ask) = vote_asked_tame next from ask
  told_tame next from term (VoteReply asked dry reason) = vote_reply_tame from asked dry reason
  told_tame next from term (Heartbeat beat) = beat_told_tame next from term beat
  told_tame next from term (HeartbeatReply beat) = beat_answered_tame from term beat
  told_tame next from term (CommonAsk after) = other _ refl refl refl
  told_tame next from term (CommonReply after optimes visible) = common_told_tame term after optimes visible

-- ---- each message

body_works : (node : Node) (term : ℕ) (body : Body) → Works (body_refusal node term body)
body_works node term (CommonAsk after) = works_if (nat_lt 20000 (length (log_after after (shown_in node term)))) (Some why.TooManyOptimes) None refl tt
body_works node term (Fetch at) = tt
body_works node term (Fetched fetched) = tt
body_works node term (Reported config durable) = tt
body_works node term (Asks ask) = tt
body_works node term (VoteReply asked dry reason) = tt
body_works node term (Heartbeat beat) = tt
body_works node term (HeartbeatReply beat) = tt
body_works node term (CommonReply after optimes visible) = tt

pub deliver_tame : (next : ℕ) (node : Node) (message : Message) → AreTame node [] (with_term_of message node) (deliver next node message)
deliver_tame next node message =
    tame_up node (with_term_of message node) _ (tame_unless node (with_term_of message node) (body_refusal node message.term message.body) _ (body_works node message.term message.body)
    (by_term (brings_term message.body && nat_lt node.term message.term)))
  where
    vote : Store
    vote = vote_record message.term None

    known : Node
    known = in_new_term (stored node vote) message.term None

    by_term : (b : Bool) → AreTame node [] (if b then known else node) (if b then take_term node message.term (told next message.from message.term message.body) else told next message.from message.term message.body node)
    by_term true = (vote, refl, told_tame node (vote ∷ []) known refl (λ is. absurd (cc is)) (λ tally is. absurd (cc is)) next message.from message.term message.body)
    by_term false = told_tame node [] node refl (λ is. refl) (λ tally is. refl) next message.from message.term message.body

-- ---- a vote that isn't given

pub unvoted_stays : (next : ℕ) (node : Node) (message : Message) (ask : VoteAsk) (reason : VoteRefusal) (failed : Option ℕ) → message.body ≡ Asks ask
    → vote_refusal node ask ≡ Some reason → ask.asked ≤ node.term → (done (deliver next node message) failed).node ≡ node
unvoted_stays next node message ask reason failed body_is refused_is within = by_up node.up
  where
    decided : (dry higher equal : Bool) → higher ≡ false
        → (done (if not dry && higher then then_stored node (vote_record ask.asked (vote_for message.from (Some reason))) (λ n. vote_answered next message.from ask (Some reason) (in_new_term n ask.asked (vote_for message.from (Some reason))))
        else if not dry && (equal && is_some (vote_for message.from (Some reason))) then then_stored node (vote_record node.term (Some message.from)) (λ n. vote_answered next message.from ask (Some reason) (record n { vote = Some message.from }))
        else vote_answered next message.from ask (Some reason) node) failed).node ≡ node
    decided true higher equal is = refl
    decided false true equal is = absurd (cc is)
    decided false false true is = refl
    decided false false false is = refl

    not_higher : (b : Bool) → nat_lt node.term ask.asked ≡ b → nat_lt node.term ask.asked ≡ false
    not_higher false is = is
    not_higher true is = let less : node.term < ask.asked = ltb-true node.term ask.asked is in absurd (omega (arith, less, within))

    asked : (done (vote_asked next node message.from ask) failed).node ≡ node
    asked = subst (λ found. (done (vote_decided next node message.from ask found) failed).node ≡ node) (sym refused_is)
        (decided ask.dry (nat_lt node.term ask.asked) (ask.asked == node.term) (not_higher (nat_lt node.term ask.asked) refl))

    by_body : (body : Body) → body ≡ Asks ask
        → (done (unless_refused (body_refusal node message.term body) node (if brings_term body && nat_lt node.term message.term then take_term node message.term (told next message.from message.term body) else told next message.from message.term body node)) failed).node ≡ node
    by_body (Asks own) is = subst (λ a. (done (vote_asked next node message.from a) failed).node ≡ node) (same_ask own is) asked
      where
        same_ask : (own : VoteAsk) → Asks own ≡ Asks ask → ask ≡ own
        same_ask own is = cc is
    by_body body is = absurd (cc is)

    by_up : (up : Bool) → (done (if up then unless_refused (body_refusal node message.term message.body) node (with_term node message (told next message.from message.term message.body)) else finished (refused why.NodeDown node)) failed).node ≡ node
    by_up true = by_body message.body body_is
    by_up false = refl
