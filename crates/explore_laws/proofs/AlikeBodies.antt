-- A message at two nodes that are alike.
use Rattle.std.proofs.Common.{◌≡◌, ◌<◌, ◌==◌, ◌&&◌, inl, inr, ap, subst, refl, ltb-true, ℕ, Bool, true, false, not, nat_lt, is_some, Option, None, Some, List, [], ◌∷◌, ◌++◌, if◌then◌else◌}
use Rattle.std.proofs.lemmas.Bool.{and_parts}
use Rattle.member_config.specs.Config.{is_newer}
use Rattle.member_config.specs.Voters.{is_member}
use Rattle.repl_msg.specs.Fetching.{continues}
use Rattle.repl_msg.specs.Kept.{kept}
use Rattle.repl_msg.specs.declared.message.Beat.{Beat}
use Rattle.repl_msg.specs.declared.message.Body.{Body}
use Rattle.repl_msg.specs.declared.message.Body.TheVariants.{Fetch, FetchReply as Fetched, Report as Reported, VoteAsk as Asks, VoteReply, Heartbeat, HeartbeatReply, CommonAsk, CommonReply}
use Rattle.repl_msg.specs.declared.message.FetchReply.{FetchReply}
use Rattle.repl_msg.specs.declared.message.Message.{Message}
use Rattle.repl_msg.specs.declared.message.VoteAsk.{VoteAsk}
use Rattle.repl_msg.specs.declared.message.VoteRefusal.{VoteRefusal}
use Rattle.repl_msg.specs.declared.record.Record.{Record}
use Rattle.repl_msg.specs.declared.record.Record.TheVariants as records
use Rattle.repl_msg.proofs.KeptLemmas.{kept_more}
use Rattle.rs_optime.specs.declared.optime.OpTime.{OpTime}
use Rattle.set_model.specs.declared.reply.Ignored.{Ignored}
use Rattle.set_model.specs.declared.reply.Refusal.{Refusal}
use Rattle.set_model.specs.declared.reply.Reply.{Reply}
use Rattle.set_model.specs.declared.reply.Reply.TheVariants as reply
use Rattle.set_model.specs.declared.role.Role.{Role}
use Rattle.set_model.specs.Beats.{beat_answered, beat_of, beat_told, commit_heard, given_way, gives_way, heard}
use Rattle.set_model.specs.Changes.{heard_of, in_new_term, installed}
use Rattle.set_model.specs.Deliver.{body_refusal, brings_term, deliver, told, vote_reply_told, with_term}
use Rattle.set_model.specs.Fetching.{entries_told, taken}
use Rattle.set_model.specs.Node.{Node, DryTally}
use Rattle.set_model.specs.Outcome.{message_to}
use Rattle.set_model.specs.Points.{evaluated, last_point}
use Rattle.set_model.specs.Reports.{report_told, with_report}
use Rattle.set_model.specs.Roles.{is_candidate, is_primary, is_secondary}
use Rattle.set_model.specs.Rollback.{common_point, common_told, cut_back, cut_record, roll_back, rollback_reason}
use Rattle.set_model.specs.Stores.{Plan, config_record, stored, unless_refused, vote_record}
use Rattle.set_model.specs.Votes.{dry_counted, dry_told, is_elected, vote_counted, vote_decided, vote_for, vote_refusal, vote_told, with_vote, won}
use Rattle.explore_laws.specs.Alike.{AlikeReplies, ComeToOne}
use Rattle.explore_laws.specs.Dead.{term_of}
use Rattle.explore_laws.specs.Settled.{IsSettled}
use Rattle.explore_laws.specs.Steps.{GoAlike, MessagesGoAlike, PlansGoAlike, RoleStays}
use Rattle.explore_laws.proofs.AlikePlans.{changed, come_more, ends_if, goes_from, if_goes, ignoring, kept_goes, same_role, still, term_up, to_draining, to_secondary, twin, unless_goes, up_goes, vote_goes}
use Rattle.explore_laws.proofs.AlikeRows.{sends}

-- a candidate may have given way
way_stays : (role : Role) (gives : Bool) → RoleStays role (if gives then Role.Secondary else role)
way_stays role true = to_secondary role
way_stays role false = same_role role

module _ (node : Node) (other : List Record) (votes : List ℕ) (same : ComeToOne (kept node.records) (kept other)) (counts : is_candidate node.role ≡ true → node.tally ≡ votes) (settled : IsSettled node) (up : node.up ≡ true) where
  abbrev beside : Node
  beside = twin node other votes same counts settled

  entries_go : (from : ℕ) (fetched : FetchReply) → GoAlike node (entries_told node from fetched) (entries_told beside from fetched)
  entries_go from fetched =
      ends_if node other votes same counts settled (not (is_secondary node.role)) _ _ _ _ (λ is. ignoring node other votes same counts settled _) (λ is.
      ends_if node other votes same counts settled (not (continues (last_point node) fetched)) _ _ _ _ (λ apart. ignoring node other votes same counts settled _) (λ here.
      changed node other votes same counts settled (taken node from fetched) _ _ _ [] refl refl refl refl refl (same_role node.role) counts))

  report_goes : (from term : ℕ) (config : ℕ × ℕ) (durable : OpTime) → GoAlike node (report_told node from term config durable) (report_told beside from term config durable)
  report_goes from term config durable =
      ends_if node other votes same counts settled (nat_lt term node.term) _ _ _ _ (λ is. ignoring node other votes same counts settled _) (λ is.
      ends_if node other votes same counts settled (not (is_primary node.role)) _ _ _ _ (λ denied. ignoring node other votes same counts settled _) (λ primary.
      ends_if node other votes same counts settled (not (is_member node.config from)) _ _ _ _ (λ stranger. ignoring node other votes same counts settled _) (λ member.
      changed node other votes same counts settled (evaluated (with_report node from (record { config = config; durable = durable }))) _ _ _ [] refl refl refl refl refl (same_role node.role) counts)))

  -- ---- votes

  decided_goes : (next later from : ℕ) (ask : VoteAsk) (why : Option VoteRefusal) → PlansGoAlike node (vote_decided next node from ask why) (vote_decided later beside from ask why)
  decided_goes next later from ask why =
      if_goes node other votes same counts settled (not ask.dry && nat_lt node.term ask.asked) _ _ _ _
      (λ is. vote_goes node other votes same counts settled up (record { term = ask.asked; candidate = vote_for from why }) voted _ _ _ (answer_of voted) refl refl refl refl refl
      (inl (ltb-true node.term ask.asked (and_parts (not ask.dry) (nat_lt node.term ask.asked) is).1)) (λ no_candidate. refl))
      (λ is.
      if_goes node other votes same counts settled (not ask.dry && (ask.asked == node.term && is_some (vote_for from why))) _ _ _ _
      (λ given. vote_goes node other votes same counts settled up (record { term = node.term; candidate = Some from }) given_to _ _ _ (answer_of given_to) refl refl refl refl refl (inr (refl, same_role node.role)) counts)
      (λ none. changed node other votes same counts settled node _ _ _ (answer_of node) refl refl refl refl refl (same_role node.role) counts))
    where
      answer_of : Node → List Message
      answer_of n = message_to n from (VoteReply ask.asked ask.dry why) ∷ []

      given_to : Node
      given_to = record (stored node (vote_record node.term (Some from))) { vote = Some from }

      voted : Node
      voted = in_new_term (stored node (vote_record ask.asked (vote_for from why))) ask.asked (vote_for from why)

  dry_goes : (from asked : ℕ) (why : Option VoteRefusal) (tally : Option DryTally) → GoAlike node (dry_told node from asked why tally) (dry_told beside from asked why tally)
  dry_goes from asked why None = ignoring node other votes same counts settled _
  dry_goes from asked why (Some tally) = ends_if node other votes same counts settled (tally.term == asked && asked == node.term) _ _ _ _ (λ is. counted why) (λ is. ignoring node other votes same counts settled _)
    where
      counted : (reason : Option VoteRefusal) → GoAlike node (dry_counted node tally from reason) (dry_counted beside tally from reason)
      counted (Some reason) = still node other votes same counts settled _ _ refl
      counted None = changed node other votes same counts settled (record node { dry_tally = Some (record tally { yes = with_vote tally.config tally.yes from }) }) _ _ _ [] refl refl refl refl refl (same_role node.role) counts

  vote_told_goes : (from asked : ℕ) (why : Option VoteRefusal) → GoAlike node (vote_told node from asked why) (vote_told beside from asked why)
  vote_told_goes from asked why = candidates (is_candidate node.role) refl
    where
      grown : Node
      grown = record node { tally = with_vote node.config node.tally from }

      -- with the same votes
      level : Node
      level = twin node other node.tally same (λ is. refl) settled

      counted : is_candidate node.role ≡ true → (reason : Option VoteRefusal) → GoAlike node (vote_counted node from reason) (vote_counted level from reason)
      counted candidate (Some reason) = still node other node.tally same (λ is. refl) settled _ _ refl
      counted candidate None = ends_if node other node.tally same (λ is. refl) settled (is_elected grown) _ _ _ _
          (λ is. changed node other node.tally same (λ is. refl) settled (won grown) _ _ _ [] refl refl refl refl refl (to_draining node.role candidate) (λ counts. refl))
          (λ is. changed node other node.tally same (λ is. refl) settled grown _ _ _ [] refl refl refl refl refl (same_role node.role) (λ counts. refl))

      told_level : is_candidate node.role ≡ true → GoAlike node (vote_told node from asked why) (vote_told level from asked why)
      told_level candidate =
          ends_if node other node.tally same (λ is. refl) settled (not (is_candidate node.role)) _ _ _ _ (λ no_candidate. ignoring node other node.tally same (λ is. refl) settled _) (λ is.
          ends_if node other node.tally same (λ is. refl) settled (not (asked == node.term)) _ _ _ _ (λ apart. ignoring node other node.tally same (λ is. refl) settled _) (λ here. counted candidate why))

      candidates : (is : Bool) → is_candidate node.role ≡ is → GoAlike node (vote_told node from asked why) (vote_told beside from asked why)
      candidates true candidate = subst (λ (v : List ℕ). GoAlike node (vote_told node from asked why) (vote_told (record node { records = other; tally = v }) from asked why)) (counts candidate) (told_level candidate)
      candidates false no_candidate = ends_if node other votes same counts settled (not (is_candidate node.role)) _ _ _ _ (λ is. ignoring node other votes same counts settled _) (λ is.
          absurd (cc (ap not no_candidate, is)))

  vote_reply_goes : (from asked : ℕ) (dry : Bool) (why : Option VoteRefusal) → GoAlike node (vote_reply_told node from asked dry why) (vote_reply_told beside from asked dry why)
  vote_reply_goes from asked true why = dry_goes from asked why node.dry_tally
  vote_reply_goes from asked false why = vote_told_goes from asked why

  -- ---- heartbeats

  -- the answer tells of the node as it then is, and may send one message
  heard_goes : (from : ℕ) (beat : Beat) (one two : Reply) (sent : Node → List Message) → AlikeReplies one two
      → ((n : Node) (items : List Record) (tally : List ℕ) → sent n ≡ sent (record n { records = items; tally = tally }))
      → PlansGoAlike node (heard node from beat (λ n. record { reply = one; node = n; sent = sent n })) (heard beside from beat (λ n. record { reply = two; node = n; sent = sent n }))
  heard_goes from beat one two sent alike blind =
      if_goes node other votes same counts settled (is_secondary (given_way node beat).role && is_newer beat.config (given_way node beat).config) _ _ _ _
      (λ is. subst (λ (s : List Message). GoAlike node (record { reply = one; node = kept_on; sent = sent kept_on }) (record { reply = two; node = record kept_on { records = other ++ records.Config beat.config ∷ []; tally = left }; sent = s }))
      (blind kept_on (other ++ records.Config beat.config ∷ []) left)
      (kept_goes node other votes same counts settled up (records.Config beat.config) (λ before. refl) kept_on left one two (sent kept_on) alike refl refl refl refl (way_stays node.role (gives_way node beat)) (left_counts (gives_way node beat))))
      (λ is. subst (λ (s : List Message). GoAlike node (record { reply = one; node = plain; sent = sent plain }) (record { reply = two; node = record plain { records = other; tally = left }; sent = s }))
      (blind plain other left)
      (changed node other votes same counts settled plain left one two (sent plain) alike refl refl refl refl (way_stays node.role (gives_way node beat)) (left_counts (gives_way node beat))))
    where
      left : List ℕ
      left = if gives_way node beat then [] else votes

      left_counts : (gives : Bool) → is_candidate (if gives then Role.Secondary else node.role) ≡ true → (if gives then [] else node.tally) ≡ (if gives then [] else votes)
      left_counts true is = refl
      left_counts false is = counts is

      heard_by : Node → Node
      heard_by n = commit_heard (heard_of n from beat.visible beat.primary) beat

      kept_on : Node
      kept_on = heard_by (installed (stored (given_way node beat) (config_record beat.config)) beat.config)

      plain : Node
      plain = heard_by (given_way node beat)

  beat_told_goes : (next later from term : ℕ) (beat : Beat) → PlansGoAlike node (beat_told next node from term beat) (beat_told later beside from term beat)
  beat_told_goes next later from term beat = if_goes node other votes same counts settled (nat_lt term node.term) _ _ _ _ (λ is. ignoring node other votes same counts settled _) (λ is.
      heard_goes from beat (reply.Replied next) (reply.Replied later) (λ n. message_to n from (HeartbeatReply (beat_of n)) ∷ []) refl (λ n items tally. refl))

  beat_answered_goes : (from term : ℕ) (beat : Beat) → PlansGoAlike node (beat_answered node from term beat) (beat_answered beside from term beat)
  beat_answered_goes from term beat = if_goes node other votes same counts settled (nat_lt term node.term) _ _ _ _ (λ is. ignoring node other votes same counts settled _) (λ is.
      heard_goes from beat reply.Heard reply.Heard (λ n. []) refl (λ n items tally. refl))

  -- ---- rollbacks

  common_goes : (term : ℕ) (after : OpTime) (optimes : List OpTime) (visible : OpTime) → PlansGoAlike node (common_told node term after optimes visible) (common_told beside term after optimes visible)
  common_goes term after optimes visible = by (rollback_reason node term after optimes visible)
    where
      point : OpTime
      point = common_point node.log after optimes

      by : (why : Option Ignored) → PlansGoAlike node (roll_back node point why) (roll_back beside point why)
      by (Some why) = ignoring node other votes same counts settled why
      by None = kept_goes node other votes same counts settled up (records.Cut point) (λ before. refl) (cut_back (stored node (cut_record point)) point) _ _ _ [] refl refl refl refl refl (same_role node.role) counts

  -- ---- each message

  told_goes : (next later from term : ℕ) (body : Body) → PlansGoAlike node (told next from term body node) (told later from term body beside)
  told_goes next later from term (Fetch base) = sends node other votes same counts settled _ _ from _ refl
  told_goes next later from term (Fetched fetched) = entries_go from fetched
  told_goes next later from term (Reported config durable) = report_goes from term config durable
  told_goes next later from term (Asks ask) = decided_goes next later from ask (vote_refusal node ask)
  told_goes next later from term (VoteReply asked dry why) = vote_reply_goes from asked dry why
  told_goes next later from term (Heartbeat beat) = beat_told_goes next later from term beat
  told_goes next later from term (HeartbeatReply beat) = beat_answered_goes from term beat
  told_goes next later from term (CommonAsk after) = sends node other votes same counts settled _ _ from _ refl
  told_goes next later from term (CommonReply after optimes visible) = common_goes term after optimes visible

module _ (node : Node) (other : List Record) (votes : List ℕ) (same : ComeToOne (kept node.records) (kept other)) (counts : is_candidate node.role ≡ true → node.tally ≡ votes) (settled : IsSettled node) where
  abbrev twin_of : Node
  twin_of = twin node other votes same counts settled

  -- the node takes the message's term first
  with_term_goes : (next later from term : ℕ) (body : Body) → node.up ≡ true → node.term < term
      → PlansGoAlike node (told next from term body (in_new_term (stored node (vote_record term None)) term None)) (told later from term body (in_new_term (stored twin_of (vote_record term None)) term None))
  with_term_goes next later from term body up less =
      goes_from node risen _ _ (inl (subst (λ t. t < term_of risen) (term_up node up) (subst (λ t. node.term < t) (term_up risen up) less)))
      (told_goes risen (other ++ vote ∷ []) [] (come_more node.records other vote same) (λ is. refl) (record { doubt = settled.doubt; term = λ is. ap (λ k. k.vote.term) (kept_more node.records vote) }) up next later from term body)
    where
      vote : Record
      vote = records.Vote (record { term = term; candidate = None })

      risen : Node
      risen = in_new_term (stored node (vote_record term None)) term None

  deliver_goes : (next later : ℕ) (message : Message) → PlansGoAlike node (deliver next node message) (deliver later twin_of message)
  deliver_goes next later message = up_goes node other votes same counts settled _ _ (λ up.
      subst (λ why. PlansGoAlike node (deliver_up node next (body_refusal node message.term message.body)) (deliver_up twin_of later why)) (blind message.body)
      (unless_goes node other votes same counts settled (body_refusal node message.term message.body) _ _
      (if_goes node other votes same counts settled (brings_term message.body && nat_lt node.term message.term) _ _ _ _
      (λ is. with_term_goes next later message.from message.term message.body up (ltb-true node.term message.term (and_parts (brings_term message.body) (nat_lt node.term message.term) is).1))
      (λ is. told_goes node other votes same counts settled up next later message.from message.term message.body))))
    where
      deliver_up : Node → ℕ → Option Refusal → Plan
      deliver_up start number why = unless_refused why start (with_term start message (told number message.from message.term message.body))

      blind : (body : Body) → body_refusal node message.term body ≡ body_refusal twin_of message.term body
      blind (Fetch base) = refl
      blind (Fetched fetched) = refl
      blind (Reported config durable) = refl
      blind (Asks ask) = refl
      blind (VoteReply asked dry why) = refl
      blind (Heartbeat beat) = refl
      blind (HeartbeatReply beat) = refl
      blind (CommonAsk after) = refl
      blind (CommonReply after optimes visible) = refl

pub messages_go_alike : MessagesGoAlike
messages_go_alike next later one two message settled alike =
    subst (λ (n : Node). PlansGoAlike one (deliver next one message) (deliver later n message)) alike.others
    (deliver_goes one two.records two.tally alike.records alike.tally settled next later message)
