-- Dead messages stay dead, and their delivery changes nothing.
use Rattle.std.proofs.Common.{◌≡◌, ◌∙◌, ◌⊎◌, ◌≤◌, ◌<◌, ◌==◌, ◌&&◌, ◌||◌, inl, inr, arith, ap, sym, subst, refl, ltb-true, lt-ltb, le-ltb, leb-true, le-leb, eqb-true, eq-eqb, ℕ, Bool, true, false, not, nat_lt, nat_le, is_some, Option, None, Some, List, if◌then◌else◌}
use Rattle.std.proofs.lemmas.Bool.{and_parts, and_from, or_cases, or_left, or_right}
use Rattle.repl_msg.specs.Fetching.{continues}
use Rattle.repl_msg.specs.declared.message.Body.{Body}
use Rattle.repl_msg.specs.declared.message.Body.TheVariants.{Fetch, FetchReply as Fetched, Report as Reported, VoteAsk as Asks, VoteReply, Heartbeat, HeartbeatReply, CommonAsk, CommonReply}
use Rattle.repl_msg.specs.declared.message.FetchReply.{FetchReply}
use Rattle.repl_msg.specs.declared.message.Message.{Message}
use Rattle.repl_msg.specs.declared.message.VoteRefusal.{VoteRefusal}
use Rattle.rs_optime.specs.declared.optime.OpTime.{OpTime}
use Rattle.set_model.specs.declared.reply.Ignored.{Ignored}
use Rattle.set_model.specs.declared.reply.Refusal.TheVariants.{NodeDown}
use Rattle.set_model.specs.declared.reply.Reply.{Reply}
use Rattle.set_model.specs.declared.reply.Reply.TheVariants as reply
use Rattle.set_model.specs.declared.role.Role.{Role}
use Rattle.set_model.specs.declared.role.Role.TheVariants as roles
use Rattle.set_model.specs.Deliver.{body_refusal, brings_term, deliver, told, vote_reply_told, with_term}
use Rattle.set_model.specs.Fetching.{entries_told}
use Rattle.set_model.specs.Node.{Node, DryTally}
use Rattle.set_model.specs.Outcome.{Outcome, ignored, refused}
use Rattle.set_model.specs.Points.{last_point, same_optime}
use Rattle.set_model.specs.Reports.{report_told}
use Rattle.set_model.specs.Roles.{is_candidate, is_primary, is_secondary}
use Rattle.set_model.specs.Rollback.{common_point, common_told, is_of_later_branch, roll_back}
use Rattle.set_model.specs.Stores.{Plan, done, finished, unless_refused}
use Rattle.set_model.specs.Votes.{dry_told, vote_counted, vote_told}
use Rattle.safety_laws.specs.Quiet.{is_disk_failure}
use Rattle.explore_laws.specs.Dead.{is_dead, is_dead_at, term_of}
use Rattle.explore_laws.specs.Steps.{Rises, RisesFrom, RoleStays}
use Rattle.explore_laws.proofs.AlikePlans.{term_up}

not_true : (b : Bool) → not b ≡ true → b ≡ false
not_true true is = absurd (cc is)
not_true false is = refl

not_false : (b : Bool) → not b ≡ false → b ≡ true
not_false true is = refl
not_false false is = absurd (cc is)

-- ---- dead stays dead

no_less : (own : ℕ) (role : Role) (later : ℕ) (new : Role) → RisesFrom own role later new → own ≤ later
no_less own role later new (inl less) = omega (arith, less)
no_less own role later new (inr level) = subst (λ t. own ≤ t) level.0 (omega arith)

-- a term below stays below
stays_below : (term own : ℕ) (role : Role) (later : ℕ) (new : Role) → RisesFrom own role later new → nat_lt term own ≡ true → nat_lt term later ≡ true
stays_below term own role later new rises below =
    let less : term < own = ltb-true term own below in
    let more : own ≤ later = no_less own role later new rises in
    lt-ltb term later (omega (arith, less, more))

stays_within : (term own : ℕ) (role : Role) (later : ℕ) (new : Role) → RisesFrom own role later new → nat_le term own ≡ true → nat_le term later ≡ true
stays_within term own role later new rises within =
    let less : term ≤ own = leb-true term own within in
    let more : own ≤ later = no_less own role later new rises in
    le-leb term later (omega (arith, less, more))

-- what is below comes to lie below, or stays level
module _ (own : ℕ) (role : Role) (later : ℕ) (new : Role) (rises : RisesFrom own role later new) where
  below_or : (term : ℕ) (one two : Bool) → (own ≡ later → RoleStays role new → one ≡ true → two ≡ true)
      → (nat_lt term own || (term == own && one)) ≡ true → (nat_lt term later || (term == later && two)) ≡ true
  below_or term one two stays is = elim (or_cases (nat_lt term own) (term == own && one) is) [
    | inl below ↦ or_left (nat_lt term later) _ (stays_below term own role later new rises below)
    | inr level ↦ at_level (and_parts (term == own) one level) rises
  ]
    where
      at_level : ((term == own) ≡ true) × (one ≡ true) → RisesFrom own role later new → (nat_lt term later || (term == later && two)) ≡ true
      at_level level (inl less) = or_left (nat_lt term later) _ (lt-ltb term later (subst (λ t. t < later) (sym (eqb-true term own level.0)) less))
      at_level level (inr same) = or_right (nat_lt term later) (term == later && two)
          (and_from (term == later) two (eq-eqb term later (eqb-true term own level.0 ∙ same.0)) (stays same.0 same.1 level.1))

  body_stays : (term : ℕ) (body : Body) → is_dead_at own role term body ≡ true → is_dead_at later new term body ≡ true
  body_stays term (Heartbeat beat) is = stays_below term own role later new rises is
  body_stays term (HeartbeatReply beat) is = stays_below term own role later new rises is
  body_stays term (Reported config durable) is = below_or term (is_secondary role) (is_secondary new) (λ level stays. stays.secondary) is
  body_stays term (CommonReply after optimes visible) is =
      below_or term (not (visible.term == own)) (not (visible.term == later)) (λ level stays. subst (λ t. not (visible.term == t) ≡ true) level) is
  body_stays term (VoteReply asked dry why) is =
      let both : (nat_le term own ≡ true) × ((nat_lt asked own || (asked == own && (not dry && (is_some why || not (is_candidate role))))) ≡ true) = and_parts (nat_le term own) _ is in
      and_from (nat_le term later) _ (stays_within term own role later new rises both.0)
      (below_or asked (not dry && (is_some why || not (is_candidate role))) (not dry && (is_some why || not (is_candidate new))) (λ level stays. useless stays) both.1)
    where
      useless : RoleStays role new → (not dry && (is_some why || not (is_candidate role))) ≡ true → (not dry && (is_some why || not (is_candidate new))) ≡ true
      useless stays one =
          let parts : (not dry ≡ true) × ((is_some why || not (is_candidate role)) ≡ true) = and_parts (not dry) _ one in
          and_from (not dry) _ parts.0 (elim (or_cases (is_some why) (not (is_candidate role)) parts.1) [
            | inl told ↦ or_left (is_some why) _ told
            | inr none ↦ or_right (is_some why) _ (ap not (stays.candidate (not_true (is_candidate role) none)))
          ])
  body_stays term (Fetched reply) is =
      let both : (nat_le term own ≡ true) × (not reply.holds ≡ true) = and_parts (nat_le term own) _ is in
      and_from (nat_le term later) _ (stays_within term own role later new rises both.0) both.1
  body_stays term (Asks ask) is = absurd (cc is)
  body_stays term (Fetch base) is = absurd (cc is)
  body_stays term (CommonAsk after) is = absurd (cc is)

pub dead_stays : (old new : Node) (message : Message) → Rises old new → is_dead old message ≡ true → is_dead new message ≡ true
dead_stays old new message rises is = body_stays (term_of old) old.role (term_of new) new.role rises message.term message.body is

-- ---- dead messages aren't taken

abbrev pub is_denied : Reply → Bool
is_denied (reply.Refused why) = not (is_disk_failure why)
is_denied (reply.VoteRefused why) = true
is_denied _ = false

-- it is denied, or ignored
abbrev pub IsUntaken : Outcome → Type 0
IsUntaken outcome = (is_denied outcome.reply ≡ true) ⊎ ((why : Ignored) × (outcome.reply ≡ reply.Ignored why))

module _ (node : Node) where
  ignoring : (why : Ignored) → IsUntaken (ignored why node)
  ignoring why = inr (why, refl)

  ends_if : (test : Bool) (one two : Outcome) → (test ≡ true → IsUntaken one) → (test ≡ false → IsUntaken two) → IsUntaken (if test then one else two)
  ends_if true one two if_true if_false = if_true refl
  ends_if false one two if_true if_false = if_false refl

  abbrev IsUntakenPlan : Option ℕ → Plan → Type 0
  IsUntakenPlan failed plan = IsUntaken (done plan failed)

  plan_if : (failed : Option ℕ) (test : Bool) (one two : Plan) → (test ≡ true → IsUntakenPlan failed one) → (test ≡ false → IsUntakenPlan failed two) → IsUntakenPlan failed (if test then one else two)
  plan_if failed true one two if_true if_false = if_true refl
  plan_if failed false one two if_true if_false = if_false refl

  old_untaken : (failed : Option ℕ) (term : ℕ) (one two : Plan) → IsUntakenPlan failed one → nat_lt term node.term ≡ true → IsUntakenPlan failed (if nat_lt term node.term then one else two)
  old_untaken failed term one two goes old = plan_if failed (nat_lt term node.term) one two (λ is. goes) (λ is. absurd (cc (old, is)))

  -- what isn't below the node's term is level with it
  level_part : (term : ℕ) (one : Bool) → (nat_lt term node.term || (term == node.term && one)) ≡ true → nat_lt term node.term ≡ false → one ≡ true
  level_part term one dead other = elim (or_cases (nat_lt term node.term) (term == node.term && one) dead) [
    | inl below ↦ absurd (cc (below, other))
    | inr level ↦ (and_parts (term == node.term) one level).1
  ]

  report_untaken : (from term : ℕ) (config : ℕ × ℕ) (durable : OpTime) → (nat_lt term node.term || (term == node.term && is_secondary node.role)) ≡ true → IsUntaken (report_told node from term config durable)
  report_untaken from term config durable dead =
      ends_if (nat_lt term node.term) _ _ (λ is. ignoring _) (λ other.
      ends_if (not (is_primary node.role)) _ _ (λ is. ignoring _) (λ primary. absurd (cc (no_primary node.role (level_part term (is_secondary node.role) dead other), primary))))
    where
      no_primary : (role : Role) → is_secondary role ≡ true → not (is_primary role) ≡ true
      no_primary roles.Secondary is = refl
      no_primary roles.Candidate is = refl
      no_primary roles.Draining is = refl
      no_primary roles.Primary is = absurd (cc is)

  fetched_untaken : (from : ℕ) (fetched : FetchReply) → not fetched.holds ≡ true → IsUntaken (entries_told node from fetched)
  fetched_untaken from fetched dead =
      ends_if (not (is_secondary node.role)) _ _ (λ is. ignoring _) (λ is.
      ends_if (not (continues (last_point node) fetched)) _ _ (λ other. ignoring _) (λ here. absurd (by fetched.holds dead here)))
    where
      by : (holds : Bool) → not holds ≡ true → not (holds && same_optime fetched.base (last_point node)) ≡ false → ⊥
      by true dead here = cc dead
      by false dead here = cc here

  common_untaken : (failed : Option ℕ) (term : ℕ) (after : OpTime) (optimes : List OpTime) (visible : OpTime)
      → (nat_lt term node.term || (term == node.term && not (visible.term == node.term))) ≡ true → IsUntakenPlan failed (common_told node term after optimes visible)
  common_untaken failed term after optimes visible dead =
      reason_if (not (is_secondary node.role)) _ _ (λ is. ignoring _) (λ is.
      reason_if (nat_lt term node.term) _ _ (λ is. ignoring _) (λ other.
      reason_if (not (is_of_later_branch node visible)) _ _ (λ is. ignoring _) (λ later. absurd (by (visible.term == node.term) (level_part term (not (visible.term == node.term)) dead other) later))))
    where
      point : OpTime
      point = common_point node.log after optimes

      reason_if : (test : Bool) (one two : Option Ignored) → (test ≡ true → IsUntakenPlan failed (roll_back node point one)) → (test ≡ false → IsUntakenPlan failed (roll_back node point two))
          → IsUntakenPlan failed (roll_back node point (if test then one else two))
      reason_if true one two if_true if_false = if_true refl
      reason_if false one two if_true if_false = if_false refl

      by : (same : Bool) → not same ≡ true → not (same && nat_lt (last_point node).term visible.term) ≡ false → ⊥
      by true other later = cc other
      by false other later = cc later

  old_apart : (asked : ℕ) → nat_lt asked node.term ≡ true → (asked == node.term) ≡ true → ⊥
  old_apart asked old is =
      let less : asked < node.term = ltb-true asked node.term old in
      let same : asked ≡ node.term = eqb-true asked node.term is in
      omega (arith, less, same)

  dry_untaken : (from asked : ℕ) (why : Option VoteRefusal) (tally : Option DryTally) → nat_lt asked node.term ≡ true → IsUntaken (dry_told node from asked why tally)
  dry_untaken from asked why None old = ignoring _
  dry_untaken from asked why (Some tally) old = ends_if (tally.term == asked && asked == node.term) _ _
      (λ is. absurd (old_apart asked old (and_parts (tally.term == asked) (asked == node.term) is).1)) (λ is. ignoring _)

  vote_untaken : (from asked : ℕ) (why : Option VoteRefusal) → (nat_lt asked node.term || (asked == node.term && (is_some why || not (is_candidate node.role)))) ≡ true → IsUntaken (vote_told node from asked why)
  vote_untaken from asked why dead =
      ends_if (not (is_candidate node.role)) _ _ (λ is. ignoring _) (λ candidate.
      ends_if (not (asked == node.term)) _ _ (λ is. ignoring _) (λ here. counted why
      (elim (or_cases (is_some why) (not (is_candidate node.role)) (level_part asked (is_some why || not (is_candidate node.role)) dead (not_below here))) [
        | inl told ↦ told
        | inr none ↦ absurd (cc (none, candidate))
      ])))
    where
      not_below : not (asked == node.term) ≡ false → nat_lt asked node.term ≡ false
      not_below here = le-ltb asked node.term (let same : asked ≡ node.term = eqb-true asked node.term (not_false (asked == node.term) here) in omega (arith, same))

      counted : (reason : Option VoteRefusal) → is_some reason ≡ true → IsUntaken (vote_counted node from reason)
      counted (Some reason) is = inl refl
      counted None is = absurd (cc is)

  vote_reply_untaken : (from asked : ℕ) (dry : Bool) (why : Option VoteRefusal)
      → (nat_lt asked node.term || (asked == node.term && (not dry && (is_some why || not (is_candidate node.role))))) ≡ true → IsUntaken (vote_reply_told node from asked dry why)
  vote_reply_untaken from asked true why dead = dry_untaken from asked why node.dry_tally (elim (or_cases (nat_lt asked node.term) _ dead) [
    | inl below ↦ below
    | inr level ↦ absurd (cc (and_parts (asked == node.term) false level).1)
  ])
  vote_reply_untaken from asked false why dead = vote_untaken from asked why dead

  told_untaken : (failed : Option ℕ) (next from term : ℕ) (body : Body) → is_dead_at node.term node.role term body ≡ true → IsUntakenPlan failed (told next from term body node)
  told_untaken failed next from term (Heartbeat beat) dead = old_untaken failed term _ _ (ignoring _) dead
  told_untaken failed next from term (HeartbeatReply beat) dead = old_untaken failed term _ _ (ignoring _) dead
  told_untaken failed next from term (Reported config durable) dead = report_untaken from term config durable dead
  told_untaken failed next from term (CommonReply after optimes visible) dead = common_untaken failed term after optimes visible dead
  told_untaken failed next from term (VoteReply asked dry why) dead = vote_reply_untaken from asked dry why (and_parts (nat_le term node.term) _ dead).1
  told_untaken failed next from term (Fetched fetched) dead = fetched_untaken from fetched (and_parts (nat_le term node.term) _ dead).1
  told_untaken failed next from term (Asks ask) dead = absurd (cc dead)
  told_untaken failed next from term (Fetch base) dead = absurd (cc dead)
  told_untaken failed next from term (CommonAsk after) dead = absurd (cc dead)

  -- no dead message is of a higher term
  below : (term : ℕ) → nat_lt term node.term ≡ true → term ≤ node.term
  below term is = let less : term < node.term = ltb-true term node.term is in omega (arith, less)

  below_or_level : (term : ℕ) (one : Bool) → (nat_lt term node.term || (term == node.term && one)) ≡ true → term ≤ node.term
  below_or_level term one is = elim (or_cases (nat_lt term node.term) (term == node.term && one) is) [
    | inl less ↦ below term less
    | inr level ↦ (let same : term ≡ node.term = eqb-true term node.term (and_parts (term == node.term) one level).0 in omega (arith, same))
  ]

  at_most : (term : ℕ) (body : Body) → is_dead_at node.term node.role term body ≡ true → term ≤ node.term
  at_most term (Heartbeat beat) is = below term is
  at_most term (HeartbeatReply beat) is = below term is
  at_most term (Reported config durable) is = below_or_level term (is_secondary node.role) is
  at_most term (CommonReply after optimes visible) is = below_or_level term (not (visible.term == node.term)) is
  at_most term (VoteReply asked dry why) is = leb-true term node.term (and_parts (nat_le term node.term) _ is).0
  at_most term (Fetched fetched) is = leb-true term node.term (and_parts (nat_le term node.term) _ is).0
  at_most term (Asks ask) is = absurd (cc is)
  at_most term (Fetch base) is = absurd (cc is)
  at_most term (CommonAsk after) is = absurd (cc is)

  not_higher : (term : ℕ) (body : Body) → is_dead_at node.term node.role term body ≡ true → nat_lt node.term term ≡ false
  not_higher term body dead = le-ltb node.term term (at_most term body dead)

  -- nor is it refused by what it says
  unrefused : (term : ℕ) (body : Body) → is_dead_at node.term node.role term body ≡ true → body_refusal node term body ≡ None
  unrefused term (Heartbeat beat) dead = refl
  unrefused term (HeartbeatReply beat) dead = refl
  unrefused term (Reported config durable) dead = refl
  unrefused term (CommonReply after optimes visible) dead = refl
  unrefused term (VoteReply asked dry why) dead = refl
  unrefused term (Fetched fetched) dead = refl
  unrefused term (Asks ask) dead = refl
  unrefused term (Fetch base) dead = refl
  unrefused term (CommonAsk after) dead = absurd (cc dead)

  pub deliver_untaken : (failed : Option ℕ) (next : ℕ) (message : Message) → is_dead node message ≡ true
      → (is_denied (done (deliver next node message) failed).reply ≡ true) ⊎ ((why : Ignored) × ((done (deliver next node message) failed).reply ≡ reply.Ignored why) × (message.term ≤ node.term))
  deliver_untaken failed next message dead = by node.up refl
    where
      whole : Plan
      whole = unless_refused (body_refusal node message.term message.body) node (with_term node message (told next message.from message.term message.body))

      Is : Plan → Type 0
      Is plan = (is_denied (done plan failed).reply ≡ true) ⊎ ((why : Ignored) × ((done plan failed).reply ≡ reply.Ignored why) × (message.term ≤ node.term))

      by : (up : Bool) → node.up ≡ up → Is (if up then whole else finished (refused NodeDown node))
      by false down = inl refl
      by true up = elim untaken [
        | inl denied ↦ inl denied
        | inr ignored ↦ inr (ignored.0, ignored.1, at_most message.term message.body here)
      ]
        where
          here : is_dead_at node.term node.role message.term message.body ≡ true
          here = subst (λ t. is_dead_at t node.role message.term message.body ≡ true) (sym (term_up node up)) dead

          untaken : IsUntakenPlan failed whole
          untaken = subst (λ why. IsUntakenPlan failed (unless_refused why node (with_term node message (told next message.from message.term message.body)))) (sym (unrefused message.term message.body here))
              (plan_if failed (brings_term message.body && nat_lt node.term message.term) _ _
              (λ higher. absurd (cc (not_higher message.term message.body here, (and_parts (brings_term message.body) (nat_lt node.term message.term) higher).1)))
              (λ level. told_untaken failed next message.from message.term message.body here))
