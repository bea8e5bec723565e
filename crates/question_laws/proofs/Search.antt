-- A search that looks at one standing of those that another covers misses nothing.
use Rattle.std.proofs.Common.{◌≡◌, ◌∙◌, ◌⊎◌, ◌≤◌, ◌<◌, ◌+◌, inl, inr, ap, sym, subst, refl, arith, ℕ, zero, suc, List, [], ◌∷◌, ◌++◌, map, length, drop}
use Rattle.std.proofs.lemmas.List.{drop_at}
use Rattle.rs_optime.specs.Membership.{In}
use Rattle.set_model.specs.declared.command.Command.{Command}
use Rattle.set_model.specs.declared.command.Event.{Event}
use Rattle.set_model.specs.World.{World, step}
use Rattle.explore_laws.specs.Settled.{AreSettled}
use Rattle.explore_laws.proofs.AlikeEvents.{alike_itself, are_settled, stay_settled}
use Rattle.explore_laws.proofs.AlikeWorlds.{worlds_on}
use Rattle.explore_words.specs.declared.question.Question.{Question}
use Rattle.explore_words.specs.declared.question.Want.{Want}
use Rattle.question_laws.specs.Covered.{IsCovered, IsFit}
use Rattle.question_laws.specs.Doing.{act_done, event_of, world_after}
use Rattle.question_laws.specs.Following.{FollowsFrom, LeadsIn, LeadsTo, Standing, begun, beginning, sizes_in, start, used_more}
use Rattle.question_laws.specs.Lawful.{IsLawful}
use Rattle.question_laws.specs.Laws.{ActsAreCovered, FollowersAreLed, IsSearched, SearchesAreWhole, SearchesTell}
use Rattle.question_laws.specs.Meeting.{Leaves}
use Rattle.question_laws.proofs.Wants.{lawful_unseen, unseen_again}

-- ---- the start

settled_along : (world : World) (lines : List Command) → AreSettled world → AreSettled (world_after world (map event_of lines))
settled_along world [] settled = settled
settled_along world (command ∷ lines) settled = settled_along (step world (event_of command)).world lines (stay_settled world (event_of command) refl settled)

pub fit_start : (question : Question) → IsLawful question → IsFit (start question)
fit_start question lawful = record {
  settled = settled_along _ question.beginning
      (are_settled (sizes_in question) [] 0 (λ i d within. absurd (omega (arith, within))));
  wants = lawful_unseen (begun question) question.wants lawful.wants;
  met = unseen_again (begun question) question.wants;
}

-- ---- covered by what is covered

pub covered_itself : (question : Question) (of : Standing) → IsCovered question of of
covered_itself question of = record { worlds = alike_itself of.world; left = refl; used = λ place. omega arith; dead = λ goes is. is }

pub covered_on : (question : Question) (of by last : Standing) → IsCovered question of by → IsCovered question by last → IsCovered question of last
covered_on question of by last first second = record {
  worlds = worlds_on of.world by.world last.world first.worlds second.worlds;
  left = first.left ∙ second.left;
  used = λ place. (let one : by.used place ≤ of.used place = first.used place in let two : last.used place ≤ by.used place = second.used place in omega (arith, one, two));
  dead = λ goes is. second.dead goes (first.dead goes is);
}

-- ---- level by level

module _ (acts_covered : ActsAreCovered) (question : Question) (lawful : IsLawful question) (depth : ℕ) (table : ℕ → List Standing) (searched : IsSearched question depth table) where
  abbrev Reaches : ℕ → Standing → Type 0
  Reaches many new = (level : ℕ) × (found : Standing) × (level ≤ many) × In found (table level) × IsCovered question new found

  counted : (acts many : ℕ) (new : Standing) → Reaches ((many + 1) + acts) new → Reaches (many + suc acts) new
  counted acts many new reached = subst (λ k. Reaches k new) (let same : (many + 1) + acts ≡ many + suc acts = omega arith in same) reached

  -- one act, and then what is reached from where it leads
  after_act : (acts many level : ℕ) (next new by : Standing) → IsCovered question next by ⊎ ((moved : Standing) × LeadsTo question by moved × IsCovered question next moved)
      → level ≤ many → In by (table level) → level < depth
      → ((again : Standing) (place : ℕ) → IsCovered question next again → place ≤ many + 1 → In again (table place) → Reaches ((many + 1) + acts) new) → Reaches (many + suc acts) new
  after_act acts many level next new by (inl still) order there within later = counted acts many new (later by level still (omega (arith, order)) there)
  after_act acts many level next new by (inr moved) order there within later =
      let found : (place : ℕ) × (again : Standing) × (place ≤ suc level) × In again (table place) × IsCovered question moved.0 again =
      searched.next level by moved.0 within there moved.1 in
      let less : found.0 ≤ suc level = found.2 in
      counted acts many new (later found.1 found.0 (covered_on question next moved.0 found.1 moved.2 found.4) (omega (arith, order, less)) found.3)

  search_from : (acts many : ℕ) (of new by : Standing) (level : ℕ) → IsFit of → IsCovered question of by → level ≤ many → In by (table level) → many + acts ≤ depth → LeadsIn acts question of new
      → Reaches (many + acts) new
  search_from zero many of new by level fit covered order there within leads =
      (level, by, omega (arith, order), there, subst (λ s. IsCovered question s by) leads covered)
  search_from (suc acts) many of new by level fit covered order there within leads =
      let on : IsFit leads.0 × (IsCovered question leads.0 by ⊎ ((moved : Standing) × LeadsTo question by moved × IsCovered question leads.0 moved)) =
      acts_covered question of leads.0 by lawful fit covered leads.1 in
      after_act acts many level leads.0 new by on.1 order there (omega (arith, order, within))
      (λ again place cover less has. search_from acts (many + 1) leads.0 new again place on.0 cover less has (omega (arith, within)) leads.2)

pub searches_whole : ActsAreCovered → SearchesAreWhole
searches_whole acts_covered question depth acts table new lawful searched within leads =
    subst (λ k. (level : ℕ) × (found : Standing) × (level ≤ k) × In found (table level) × IsCovered question new found) (let same : 0 + acts ≡ acts = omega arith in same)
    (search_from acts_covered question lawful depth table searched acts 0 (start question) new (start question) 0 (fit_start question lawful) (covered_itself question (start question))
    (omega arith) searched.start (omega (arith, within)) leads)

-- ---- events that follow

pub leaves_parted : (world : World) (front rest : List Event) (wants left : List Want) → Leaves world (front ++ rest) wants left
    → (middle : List Want) × Leaves world front wants middle × Leaves (world_after world front) rest middle left
leaves_parted world [] rest wants left leaves = (wants, refl, leaves)
leaves_parted world (event ∷ front) rest wants left leaves =
    let parts : (middle : List Want) × Leaves (step world event).world front leaves.0 middle × Leaves (world_after (step world event).world front) rest middle left =
    leaves_parted (step world event).world front rest leaves.0 left leaves.2 in
    (parts.0, (leaves.0, leaves.1, parts.1), parts.2)

led_from : (question : Question) (acts : ℕ) (of : Standing) (events : List Event) (left : List Want) → FollowsFrom acts question of.world of.used events → Leaves of.world events of.left left
    → (new : Standing) × LeadsIn acts question of new × (new.left ≡ left)
led_from question zero of events left follows leaves = (of, refl, sym (subst (λ (l : List Event). Leaves of.world l of.left left) follows leaves))
led_from question (suc acts) of events left follows leaves =
    let parts : (middle : List Want) × Leaves of.world done of.left middle × Leaves (world_after of.world done) follows.2 middle left =
    leaves_parted of.world done follows.2 of.left left (subst (λ (l : List Event). Leaves of.world l of.left left) follows.4 leaves) in
    let next : Standing = record { world = world_after of.world done; used = used_more of.used follows.0.act; left = parts.0 } in
    let rest : (new : Standing) × LeadsIn acts question next new × (new.left ≡ left) = led_from question acts next follows.2 left follows.5 parts.2 in
    (rest.0, (next, record { doing = follows.0; act = follows.1; may = follows.3; world = refl; used = refl; left = parts.1 }, rest.1), rest.2)
  where
    done : List Event
    done = act_done of.world follows.1 follows.0.message

pub followers_led : FollowersAreLed
followers_led question acts events left follows leaves = led_from question acts (start question) follows.0 left follows.2
    (subst (λ (l : List Event). Leaves (begun question) l (start question).left left) (ap (λ (l : List Event). drop (length (beginning question)) l) follows.1 ∙ drop_at (beginning question) follows.0 (length (beginning question)) refl) leaves)

pub searches_tell : ActsAreCovered → SearchesTell
searches_tell acts_covered question depth acts table events lawful searched within none follows meets =
    let led : (new : Standing) × LeadsIn acts question (start question) new × (new.left ≡ []) = followers_led question acts events [] follows meets in
    let reached : (level : ℕ) × (found : Standing) × (level ≤ acts) × In found (table level) × IsCovered question led.0 found =
    searches_whole acts_covered question depth acts table led.0 lawful searched within led.1 in
    none reached.0 reached.1 reached.2 reached.3 (sym reached.4.left ∙ led.2)
