-- What follows a question is the run of a set.
use Rattle.std.proofs.Common.{◌≡◌, ◌∙◌, inl, inr, ap, sym, subst, refl, ℕ, zero, suc, Bool, true, false, Option, None, Some, List, [], ◌∷◌, ◌++◌, map, length, slice_set, if◌then◌else◌}
use Rattle.std.specs.Prelude.{IfSome}
use Rattle.safety_laws.proofs.Places.{get_in}
use Rattle.safety_laws.proofs.SmallRuns.{count_from}
use Rattle.member_config.specs.Config.{first_config}
use Rattle.rs_optime.specs.Membership.{In}
use Rattle.set_model.specs.declared.command.Command.{Command}
use Rattle.set_model.specs.declared.command.Event.{Event}
use Rattle.set_model.specs.Limits.{AllFit, Fits, IsSoundWrite, is_for, plan_reaches, write_of}
use Rattle.set_model.specs.Node.{Node}
use Rattle.set_model.specs.Run.{opening}
use Rattle.set_model.specs.Stores.{Plan}
use Rattle.set_model.specs.World.{World, by_plan, event_plan, step}
use Rattle.explore_words.specs.declared.question.Act.{Act}
use Rattle.explore_words.specs.declared.question.Question.{Question}
use Rattle.question_laws.specs.Doing.{act_done, event_of, is_done, lines_done, lines_of, world_after}
use Rattle.question_laws.specs.Following.{FollowsFrom, beginning, begun, sizes_in}
use Rattle.question_laws.specs.Lawful.{AreFor}
use Rattle.question_laws.specs.Laws.{FollowersAreRuns}

-- ---- the nodes stay as many

pub kept_count : (nodes : List Node) (n : ℕ) (node : Node) → length (slice_set nodes n node) ≡ length nodes
kept_count [] n node = refl
kept_count (first ∷ nodes) zero node = refl
kept_count (first ∷ nodes) (suc n) node = ap suc (kept_count nodes n node)

pub count_along : (world : World) (events : List Event) → length (world_after world events).nodes ≡ length world.nodes
count_along world [] = refl
count_along world (event ∷ events) = count_along (step world event).world events ∙ by (event_plan world event)
  where
    by : (plan : Option Plan) → length (by_plan world event plan).world.nodes ≡ length world.nodes
    by None = refl
    by (Some plan) = kept_count world.nodes _ _

-- ---- each event fits

pub fit_together : (world : World) (front rest : List Event) → AllFit world front → AllFit (world_after world front) rest → AllFit world (front ++ rest)
fit_together world [] rest fit others = others
fit_together world (event ∷ front) rest fit others = (fit.0, fit_together (step world event).world front rest fit.1 others)

module _ (nodes : ℕ) where
  pub fits_one : (world : World) (command : Command) → length world.nodes ≡ nodes → AreFor nodes (command ∷ []) → Fits world (event_of command)
  fits_one world command count are = record {
    command = subst (λ k. is_for k command ≡ true) (sym count) (are command (inl refl)).0;
    documents = (are command (inl refl)).1;
    failed = by (event_plan world (event_of command));
    there = refl;
  }
    where
      by : (plan : Option Plan) → plan_reaches plan None ≡ true
      by None = refl
      by (Some plan) = refl

  -- one command of the set
  pub of_command : (command : Command) → is_for nodes command ≡ true → IfSome (write_of command) IsSoundWrite → AreFor nodes (command ∷ [])
  of_command command is_for_set sound found (inl same) = subst (λ (c : Command). (is_for nodes c ≡ true) × IfSome (write_of c) IsSoundWrite) same (is_for_set, sound)
  of_command command is_for_set sound found (inr none) = absurd none

  only_first : (command : Command) (lines : List Command) → AreFor nodes (command ∷ lines) → AreFor nodes (command ∷ [])
  only_first command lines are found (inl same) = are found (inl same)
  only_first command lines are found (inr none) = absurd none

  pub fit_all : (world : World) (lines : List Command) → length world.nodes ≡ nodes → AreFor nodes lines → AllFit world (map event_of lines)
  fit_all world [] count are = tt
  fit_all world (command ∷ lines) count are = (
    fits_one world command count (only_first command lines are),
    fit_all (step world (event_of command)).world lines (count_along world (event_of command ∷ []) ∙ count) (λ found there. are found (inr there)),
  )

  fit_lines : (before : ℕ) (world : World) (lines : List Command) → length world.nodes ≡ nodes → AreFor nodes lines → AllFit world (lines_done before world lines)
  fit_lines before world [] count are = tt
  fit_lines before world (command ∷ lines) count are = by (is_done before world command)
      (fit_lines before (step world (event_of command)).world lines (count_along world (event_of command ∷ []) ∙ count) (λ found there. are found (inr there)))
    where
      by : (b : Bool) → AllFit (step world (event_of command)).world (lines_done before (step world (event_of command)).world lines)
          → AllFit world (if b then event_of command ∷ lines_done before (step world (event_of command)).world lines else [])
      by true rest = (fits_one world command count (only_first command lines are), rest)
      by false rest = tt

  with_message : (act : Act) (message : Option ℕ) → AreFor nodes act.commands → AreFor nodes (lines_of act message)
  with_message act None are found there = are found there
  with_message act (Some message) are found (inl same) = subst (λ (c : Command). (is_for nodes c ≡ true) × IfSome (write_of c) IsSoundWrite) same (refl, tt)
  with_message act (Some message) are found (inr there) = are found there

  fit_from : (question : Question) → ((act : Act) → In act question.acts → AreFor nodes act.commands) → (acts : ℕ) (world : World) (used : ℕ → ℕ) (events : List Event)
      → length world.nodes ≡ nodes → FollowsFrom acts question world used events → AllFit world events
  fit_from question are zero world used events count follows = subst (AllFit world) (sym follows) tt
  fit_from question are (suc acts) world used events count follows = subst (AllFit world) (sym follows.4)
      (fit_together world (act_done world follows.1 follows.0.message) follows.2
      (fit_lines (length world.messages) world (lines_of follows.1 follows.0.message) count
      (with_message follows.1 follows.0.message (are follows.1 (get_in question.acts follows.0.act follows.1 follows.3.there))))
      (fit_from question are acts _ _ follows.2 (count_along world (act_done world follows.1 follows.0.message) ∙ count) follows.5))

pub followers_runs : FollowersAreRuns
followers_runs question acts events has follows = subst (AllFit start) (sym follows.1)
    (fit_together start (beginning question) follows.0 (fit_all nodes start question.beginning count has.beginning)
    (fit_from nodes question has.acts acts (begun question) (λ place. 0) follows.0 (count_along start (beginning question) ∙ count) follows.2))
  where
    nodes : ℕ
    nodes = question.sizes.nodes

    start : World
    start = (opening (sizes_in question)).world

    count : length start.nodes ≡ nodes
    count = count_from (first_config question.sizes.voters question.sizes.members) 0 nodes
