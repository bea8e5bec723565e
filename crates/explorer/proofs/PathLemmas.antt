-- One act more along a path, and what is left of the wants along it.
use Rattle.std.proofs.Common.{◌≡◌, ◌∙◌, inl, inr, ap, sym, subst, refl, ℕ, zero, suc, Option, None, Some, List, [], ◌∷◌, ◌++◌, append-nil, append_assoc}
use Rattle.std.proofs.lemmas.List.Sums.{fold-append}
use Rattle.std.specs.Prelude.{◌<◌, IfSome}
use Rattle.set_model.specs.declared.command.Event.{Event}
use Rattle.set_model.specs.World.{World, step}
use Rattle.explore_words.specs.declared.question.Act.{Act}
use Rattle.explore_words.specs.declared.question.Question.{Question}
use Rattle.explore_words.specs.declared.question.Want.{Want}
use Rattle.question_laws.specs.Doing.{act_done, world_after}
use Rattle.question_laws.specs.Following.{Doing, FollowsFrom, MayDo, used_more}
use Rattle.question_laws.specs.Meeting.{Leaves, LeavesAfter}
use Rattle.explorer.specs.Paths.{LeadsAlong}

-- ---- wants

leaves_after_once : (world : World) (event : Event) (wants one two : List Want) → LeavesAfter world event wants one → LeavesAfter world event wants two → one ≡ two
leaves_after_once world event [] one two first second = first ∙ sym second
leaves_after_once world event (want ∷ wants) one two (inl met) (inl again) = met.1 ∙ sym again.1
leaves_after_once world event (want ∷ wants) one two (inl met) (inr unmet) = absurd (unmet.0 met.0)
leaves_after_once world event (want ∷ wants) one two (inr unmet) (inl met) = absurd (unmet.0 met.0)
leaves_after_once world event (want ∷ wants) one two (inr unmet) (inr again) = unmet.1 ∙ sym again.1

-- events leave the same wants each time
pub leaves_once : (world : World) (events : List Event) (wants one two : List Want) → Leaves world events wants one → Leaves world events wants two → one ≡ two
leaves_once world [] wants one two first second = first ∙ sym second
leaves_once world (event ∷ events) wants one two first second =
    leaves_once (step world event).world events second.0 one two
    (subst (λ next. Leaves (step world event).world events next one) (leaves_after_once world event wants first.0 second.0 first.1 second.1) first.2) second.2

-- ---- acts

-- what an act may be done after counts by its own limit alone
pub may_do_too : (question : Question) (world : World) (one two : ℕ → ℕ) (doing : Doing) (act : Act) → ((limit : ℕ) → act.limit ≡ Some limit → one doing.act ≡ two doing.act)
    → MayDo question world one doing act → MayDo question world two doing act
may_do_too question world one two doing act same may = record { there = may.there; begins = may.begins; sent = may.sent; limit = by act.limit refl may.limit }
  where
    by : (limit : Option ℕ) → act.limit ≡ limit → IfSome limit (λ most. one doing.act < most) → IfSome limit (λ most. two doing.act < most)
    by None is within = tt
    by (Some most) is within = subst (λ k. k < most) (same most is) within

module _ (question : Question) (doing : Doing) (act : Act) where
  along_one : (world : World) (used : ℕ → ℕ) → MayDo question world used doing act
      → LeadsAlong 1 question world used (act_done world act doing.message) (world_after world (act_done world act doing.message)) (used_more used doing.act)
  along_one world used may = (doing, act, [], may, sym (append-nil (act_done world act doing.message)), (refl, refl, refl))

  pub along_more : (acts : ℕ) (world : World) (used : ℕ → ℕ) (events : List Event) (last : World) (done : ℕ → ℕ) → LeadsAlong acts question world used events last done
      → MayDo question last done doing act
      → LeadsAlong (suc acts) question world used (events ++ act_done last act doing.message) (world_after last (act_done last act doing.message)) (used_more done doing.act)
  along_more zero world used events last done along may =
      subst (λ (l : List Event). LeadsAlong 1 question world used (l ++ act_done last act doing.message) (world_after last (act_done last act doing.message)) (used_more done doing.act)) (sym along.0)
      (subst (λ (w : World). LeadsAlong 1 question w used (act_done last act doing.message) (world_after last (act_done last act doing.message)) (used_more done doing.act)) along.1
      (subst (λ (u : ℕ → ℕ). LeadsAlong 1 question last u (act_done last act doing.message) (world_after last (act_done last act doing.message)) (used_more done doing.act)) along.2
      (along_one last done may)))
  along_more (suc acts) world used events last done along may = (
    along.0,
    along.1,
    along.2 ++ act_done last act doing.message,
    along.3,
    ap (λ (l : List Event). l ++ act_done last act doing.message) along.4
        ∙ append_assoc (act_done world along.1 along.0.message) along.2 (act_done last act doing.message),
    along_more acts (world_after world (act_done world along.1 along.0.message)) (used_more used along.0.act) along.2 last done along.5 may,
  )

pub along_follows : (acts : ℕ) (question : Question) (world : World) (used : ℕ → ℕ) (events : List Event) (last : World) (done : ℕ → ℕ) → LeadsAlong acts question world used events last done
    → FollowsFrom acts question world used events
along_follows zero question world used events last done along = along.0
along_follows (suc acts) question world used events last done along =
    (along.0, along.1, along.2, along.3, along.4, along_follows acts question (world_after world (act_done world along.1 along.0.message)) (used_more used along.0.act) along.2 last done along.5)

pub along_world : (acts : ℕ) (question : Question) (world : World) (used : ℕ → ℕ) (events : List Event) (last : World) (done : ℕ → ℕ) → LeadsAlong acts question world used events last done
    → last ≡ world_after world events
along_world zero question world used events last done along = along.1 ∙ sym (ap (world_after world) along.0)
along_world (suc acts) question world used events last done along =
    along_world acts question (world_after world front) (used_more used along.0.act) along.2 last done along.5
    ∙ sym (fold-append (λ (w : World) (event : Event). (step w event).world) world front along.2) ∙ sym (ap (world_after world) along.4)
  where
    front : List Event
    front = act_done world along.1 along.0.message
