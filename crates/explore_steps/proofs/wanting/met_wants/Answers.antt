use Rattle.std.proofs.Common.{◌≡◌, ◌<◌, ◌∙◌, ◌++◌, ◌∷◌, [], ℕ, List, Some, refl, ap, sym, arith, length}
use Rattle.std.specs.Prelude.{slice_get}
use Rattle.std.proofs.lemmas.Bool.{false≢true}
use Rattle.std.proofs.lemmas.Option.{slice_get_read, slice_get_within}
use Rattle.explore_words.specs.declared.question.Want.{Want}
use Rattle.explore_steps.proofs.MetLemmas.{met_less, met_more}
use Rattle.explore_steps.proofs.wanting.met_wants.Goals as goal
use Rattle.explore_steps.proofs.wanting.met_wants.Goals.{then-is_met+in_ok-number_of+in_ok-push, else-is_met}

pub loop-place-preserved : goal.loop-place-preserved
loop-place-preserved c =
    let place = c.loop-place.place in
    let wants = c.as_slice-wants.result.now in
    let within : place < length wants = grind (arith, c.loop-place-test.true) in
    let there : slice_get c.args.question.now.wants place ≡ Some c.index-wants-place.result =
    sym (ap (λ (l : List Want). slice_get l place) c.as_slice-wants.ensures)
    ∙ slice_get_read wants (length wants) place c.index-wants-place.result refl within c.index-wants-place.is in
    let meets = c.is_met.ensures c.args.reply.now (c.deref.ensures ∙ c.in_ok-line.ensures) in
    elim c.if-is_met.branch [
      | then-is_met+in_ok-number_of+in_ok-push w ↦
          met_more _ _ _ place c.loop-place.places.items c.if-is_met.places.items c.index-wants-place.result c.loop-place.invariant there (meets.0 w.if-is_met.true)
          ((λ i. (w.places-is i).items) ∙ w.in_ok-push.ensures.items ∙ ap (λ (n : ℕ). c.loop-place.places.items ++ n ∷ []) w.in_ok-number_of.ensures.same)
      | else-is_met w ↦
          met_less _ _ _ place c.loop-place.places.items c.if-is_met.places.items c.index-wants-place.result c.loop-place.invariant there
          (λ met. false≢true (sym w.if-is_met.false ∙ meets.1 met))
          (λ i. (w.places-is i).items)
    ]

pub returns-clause-met : goal.returns-clause-met
returns-clause-met c = λ place want there.
    let below : place < c.loop-place.place =
    grind (arith, slice_get_within c.args.question.now.wants place want there, ap length c.as_slice-wants.ensures) in
    c.loop-place.invariant.met place want below there

pub returns-clause-within : goal.returns-clause-within
returns-clause-within c = λ place there.
    let below = c.loop-place.invariant.within place there in
    let count = ap length c.as_slice-wants.ensures in
    grind (arith, below, count)
