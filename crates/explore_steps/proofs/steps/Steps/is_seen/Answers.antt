use Rattle.std.proofs.Common.{◌≡◌, ◌∙◌, ◌<◌, ℕ, Bool, List, Some, ap, arith, false, length, refl, rules, slice_get, subst, sym, true}
use Rattle.std.specs.List.{list_all}
use Rattle.std.proofs.lemmas.Option.{same_Some, slice_get_read}
use Rattle.explore_words.specs.declared.question.Look.{Look}
use Rattle.explore_words.specs.declared.question.Want.{Want}
use Rattle.explore_words.specs.declared.question.Want.TheVariants.{Seen}
use Rattle.question_laws.specs.Meeting.{any_below}
use Rattle.explore_steps.specs.Seeing.{is_met_in, is_seen_in}
use Rattle.explore_steps.specs.Tables.{tables_of}
use Rattle.explore_steps.proofs.Growth.{of_grows}
use Rattle.explore_steps.proofs.Keeping.{grown_then}
use Rattle.explore_steps.proofs.Looks.{all_met_same, any_found, any_next}
use Rattle.explore_steps.proofs.LooksAt.{all_cells}
use Rattle.explore_steps.proofs.steps.Steps.is_seen.Goals as goal

pub are_met-requires-clause-looks : goal.are_met-requires-clause-looks
are_met-requires-clause-looks c =
    let question = c.args.question.now in
    let own = tables_of c.args.self.now in
    let cells = c.args.cells.now in
    let looks : List Look = c.in-Seen.looks in
    let wants : List Want = c.as_slice.result.now in
    let within : c.args.want < length wants = subst (λ (l : List Want). c.args.want < length l) (sym c.as_slice.ensures) c.requires.want in
    let want_there : slice_get question.wants c.args.want ≡ Some (Seen looks) =
    ap (λ (l : List Want). slice_get l c.args.want) (sym c.as_slice.ensures)
    ∙ slice_get_read wants (length wants) c.args.want c.index-as_slice-want.result refl within c.index-as_slice-want.is ∙ ap Some c.in-Seen.is in
    want_there ∙ ap (λ (l : List Look). Some (Seen l)) (sym c.as_slice-in-loop-any.ensures)

pub are_met-requires-clause-come : goal.are_met-requires-clause-come
are_met-requires-clause-come c =
    let come = c.requires.come in
    (come.0, come.1, of_grows (tables_of c.args.self.now) (tables_of c.loop-any.self) c.loop-any.invariant.grown.tables c.args.cells.now come.0 come.2)

pub loop-any-preserved : goal.loop-any-preserved
loop-any-preserved c =
    let question = c.args.question.now in
    let own = tables_of c.args.self.now in
    let cells = c.args.cells.now in
    let looks : List Look = c.in-Seen.looks in
    let wants : List Want = c.as_slice.result.now in
    let within : c.args.want < length wants = subst (λ (l : List Want). c.args.want < length l) (sym c.as_slice.ensures) c.requires.want in
    let want_there : slice_get question.wants c.args.want ≡ Some (Seen looks) =
    ap (λ (l : List Want). slice_get l c.args.want) (sym c.as_slice.ensures)
    ∙ slice_get_read wants (length wants) c.args.want c.index-as_slice-want.result refl within c.index-as_slice-want.is ∙ ap Some c.in-Seen.is in
    let now = tables_of c.loop-any.self in
    let test : ℕ → Bool = λ any. list_all (is_met_in own question.sizes.nodes cells any) looks in
    let unmet : c.in_ok-are_met.field-0 ≡ false = search rules in
    record {
      grown = grown_then question c.args.self.now c.loop-any.self c.are_met.new.self c.loop-any.invariant.grown c.in_ok-are_met.ensures.grown;
      none = any_next test c.loop-any.any c.loop-any.invariant.none
          (all_met_same own now c.loop-any.invariant.grown.tables question.sizes.nodes cells (all_cells own question cells c.requires.come) c.loop-any.any looks
          ∙ ap (list_all (is_met_in now question.sizes.nodes cells c.loop-any.any)) (sym c.as_slice-in-loop-any.ensures) ∙ sym c.in_ok-are_met.ensures.met ∙ unmet);
    }

pub returns-then-branch-clause-seen : goal.returns-then-branch-clause-seen
returns-then-branch-clause-seen c wanted wanted_is =
    let question = c.args.question.now in
    let own = tables_of c.args.self.now in
    let cells = c.args.cells.now in
    let looks : List Look = c.in-Seen.looks in
    let wants : List Want = c.as_slice.result.now in
    let within : c.args.want < length wants = subst (λ (l : List Want). c.args.want < length l) (sym c.as_slice.ensures) c.requires.want in
    let want_there : slice_get question.wants c.args.want ≡ Some (Seen looks) =
    ap (λ (l : List Want). slice_get l c.args.want) (sym c.as_slice.ensures)
    ∙ slice_get_read wants (length wants) c.args.want c.index-as_slice-want.result refl within c.index-as_slice-want.is ∙ ap Some c.in-Seen.is in
    let now = tables_of c.loop-any.self in
    let test : ℕ → Bool = λ any. list_all (is_met_in own question.sizes.nodes cells any) looks in
    let met : c.in_ok-are_met.field-0 ≡ true = search rules in
    sym (ap (is_seen_in own question.sizes.nodes cells) (same_Some wanted (Seen looks) (sym wanted_is ∙ want_there))
    ∙ any_found test (length cells) c.loop-any.any c.loop-any-test.true
    (all_met_same own now c.loop-any.invariant.grown.tables question.sizes.nodes cells (all_cells own question cells c.requires.come) c.loop-any.any looks
    ∙ ap (list_all (is_met_in now question.sizes.nodes cells c.loop-any.any)) (sym c.as_slice-in-loop-any.ensures) ∙ sym c.in_ok-are_met.ensures.met ∙ met))

pub returns-clause-seen : goal.returns-clause-seen
returns-clause-seen c wanted wanted_is =
    let question = c.args.question.now in
    let own = tables_of c.args.self.now in
    let cells = c.args.cells.now in
    let looks : List Look = c.in-Seen.looks in
    let wants : List Want = c.as_slice.result.now in
    let within : c.args.want < length wants = subst (λ (l : List Want). c.args.want < length l) (sym c.as_slice.ensures) c.requires.want in
    let want_there : slice_get question.wants c.args.want ≡ Some (Seen looks) =
    ap (λ (l : List Want). slice_get l c.args.want) (sym c.as_slice.ensures)
    ∙ slice_get_read wants (length wants) c.args.want c.index-as_slice-want.result refl within c.index-as_slice-want.is ∙ ap Some c.in-Seen.is in
    let test : ℕ → Bool = λ any. list_all (is_met_in own question.sizes.nodes cells any) looks in
    let whole : length cells ≡ c.loop-any.any = omega (arith, c.loop-any-test.false, c.loop-any.auto.any-end) in
    sym (ap (is_seen_in own question.sizes.nodes cells) (same_Some wanted (Seen looks) (sym wanted_is ∙ want_there))
    ∙ ap (any_below test) whole ∙ c.loop-any.invariant.none)
