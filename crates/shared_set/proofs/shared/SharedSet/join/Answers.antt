use Rattle.std.proofs.Common.{◌∙◌, ◌≤◌, ap, sym, subst}
use mathlib.Core.List.{IsPrefix}
use Rattle.turn_board.specs.History.{times}
use Rattle.shared_set.specs.Attempts.{undone_calls}
use Rattle.shared_set.specs.Passes.{heard}
use Rattle.shared_set.proofs.HeardLemmas.{joined_heard, names_done, turns_begin, undone_calls_append}
use Rattle.shared_set.proofs.shared.SharedSet.join.Goals as goal

pub returns-clause-pass : goal.returns-clause-pass
returns-clause-pass g c =
    let v = c.args.pass.now.view in
    let w = c.args.other.view in
    let new = c.join.new.pass.view in (
      c.join.ensures.pass.0,
      c.join.ensures.pass.1,
      ap (λ u. heard u) c.join.ensures.pass.2
          ∙ joined_heard v w (subst (λ u. IsPrefix v.turns u.turns) c.join.ensures.pass.2 c.join.ensures.seen.0) (subst (λ u. IsPrefix w.turns u.turns) c.join.ensures.pass.2 c.join.ensures.seen.1),
    )

pub returns-clause-seen : goal.returns-clause-seen
returns-clause-seen g c = (
  turns_begin c.args.pass.now.view.turns c.join.new.pass.view.turns c.join.ensures.seen.0,
  turns_begin c.args.other.view.turns c.join.new.pass.view.turns c.join.ensures.seen.1,
)

pub returns-clause-undone : goal.returns-clause-undone
returns-clause-undone g c =
    ap (λ v. undone_calls v.calls) c.join.ensures.pass.2 ∙ undone_calls_append c.args.pass.now.view.calls c.args.other.view.calls

pub returns-clause-once : goal.returns-clause-once
returns-clause-once g c = λ p. subst (λ l. times p l ≤ 1) (sym (names_done c.join.new.pass.view.calls)) (c.join.ensures.once p)
