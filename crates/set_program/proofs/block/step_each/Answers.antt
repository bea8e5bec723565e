use Rattle.std.proofs.Common.{◌≡◌, ◌∙◌, ap, List, [], subst, sym}
use Rattle.std.proofs.lemmas.Result.{err_from_is_err_and}
use Rattle.set_world.specs.declared.error.StepError.{StepError}
use Rattle.set_world.specs.declared.error.StepError.TheVariants.{HistoryFull}
use Rattle.shared_set.specs.Passes.{sizes_of, undone, view}
use Rattle.set_program.specs.Blocks.{EndsList, TellsList}
use Rattle.set_program.proofs.ListRuns.{list_fails, list_next, list_none, list_unkept, list_whole}
use Rattle.set_program.proofs.OrderLemmas.{Told}
use Rattle.set_program.proofs.TriedLemmas.{line_there, tried_line, tried_no_line}
use Rattle.set_program.proofs.block.step_each.Goals as goal

pub loop-line-init : goal.loop-line-init
loop-line-init g c = (
  c.requires.pass.0,
  c.requires.pass.1,
  (λ least. least),
  (λ defined. defined),
  subst (λ (l : List Told). TellsList (sizes_of c.args.set.now) [] (view c.args.pass.now) (view c.args.pass.now) l) (sym c.new-told.ensures.items)
      (list_none (sizes_of c.args.set.now) (view c.args.pass.now) c.requires.pass.2),
  c.requires.pass.3,
)

pub returns-in_err-place-clause-ends : goal.returns-in_err-place-clause-ends
returns-in_err-place-clause-ends g c =
    let p = err_from_is_err_and c.from_residual.result c.from_residual.ensures.1 in
    let same = p.2 in
    subst (λ r. EndsList (sizes_of c.args.set.now) c.args.lines.now (view c.args.pass.now) (view c.step.new.pass) r) (sym p.1)
    (list_fails (sizes_of c.args.set.now) (view c.args.pass.now) (view c.loop-line.pass) (view c.step.new.pass) c.as_slice-line-items.result.now c.args.lines.now c.as_slice-line-items.ensures
    c.loop-line.line-index c.loop-line.told.items c.loop-line.invariant.4 p.0 c.in_err-place.ensures.err (λ is. let e : c.in_err-place.field-0.0 ≡ HistoryFull = cc (same, is) in c.in_err-place.ensures.full (ap (λ (x : StepError). Rattle.std.specs.Prelude.Err x) e)))

pub returns-in_err-keep-clause-ends : goal.returns-in_err-keep-clause-ends
returns-in_err-keep-clause-ends g c =
    let p = err_from_is_err_and c.from_residual-in_err-keep.result c.from_residual-in_err-keep.ensures.1 in
    let ran = list_unkept (sizes_of c.args.set.now) (view c.args.pass.now) (view c.loop-line.pass) (view c.step.new.pass) c.as_slice-line-items.result.now c.args.lines.now c.as_slice-line-items.ensures
    c.loop-line.line-index c.loop-line.told.items c.loop-line.invariant.4 c.loop-line-item.result c.loop-line-test.true c.loop-line-item.is c.in_ok-place.place c.in_ok-place.reply c.in_ok-place.ensures.step in
    subst (λ r. EndsList (sizes_of c.args.set.now) c.args.lines.now (view c.args.pass.now) (view c.step.new.pass) r) (sym p.1)
    (subst (λ e. EndsList (sizes_of c.args.set.now) c.args.lines.now (view c.args.pass.now) (view c.step.new.pass) (Rattle.std.specs.Prelude.Err e)) (sym p.2) ran)

pub loop-line-preserved : goal.loop-line-preserved
loop-line-preserved g c = (
  c.step.ensures.pass.0,
  c.step.ensures.pass.1,
  (λ least. c.step.ensures.short),
  (λ defined. c.step.ensures.defined),
  list_next (sizes_of c.args.set.now) (view c.args.pass.now) (view c.loop-line.pass) (view c.step.new.pass) c.as_slice-line-items.result.now c.args.lines.now c.as_slice-line-items.ensures
      c.loop-line.line-index c.loop-line.told.items c.loop-line.invariant.4 c.loop-line-item.result c.loop-line-test.true c.loop-line-item.is c.in_ok-place.place c.in_ok-place.reply c.in_ok-place.ensures.step
      c.keep.new.told.items c.in_ok-keep.ensures,
  c.in_ok-place.ensures.done ∙ c.loop-line.invariant.5,
)

pub returns-clause-ends : goal.returns-clause-ends
returns-clause-ends g c =
    list_whole (sizes_of c.args.set.now) (view c.args.pass.now) (view c.loop-line.pass) (view c.loop-line.pass) c.as_slice-line-items.result.now c.args.lines.now c.as_slice-line-items.ensures
    c.loop-line.line-index c.loop-line.told.items c.loop-line.invariant.4 c.loop-line-test.false

-- the line that wasn't done is one of the list
pub returns-in_err-place-clause-tried : goal.returns-in_err-place-clause-tried
returns-in_err-place-clause-tried g c =
    tried_line c.args.lines.now c.loop-line-item.result (undone c.loop-line.pass) (undone c.step.new.pass)
    (line_there c.as_slice-line-items.result.now c.args.lines.now c.as_slice-line-items.ensures c.loop-line.line-index c.loop-line-item.result c.loop-line-test.true c.loop-line-item.is)
    c.loop-line.invariant.5 c.in_err-place.ensures.undone

pub returns-in_err-keep-clause-tried : goal.returns-in_err-keep-clause-tried
returns-in_err-keep-clause-tried g c = tried_no_line c.args.lines.now (undone c.step.new.pass) (c.in_ok-place.ensures.done ∙ c.loop-line.invariant.5)

pub returns-clause-tried : goal.returns-clause-tried
returns-clause-tried g c = tried_no_line c.args.lines.now (undone c.loop-line.pass) c.loop-line.invariant.5
