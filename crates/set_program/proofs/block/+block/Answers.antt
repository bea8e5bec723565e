use Rattle.std.proofs.Common.{◌≡◌, ◌<◌, ◌∙◌, ap, arith, List, [], length, rules, subst, sym}
use denote.Param.{param}
use mir.Syntax.{erased}
use denote.Param.Send.{IsSend, IsSync, param_send}
use Rattle.std.specs.Prelude.{ℕ}
use Rattle.std.proofs.lemmas.List.{nil_from_length}
use Rattle.set_model.specs.declared.command.Command.{Command}
use Rattle.set_model.specs.Limits.{is_for}
use Rattle.turn_board.specs.History.{calls_by}
use Rattle.shared_set.specs.Passes.{sizes_of, undone, view}
use Rattle.shared_set.specs.Sets.{history_in}
use Rattle.set_program.specs.Blocks.{EndsList, TellsBlock}
use Rattle.set_program.specs.contracts.block.ListEnd as list_end
use Rattle.set_program.specs.contracts.block.ListJob as list_job
use Rattle.set_program.proofs.BlockRuns.{block_ends, block_none, block_runs, fits_last, fits_others, list_rises}
use Rattle.set_program.proofs.Crosses.{list_end_send, list_job_send}
use Rattle.set_program.proofs.TriedLemmas.{tried_block, tried_none}
use Rattle.set_program.proofs.block.+block.Goals as goal

pub returns-in_default-clause-ends : goal.returns-in_default-clause-ends
returns-in_default-clause-ends g t c =
    let empty : length c.args.lists.now ≡ 0 = search rules in
    subst (λ (l : List (List (ℕ × Command))). TellsBlock (sizes_of c.args.set.now) l (view c.args.pass.now) (view c.args.pass.now) c.new.result.items) (sym (nil_from_length _ empty))
    (block_none (sizes_of c.args.set.now) (view c.args.pass.now) c.new.result c.new.ensures.items)

pub beside-ended-requires-send-J : goal.beside-ended-requires-send-J
beside-ended-requires-send-J g t c κs within =
    let send : IsSend (param 0 g.row.D) = search rules in
    let gates : IsSync (param 1 g.row.G) = search rules in
    let runs : IsSync (param 2 g.row.R) = search rules in
    record {
      owned = (list_job_send (param 0 g.row.D) g.D.Disk send (record { mir = erased; lft = _ }) (param 1 g.row.G) (param 2 g.row.R) gates runs).owned;
      leaving = (param_send 1 (list_job.the_row (record { mir = erased; lft = [] }) (param 0 g.row.D) (param 1 g.row.G) (param 2 g.row.R) g.D.Disk) (list_job_send (param 0 g.row.D) g.D.Disk send (record { mir = erased; lft = [] }) (param 1 g.row.G) (param 2 g.row.R) gates runs)).leaving;
    }

pub beside-ended-requires-send-E : goal.beside-ended-requires-send-E
beside-ended-requires-send-E g t c κs within =
    let send : IsSend (param 0 g.row.D) = search rules in
    let ended = param_send 3 (list_end.the_row (param 0 g.row.D) g.D.Disk) (list_end_send (param 0 g.row.D) g.D.Disk send) in
    record { owned = ended.owned; leaving = ended.leaving }

pub beside-ended-requires-clause-job : goal.beside-ended-requires-clause-job
beside-ended-requires-clause-job g t c κs within = (
  search rules,
  c.split-own.ensures.given.0,
  c.split-own.ensures.given.1,
  (
    c.split-own.ensures.given.2.0,
    ap (λ v. v.calls) c.split-own.ensures.given.2.1,
    ap (λ v. calls_by c.split-own.ensures.given.2.0 v.turns) c.split-own.ensures.given.2.1 ∙ c.split-own.ensures.given.2.2,
  ),
  c.split-own.ensures.undone.1,
  fits_last (λ (line : ℕ × Command). is_for (sizes_of c.args.set.now).nodes line.1) c.args.lists.now c.in-Some.others.now c.in-Some.lines.now c.in-Some.ensures.cases.0 c.requires.fits,
)

pub beside-ended-requires-clause-rest : goal.beside-ended-requires-clause-rest
beside-ended-requires-clause-rest g t c κs within =
    let count = c.in-Some.ensures.cases.1 in
    let few = c.requires.parts in
    let left = ap (λ v. v.parts) c.split-own.ensures.pass.2 in (
      omega (arith, count),
      (
        (λ a h. h),
        (
          (λ a h. h),
          (
            (λ a h. h),
            (
              (
                search rules,
                search rules,
                c.split-own.ensures.pass.0,
                c.split-own.ensures.pass.1,
                omega (arith, count, few, left),
                fits_others (λ (line : ℕ × Command). is_for (sizes_of c.args.set.now).nodes line.1) c.args.lists.now c.in-Some.others.now c.in-Some.lines.now c.in-Some.ensures.cases.0 c.requires.fits,
              ),
              (search rules, search rules, search rules),
            ),
          ),
        ),
      ),
    )

pub both-requires-clause-later : goal.both-requires-clause-later
both-requires-clause-later g t c =
    let ends : EndsList (sizes_of c.args.set.now) c.in-Some.lines.now (view c.split-own.result) (view c.beside-ended.result.0.pass) c.beside-ended.result.0.told = c.beside-ended.ensures.job.4 in
    list_rises (sizes_of c.args.set.now) c.in-Some.lines.now (view c.split-own.result) (view c.beside-ended.result.0.pass) c.beside-ended.result.0.told ends

pub returns-clause-ends : goal.returns-clause-ends
returns-clause-ends g t c =
    let own = c.beside-ended.ensures.job in
    let lent = c.beside-ended.ensures.rest in
    let some_parts : 1 < (view c.args.pass.now).parts = let count = c.in-Some.ensures.cases.1 in let few = c.requires.parts in omega (arith, count, few) in
    block_ends (sizes_of c.args.set.now) c.args.lists.now c.in-Some.others.now c.in-Some.lines.now (view c.args.pass.now) (view c.split-own.new.pass) (view c.beside-ended.result.1.0.now)
    (view c.split-own.result) (view c.beside-ended.result.0.pass) (view c.join.new.pass) c.split-own.ensures.given.2.0 c.beside-ended.result.1.1 c.beside-ended.result.0.told c.both.result
    c.in-Some.ensures.cases.0 some_parts c.split-own.ensures.pass.2 c.split-own.ensures.given.2.1 c.join.ensures.pass.2 (ap (λ l. history_in l) (lent.1.4 ∙ sym c.requires.pass.0.4)) (ap (λ l. history_in l) (own.0.4 ∙ sym c.requires.pass.0.4))
    c.join.ensures.seen.0 c.join.ensures.seen.1 c.join.ensures.once lent.3 own.2 lent.5 own.4 c.both.ensures

pub returns-clause-defined : goal.returns-clause-defined
returns-clause-defined g t c =
    let own = c.beside-ended.ensures.job in
    let lent = c.beside-ended.ensures.rest in
    block_runs (sizes_of c.args.set.now) (view c.args.pass.now) (view c.split-own.new.pass) (view c.beside-ended.result.1.0.now) (view c.split-own.result) (view c.beside-ended.result.0.pass) (view c.join.new.pass)
    c.split-own.ensures.given.2.0 c.split-own.ensures.pass.2 c.split-own.ensures.given.2.1 c.join.ensures.pass.2 (ap (λ l. history_in l) (lent.1.4 ∙ sym c.requires.pass.0.4)) (ap (λ l. history_in l) (own.0.4 ∙ sym c.requires.pass.0.4)) lent.4 own.3

pub returns-in_default-clause-tried : goal.returns-in_default-clause-tried
returns-in_default-clause-tried g t c = tried_none c.args.lists.now (undone c.args.pass.now)

pub returns-clause-tried : goal.returns-clause-tried
returns-clause-tried g t c =
    let own = c.beside-ended.ensures.job in
    let lent = c.beside-ended.ensures.rest in
    tried_block c.args.lists.now c.in-Some.others.now c.in-Some.lines.now (undone c.args.pass.now) (undone c.split-own.new.pass) (undone c.beside-ended.result.1.0.now) (undone c.beside-ended.result.0.pass) (undone c.join.new.pass)
    c.in-Some.ensures.cases.0 c.split-own.ensures.undone.0 lent.6 own.5 c.join.ensures.undone
