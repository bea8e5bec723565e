use Rattle.std.proofs.Common.{◌≡◌, ◌<◌, Some, length, refl, rules, slice_get, subst}
use Rattle.std.specs.Vec.{with_item}
use Rattle.set_model.specs.declared.command.Command.{Command}
use Rattle.explore_steps.specs.Causes.{own}
use Rattle.explore_steps.specs.Keeping.{HasDeed}
use Rattle.explore_steps.specs.Tables.{tables_of}
use Rattle.explore_steps.proofs.Keeping.{act_within, grown_then, one_line, read_at}
use Rattle.explore_steps.proofs.Putting.{put_line_at}
use Rattle.explore_steps.proofs.steps.Steps.line_at.Goals as goal

pub returns-in-Some-clause-deed : goal.returns-in-Some-clause-deed
returns-in-Some-clause-deed c =
    let question = c.args.question.now in
    let steps = c.args.self.now in
    let within : c.args.act < length steps.lines_at.items = act_within question c.args.act c.args.line c.args.command.now steps.lines_at.items c.requires.kept.acts_at c.requires.line in
    let there : slice_get steps.lines_at.items c.args.act ≡ Some c.index.result.now = read_at steps.lines_at.items c.args.act c.index.result.now within c.index.ensures in
    let was = c.requires.kept.lines_at c.args.act c.args.node c.args.line c.in-Some.deed (c.index.result.now, there, c.in-Some.ensures) in
    subst (λ (command : Command). HasDeed (tables_of steps) question (own command) c.args.node c.in-Some.deed)
    (one_line question c.args.act c.args.line was.0 c.args.command.now was.1 c.requires.line) was.2

pub index_mut-requires : goal.index_mut-requires
index_mut-requires c =
    let mid = c.do_command.new.self in
    let within : c.args.act < length mid.lines_at.items = act_within c.args.question.now c.args.act c.args.line c.args.command.now mid.lines_at.items c.in_ok-deed.ensures.grown.kept.acts_at c.requires.line in
    search rules

pub returns-clause-grown : goal.returns-clause-grown
returns-clause-grown c =
    let question = c.args.question.now in
    let mid = c.do_command.new.self in
    let kept = c.in_ok-deed.ensures.grown.kept in
    let within : c.args.act < length mid.lines_at.items = act_within question c.args.act c.args.line c.args.command.now mid.lines_at.items kept.acts_at c.requires.line in
    let there : slice_get mid.lines_at.items c.args.act ≡ Some c.index_mut.result.now = read_at mid.lines_at.items c.args.act c.index_mut.result.now within c.index_mut.ensures.value in
    grown_then question c.args.self.now mid _ c.in_ok-deed.ensures.grown
    (put_line_at question mid kept (record mid { lines_at = with_item mid.lines_at c.args.act c.put.new.self }) c.args.act c.args.node c.args.line c.in_ok-deed.deed
    c.index_mut.result.now c.put.new.self c.in_ok-put.ensures there refl (c.args.command.now, c.requires.line, c.in_ok-deed.ensures.deed))
