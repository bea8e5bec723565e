use Rattle.std.proofs.Common.{rules}
use Rattle.std.proofs.lemmas.Result.{err_from_is_err_and}
use Rattle.change_stream.proofs.NextLemmas.{fails_of, memory_ends, tells_entries, tells_unknown}
use Rattle.change_stream.proofs.stream.next.Goals as goal

pub returns-in_err-commit-clause-err : goal.returns-in_err-commit-clause-err
returns-in_err-commit-clause-err g c =
    let p = err_from_is_err_and c.from_residual.result c.from_residual.ensures.1 in
    rw (p.1, p.2) (fails_of g.S.Stepper.is_alone (g.S.Stepper.sizes c.args.set.now) (g.S.Stepper.known c.args.set.now) (g.S.Stepper.known c.read.new.set) (g.S.Stepper.own c.args.set.now) (g.S.Stepper.own c.read.new.set)
    c.args.stream.now.token c.args.node c.args.max c.in_err-commit.field-0.0 c.in_err-commit.ensures.err)

pub returns-in_default-clause-err : goal.returns-in_default-clause-err
returns-in_default-clause-err g c =
    tells_unknown g.S.Stepper.is_alone (g.S.Stepper.sizes c.args.set.now) (g.S.Stepper.known c.args.set.now) (g.S.Stepper.known c.read.new.set) (g.S.Stepper.own c.args.set.now) (g.S.Stepper.own c.read.new.set) c.args.stream.now.token c.args.node c.args.max c.in_ok-commit.commit c.in_ok-commit.log.items c.in_ok-commit.ensures.ok (search rules)

pub returns-clause-ok : goal.returns-clause-ok
returns-clause-ok g c =
    tells_entries g.S.Stepper.is_alone (g.S.Stepper.sizes c.args.set.now) (g.S.Stepper.known c.args.set.now) (g.S.Stepper.known c.read.new.set) (g.S.Stepper.own c.args.set.now) (g.S.Stepper.own c.read.new.set) c.args.stream.now.token c.args.node c.args.max c.in_ok-commit.commit c.in_ok-commit.log.items c.in_ok-commit.ensures.ok c.into_entries-given.result.items (search rules) (search rules)

pub returns-in_err-of_slice-clause-err : goal.returns-in_err-of_slice-clause-err
returns-in_err-of_slice-clause-err g c =
    memory_ends g.S.Stepper.is_alone (g.S.Stepper.sizes c.args.set.now) (g.S.Stepper.known c.args.set.now) (g.S.Stepper.known c.read.new.set) (g.S.Stepper.own c.args.set.now) (g.S.Stepper.own c.read.new.set) c.args.stream.now.token c.args.node c.args.max c.in_ok-commit.commit c.in_ok-commit.log.items c.in_ok-commit.ensures.ok c.from_residual-in_err-of_slice.result c.from_residual-in_err-of_slice.ensures.1 c.in-Some.entries.now (search rules) (search rules)
