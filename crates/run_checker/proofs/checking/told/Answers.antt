use Rattle.std.proofs.Common.{◌≡◌, ◌<◌, length, sym, subst, arith}
use Rattle.std.proofs.lemmas.Result.{err_from_is_err_and}
use Rattle.set_model.specs.World.{World}
use Rattle.run_checker.proofs.CheckedLemmas.{one_told}
use Rattle.run_checker.proofs.TellingLemmas.{SoFar, as_many, begun, more, reached, says_all, stops, tells_all}
use Rattle.run_checker.proofs.checking.told.Goals as goal

pub loop-rest-init : goal.loop-rest-init
loop-rest-init c = subst (λ (w : World). SoFar c.args.sizes c.args.bytes.now w c.args.bytes.now 2 0) (sym c.in_ok-machine.ensures) (begun c.args.sizes c.args.bytes.now)

pub told_one-requires : goal.told_one-requires
told_one-requires c =
    let so_far = c.loop-rest.invariant in
    let some : 0 < length c.loop-rest.rest.now = grind arith in
    record {
      reached = reached c.args.sizes c.args.bytes.now c.loop-rest.machine c.loop-rest.rest.now c.loop-rest.line c.loop-rest.count so_far c.requires;
      nodes = as_many c.args.sizes c.args.bytes.now c.loop-rest.machine c.loop-rest.rest.now c.loop-rest.line c.loop-rest.count so_far c.requires c.numbers_stay_small.ensures;
      some = some;
      room = omega (arith, so_far.numbers);
    }

pub loop-rest-preserved : goal.loop-rest-preserved
loop-rest-preserved c =
    let some : 0 < length c.loop-rest.rest.now = grind arith in
    more c.args.sizes c.args.bytes.now c.loop-rest.machine c.loop-rest.rest.now c.loop-rest.line c.loop-rest.count c.loop-rest.invariant _ _ _ c.in_ok-rest.ensures.ok c.if-count-eq-MOST_EVENTS.false some

pub loop-rest-smaller : goal.loop-rest-smaller
loop-rest-smaller c = (one_told c.args.sizes.0 c.loop-rest.machine c.loop-rest.line c.loop-rest.rest.now _ c.in_ok-rest.ensures.ok.told).fewer

pub returns-in_err-rest-clause-says : goal.returns-in_err-rest-clause-says
returns-in_err-rest-clause-says c =
    let some : 0 < length c.loop-rest.rest.now = grind arith in
    let p = err_from_is_err_and c.from_residual-in_err-rest.result c.from_residual-in_err-rest.ensures.1 in
    rw (p.1, p.2) (stops c.args.sizes c.args.bytes.now c.loop-rest.machine c.loop-rest.rest.now c.loop-rest.line c.loop-rest.count c.loop-rest.invariant c.in_err-rest.field-0.0 some c.in_err-rest.ensures.err)

pub returns-clause-tells : goal.returns-clause-tells
returns-clause-tells c =
    let none : length c.loop-rest.rest.now ≡ 0 = grind arith in
    tells_all c.args.sizes c.args.bytes.now c.loop-rest.machine c.loop-rest.rest.now c.loop-rest.line c.loop-rest.count c.loop-rest.invariant none

pub returns-clause-says : goal.returns-clause-says
returns-clause-says c =
    let none : length c.loop-rest.rest.now ≡ 0 = grind arith in
    says_all c.args.sizes c.args.bytes.now c.loop-rest.machine c.loop-rest.rest.now c.loop-rest.line c.loop-rest.count c.loop-rest.invariant none
