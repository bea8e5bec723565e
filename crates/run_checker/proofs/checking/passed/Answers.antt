use Rattle.std.proofs.Common.{refl, sym, ◌∙◌, arith}
use Rattle.run_checker.proofs.PassingLemmas.{is_there, passed_all, passes_there, stops_there}
use Rattle.run_checker.proofs.checking.passed.Goals as goal

pub loop-place-init : goal.loop-place-init
loop-place-init c = record { comes = refl; within = omega arith; numbers = omega arith }

pub returns-then-not-stands_at : goal.returns-then-not-stands_at
returns-then-not-stands_at c =
    stops_there c.args.line c.args.reply.now c.args.rest.now c.loop-place.next c.loop-place.place c.loop-place.invariant (omega arith) (sym c.stands_at.ensures ∙ c.if-not-stands_at.true)

pub number_after-next-requires : goal.number_after-next-requires
number_after-next-requires c =
    let there = is_there _ c.loop-place.place c.args.rest.now (sym c.stands_at.ensures ∙ c.if-not-stands_at.false) in
    omega (arith, there, c.requires, c.loop-place.invariant.numbers)

pub loop-place-preserved : goal.loop-place-preserved
loop-place-preserved c =
    passes_there c.args.line c.args.reply.now c.args.rest.now c.loop-place.next c.loop-place.place c.loop-place.invariant (omega arith) _ _ (sym c.stands_at.ensures ∙ c.if-not-stands_at.false) c.number_after-next.ensures (omega arith)

pub returns : goal.returns
returns c = passed_all c.args.line c.args.reply.now c.args.rest.now c.loop-place.next c.loop-place.place c.loop-place.invariant (omega arith) (omega arith)
