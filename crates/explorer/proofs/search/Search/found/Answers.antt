use Rattle.std.proofs.Common.{◌≡◌, ◌≤◌, ◌<◌, ◌+◌, ◌-◌, ◌^◌, List, [], ap, arith, drop, drop_of_length-le, get_or, length, subst, suc, sym}
use Rattle.explore_steps.specs.declared.doing.Doing.{Doing as Tried}
use Rattle.explore_steps.specs.declared.doing.First.TheVariants.{Nothing}
use Rattle.explore_steps.specs.Tables.{Tables, tables_of}
use Rattle.explorer.specs.States.{IsPath}
use Rattle.explorer.proofs.Found.{IsOnPath, on_next, path_begun, path_ends, path_may, path_next}
use Rattle.explorer.proofs.search.Search.found.Goals as goal

pub loop-doing-init : goal.loop-doing-init
loop-doing-init c =
    let tables : Tables = tables_of c.args.self.now.steps in
    let met = c.requires.met in
    path_begun tables c.args.question.now (suc met.0) c.args.run.now c.deref-doing-items.result.now c.requires.begun
    (subst (IsPath c.args.question.now (suc met.0) tables) (sym c.deref-doing-items.ensures.value) (c.in_ok-doings.ensures c.args.question.now met.0 met.2))

pub go-requires-clause-may : goal.go-requires-clause-may
go-requires-clause-may c =
    let tables : Tables = tables_of c.args.self.now.steps in
    let items : List Tried = c.deref-doing-items.result.now in
    path_may tables c.args.question.now c.loop-doing.doing-index c.loop-doing.run (get_or items c.loop-doing.doing-index (record { act = 0; first = Nothing })) (drop (c.loop-doing.doing-index + 1) items)
    (on_next tables c.args.question.now c.loop-doing.doing-index c.loop-doing.run items c.loop-doing-test.true c.loop-doing.invariant)

pub loop-doing-preserved : goal.loop-doing-preserved
loop-doing-preserved c =
    let tables : Tables = tables_of c.args.self.now.steps in
    let items : List Tried = c.deref-doing-items.result.now in
    path_next tables c.args.question.now c.loop-doing.doing-index c.loop-doing.run (get_or items c.loop-doing.doing-index (record { act = 0; first = Nothing })) (drop (c.loop-doing.doing-index + 1) items)
    (on_next tables c.args.question.now c.loop-doing.doing-index c.loop-doing.run items c.loop-doing-test.true c.loop-doing.invariant)
    c.dead_messages_change_nothing.ensures.stays c.go.new.self c.in_ok-go.ensures

pub overflow_cast-result : goal.overflow_cast-result
overflow_cast-result c =
    let met = c.requires.met in
    let path : IsPath c.args.question.now (suc met.0) (tables_of c.args.self.now.steps) c.in_ok-doings.doings.items = c.in_ok-doings.ensures c.args.question.now met.0 met.2 in
    let few : length c.in_ok-doings.doings.items ≤ suc met.0 = path.3 in
    let small : met.0 < 2 ^ 32 - 1 = met.1 in
    let long : c.len.result ≡ length c.in_ok-doings.doings.items = omega arith in
    record { fits = omega (arith, few, small, long) }

pub returns : goal.returns
returns c = λ done met.
    (let tables : Tables = tables_of c.args.self.now.steps in
    let items : List Tried = c.deref-doing-items.result.now in
    let path : IsPath c.args.question.now (suc done) tables c.in_ok-doings.doings.items = c.in_ok-doings.ensures c.args.question.now done met in
    let few : length c.in_ok-doings.doings.items ≤ suc done = path.3 in
    let long : c.len.result ≡ length c.in_ok-doings.doings.items = omega arith in
    let same : length items ≡ length c.in_ok-doings.doings.items = ap length c.deref-doing-items.ensures.value in
    let whole : c.loop-doing.doing-index ≡ c.len.result = omega (arith, c.loop-doing-test.false, c.loop-doing.auto.doing-index-end, same, long) in
    let none : drop c.loop-doing.doing-index items ≡ [] = drop_of_length-le items {i = c.loop-doing.doing-index} c.loop-doing-test.false in
    path_ends tables c.args.question.now c.len.result (suc done) c.loop-doing.run (drop c.loop-doing.doing-index items) none (omega (arith, long, few))
    (subst (λ k. IsOnPath tables c.args.question.now k c.loop-doing.run (drop c.loop-doing.doing-index items)) whole c.loop-doing.invariant))
