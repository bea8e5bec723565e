use Rattle.std.proofs.Common.{◌≡◌, ◌∙◌, ◌<◌, ◌+◌, None, Some, arith, length, refl, rules, subst, suc, sym}
use Rattle.explorer.specs.declared.search.Stop.TheVariants.{Met}
use Rattle.explorer.specs.States.{Grown, HasMet, IsLevel, IsNext}
use Rattle.explorer.proofs.EndLemmas.{depth_tells, first_level, found_ends, grown_to, last_tells, level_states, level_tells, met_at, next_level}
use Rattle.explorer.proofs.search.Search.levels.Goals as goal

pub loop-level-init : goal.loop-level-init
loop-level-init c = (refl, first_level c.args.question.now c.args.depth c.args.self.now c.requires.states, c.requires.begun)

pub expand_all-requires-clause-states : goal.expand_all-requires-clause-states
expand_all-requires-clause-states c =
    let is : IsLevel c.args.question.now c.args.depth c.loop-level.level c.loop-level.first c.loop-level.self = c.loop-level.invariant.1 in
    let below : c.loop-level.level < c.args.depth = omega arith in
    let may = level_states c.args.question.now c.args.depth c.loop-level.level c.loop-level.first c.loop-level.self is below in
    (c.loop-level.level, may.0, is.standings, may.1, omega (arith, c.len-end.ensures, is.states.count))

pub found-requires-clause-met : goal.found-requires-clause-met
found-requires-clause-met c =
    let is : IsLevel c.args.question.now c.args.depth c.loop-level.level c.loop-level.first c.loop-level.self = c.loop-level.invariant.1 in
    let below : c.loop-level.level < c.args.depth = omega arith in
    let may = level_states c.args.question.now c.args.depth c.loop-level.level c.loop-level.first c.loop-level.self is below in
    let met : c.in_ok-last.field-0 ≡ Some (Met c.in-Some-Met.last) = search rules in (
      c.loop-level.level,
      omega (arith, below, c.ranges.depth.fits),
      met_at c.args.question.now c.loop-level.level may.0 c.expand_all.new.self is.standings (IsNext c.args.question.now is.standings c.loop-level.first c.len-end.result) c.in_ok-last.field-0 c.in-Some-Met.last met
          (c.in_ok-last.ensures.on c.loop-level.level may.0 is.standings may.1),
    )

pub returns-in-Some-Met : goal.returns-in-Some-Met
returns-in-Some-Met c =
    let is : IsLevel c.args.question.now c.args.depth c.loop-level.level c.loop-level.first c.loop-level.self = c.loop-level.invariant.1 in
    let below : c.loop-level.level < c.args.depth = omega arith in
    let may = level_states c.args.question.now c.args.depth c.loop-level.level c.loop-level.first c.loop-level.self is below in
    let met : c.in_ok-last.field-0 ≡ Some (Met c.in-Some-Met.last) = search rules in
    let has : HasMet c.args.question.now c.loop-level.level c.expand_all.new.self c.in-Some-Met.last =
    met_at c.args.question.now c.loop-level.level may.0 c.expand_all.new.self is.standings (IsNext c.args.question.now is.standings c.loop-level.first c.len-end.result) c.in_ok-last.field-0 c.in-Some-Met.last met
    (c.in_ok-last.ensures.on c.loop-level.level may.0 is.standings may.1) in
    found_ends c.searches_are_whole.ensures.whole c.searches_are_whole.ensures.tell c.args.question.now c.requires.question.put c.args.depth c.args.self.now.most c.loop-level.level c.loop-level.first c.loop-level.self is c.loop-level.invariant.0
    c.followers_are_runs.ensures below c.in_ok-acts-in-Some-Met.acts c.found.new.run.events.items (c.in_ok-acts-in-Some-Met.ensures c.loop-level.level has)

pub returns-in-Some-Full : goal.returns-in-Some-Full
returns-in-Some-Full c = (
  omega arith,
  level_tells c.searches_are_whole.ensures.whole c.searches_are_whole.ensures.tell c.args.question.now c.requires.question.put c.args.depth c.args.self.now.most c.loop-level.level c.loop-level.first c.loop-level.self
      c.loop-level.invariant.1 c.loop-level.invariant.0 c.len-end.result c.len-end.ensures,
)

pub returns-then-len-end : goal.returns-then-len-end
returns-then-len-end c =
    let is : IsLevel c.args.question.now c.args.depth c.loop-level.level c.loop-level.first c.loop-level.self = c.loop-level.invariant.1 in
    let below : c.loop-level.level < c.args.depth = omega arith in
    let may = level_states c.args.question.now c.args.depth c.loop-level.level c.loop-level.first c.loop-level.self is below in
    let none : c.in_ok-last.field-0 ≡ None = search rules in
    let grown : Grown c.args.question.now (suc c.loop-level.level) may.0 c.expand_all.new.self is.standings (IsNext c.args.question.now is.standings c.loop-level.first (length is.standings)) =
    grown_to c.args.question.now c.loop-level.level may.0 c.expand_all.new.self is.standings c.loop-level.first c.len-end.result c.in_ok-last.field-0 none (c.len-end.ensures ∙ is.states.count)
    (c.in_ok-last.ensures.on c.loop-level.level may.0 is.standings may.1) in
    last_tells c.searches_are_whole.ensures.whole c.searches_are_whole.ensures.tell c.args.question.now c.requires.question.put c.args.depth c.args.self.now.most c.loop-level.level c.loop-level.first c.loop-level.self is
    c.loop-level.invariant.0 c.expand_all.new.self may.0 grown c.len-end.result c.len-end.ensures (omega (arith, c.len.ensures, c.if-len-end.true))

pub loop-level-preserved : goal.loop-level-preserved
loop-level-preserved c =
    let is : IsLevel c.args.question.now c.args.depth c.loop-level.level c.loop-level.first c.loop-level.self = c.loop-level.invariant.1 in
    let below : c.loop-level.level < c.args.depth = omega arith in
    let may = level_states c.args.question.now c.args.depth c.loop-level.level c.loop-level.first c.loop-level.self is below in
    let none : c.in_ok-last.field-0 ≡ None = search rules in
    let all : c.len-end.result ≡ length is.standings = c.len-end.ensures ∙ is.states.count in
    let grown : Grown c.args.question.now (suc c.loop-level.level) may.0 c.expand_all.new.self is.standings (IsNext c.args.question.now is.standings c.loop-level.first (length is.standings)) =
    grown_to c.args.question.now c.loop-level.level may.0 c.expand_all.new.self is.standings c.loop-level.first c.len-end.result c.in_ok-last.field-0 none all
    (c.in_ok-last.ensures.on c.loop-level.level may.0 is.standings may.1) in (
      c.in_ok-last.ensures.grown.most ∙ c.loop-level.invariant.0,
      subst (λ k. IsLevel c.args.question.now c.args.depth (c.loop-level.level + 1) k c.expand_all.new.self) (sym all)
          (next_level c.args.question.now c.args.depth c.loop-level.level c.loop-level.first c.loop-level.self c.expand_all.new.self is may.0 grown (c.loop-level.level + 1) refl may.2),
      c.loop-level.invariant.2,
    )

pub returns : goal.returns
returns c =
    let is : IsLevel c.args.question.now c.args.depth c.loop-level.level c.loop-level.first c.loop-level.self = c.loop-level.invariant.1 in
    depth_tells c.searches_are_whole.ensures.whole c.searches_are_whole.ensures.tell c.args.question.now c.requires.question.put c.args.depth c.args.self.now.most c.loop-level.level c.loop-level.first c.loop-level.self is
    c.loop-level.invariant.0 (omega (arith, c.loop-level-test.false, is.left)) c.len-2.result c.len-2.ensures
