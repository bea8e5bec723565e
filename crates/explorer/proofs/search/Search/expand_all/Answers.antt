use Rattle.std.proofs.Common.{◌≡◌, ◌≤◌, suc, arith, length}
use Rattle.explorer.specs.States.{IsNext}
use Rattle.explorer.proofs.ActLemmas.{all_states, count_is, no_state, one_state, state_at, there_still, within_grows}
use Rattle.explorer.proofs.StateLemmas.{grown_itself, grown_less, grown_on}
use Rattle.explorer.proofs.search.Search.expand_all.Goals as goal

pub loop-number-init : goal.loop-number-init
loop-number-init c = (
  grown_itself c.args.self.now,
  λ done more standings states. no_state c.args.question.now done more c.args.self.now standings c.args.first states,
)

pub expand-requires-clause-states : goal.expand-requires-clause-states
expand-requires-clause-states c =
    let question = c.args.question.now in
    let old = c.args.self.now in
    let s = c.requires.states in
    let number = c.loop-number.number in
    let last : c.args.end ≤ length s.2 = s.4 in
    let by = state_at s.2 number (omega (arith, last, c.loop-number-test.true)) in
    let grown = c.loop-number.invariant.1 s.0 s.1 s.2 s.3 in (
      s.0,
      s.1,
      by.0,
      grown.standings,
      grown.states,
      there_still s.2 grown.standings grown.extends number by.0 by.1,
      within_grows question old.origins.items c.loop-number.self.origins.items s.0 (suc s.1) number by.0 c.loop-number.invariant.0.origins (s.3.within number by.0 by.1),
    )

pub returns-clause-on : goal.returns-clause-on
returns-clause-on c done more standings states =
    let question = c.args.question.now in
    grown_less question (suc done) more c.loop-number.self standings (IsNext question standings c.args.first c.loop-number.number) (IsNext question standings c.args.first c.args.end)
    (all_states question standings c.args.first c.args.end c.loop-number.number c.loop-number-test.false) (c.loop-number.invariant.1 done more standings states)

pub returns-in-Some-clause-grown : goal.returns-in-Some-clause-grown
returns-in-Some-clause-grown c = grown_on c.args.self.now c.loop-number.self c.expand.new.self c.loop-number.invariant.0 c.in_ok-stop.ensures.grown

pub returns-in-Some-clause-on : goal.returns-in-Some-clause-on
returns-in-Some-clause-on c done more standings states =
    let question = c.args.question.now in
    let old = c.args.self.now in
    let s = c.requires.states in
    let number = c.loop-number.number in
    let last : c.args.end ≤ length s.2 = s.4 in
    let count : length s.2 ≡ length standings = count_is question question s.0 (suc s.1) done (suc more) old s.2 standings s.3 states in
    let by = state_at standings number (omega (arith, last, count, c.loop-number-test.true)) in
    let grown = c.loop-number.invariant.1 done more standings states in
    rw c.in-Some.is at
    (c.in_ok-stop.ensures.on done more by.0 grown.standings grown.states (there_still standings grown.standings grown.extends number by.0 by.1)
    (within_grows question old.origins.items c.loop-number.self.origins.items done (suc more) number by.0 c.loop-number.invariant.0.origins (states.within number by.0 by.1)))

pub loop-number-preserved : goal.loop-number-preserved
loop-number-preserved c = (
  grown_on c.args.self.now c.loop-number.self c.expand.new.self c.loop-number.invariant.0 c.in_ok-stop.ensures.grown,
  λ done more standings states.
      (let question = c.args.question.now in
      let old = c.args.self.now in
      let s = c.requires.states in
      let number = c.loop-number.number in
      let last : c.args.end ≤ length s.2 = s.4 in
      let count : length s.2 ≡ length standings = count_is question question s.0 (suc s.1) done (suc more) old s.2 standings s.3 states in
      let by = state_at standings number (omega (arith, last, count, c.loop-number-test.true)) in
      let grown = c.loop-number.invariant.1 done more standings states in
      one_state question (suc done) more c.loop-number.self c.expand.new.self standings c.args.first number by.0 by.1 grown
      (rw c.in_default.is at
      (c.in_ok-stop.ensures.on done more by.0 grown.standings grown.states (there_still standings grown.standings grown.extends number by.0 by.1)
      (within_grows question old.origins.items c.loop-number.self.origins.items done (suc more) number by.0 c.loop-number.invariant.0.origins (states.within number by.0 by.1))))),
)

pub returns-clause-grown : goal.returns-clause-grown
returns-clause-grown c = c.loop-number.invariant.0
