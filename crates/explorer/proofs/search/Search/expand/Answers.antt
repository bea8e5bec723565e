use Rattle.std.proofs.Common.{◌≡◌, ◌≤◌, suc, List, ap, arith, length, rules}
use Rattle.std.proofs.lemmas.Option.{slice_get_within}
use Rattle.explore_words.specs.declared.question.Act.{Act}
use Rattle.question_laws.specs.Following.{LeadsTo}
use Rattle.explorer.specs.States.{GoesFrom, LeadsByActs}
use Rattle.explorer.proofs.ActLemmas.{all_acts, from_there, no_act, one_act, still_from}
use Rattle.explorer.proofs.StateLemmas.{grown_itself, grown_less, grown_on}
use Rattle.explorer.proofs.search.Search.expand.Goals as goal

pub here-requires : goal.here-requires
here-requires c =
    let s = c.requires.states in
    (c.args.question.now, suc s.0, s.1, s.3, s.4, slice_get_within s.3 c.args.number s.2 s.5)

pub loop-act-init : goal.loop-act-init
loop-act-init c = (
  grown_itself c.args.self.now,
  λ done more by standings states there within. no_act c.args.question.now (suc done) more c.args.self.now standings by _ (search rules) states,
)

pub try_act-requires-clause-from : goal.try_act-requires-clause-from
try_act-requires-clause-from c =
    let question = c.args.question.now in
    let old = c.args.self.now in
    let s = c.requires.states in
    let from : GoesFrom question s.0 s.1 old c.in_ok-here.here s.2 s.3 =
    from_there question s.0 s.1 old c.in_ok-here.here s.2 s.3 c.args.number c.in_ok-here.ensures.number s.4 s.5
    (c.in_ok-here.ensures.here question (suc s.0) s.1 s.3 s.2 s.4 s.5) s.6 in
    let grown = c.loop-act.invariant.1 s.0 s.1 s.2 s.3 s.4 s.5 s.6 in (
      s.0,
      s.1,
      s.2,
      grown.standings,
      still_from question s.0 s.1 old c.loop-act.self c.in_ok-here.here s.2 s.3 (LeadsByActs question s.2 c.loop-act.act) from c.loop-act.invariant.0 grown,
    )

pub returns-in-Some-clause-grown : goal.returns-in-Some-clause-grown
returns-in-Some-clause-grown c = grown_on c.args.self.now c.loop-act.self c.try_act.new.self c.loop-act.invariant.0 c.in_ok-stop.ensures.grown

pub returns-in-Some-clause-on : goal.returns-in-Some-clause-on
returns-in-Some-clause-on c done more by standings states there within =
    let question = c.args.question.now in
    let old = c.args.self.now in
    let from : GoesFrom question done more old c.in_ok-here.here by standings =
    from_there question done more old c.in_ok-here.here by standings c.args.number c.in_ok-here.ensures.number states there
    (c.in_ok-here.ensures.here question (suc done) more standings by states there) within in
    let grown = c.loop-act.invariant.1 done more by standings states there within in
    let later = still_from question done more old c.loop-act.self c.in_ok-here.here by standings (LeadsByActs question by c.loop-act.act) from c.loop-act.invariant.0 grown in
    rw c.in-Some.is at (c.in_ok-stop.ensures.on done more by grown.standings later)

pub loop-act-preserved : goal.loop-act-preserved
loop-act-preserved c = (
  grown_on c.args.self.now c.loop-act.self c.try_act.new.self c.loop-act.invariant.0 c.in_ok-stop.ensures.grown,
  λ done more by standings states there within.
      (let question = c.args.question.now in
      let old = c.args.self.now in
      let from : GoesFrom question done more old c.in_ok-here.here by standings =
      from_there question done more old c.in_ok-here.here by standings c.args.number c.in_ok-here.ensures.number states there
      (c.in_ok-here.ensures.here question (suc done) more standings by states there) within in
      let grown = c.loop-act.invariant.1 done more by standings states there within in
      let later = still_from question done more old c.loop-act.self c.in_ok-here.here by standings (LeadsByActs question by c.loop-act.act) from c.loop-act.invariant.0 grown in
      one_act question (suc done) more c.loop-act.self c.try_act.new.self standings by c.loop-act.act grown (rw c.in_default.is at (c.in_ok-stop.ensures.on done more by grown.standings later))),
)

pub returns-clause-grown : goal.returns-clause-grown
returns-clause-grown c = c.loop-act.invariant.0

pub returns-clause-on : goal.returns-clause-on
returns-clause-on c done more by standings states there within =
    let question = c.args.question.now in
    let count : length c.as_slice-act-end.result.now ≡ length question.acts = ap (λ (l : List Act). length l) c.as_slice-act-end.ensures in
    let past : length question.acts ≤ c.loop-act.act = omega (arith, count) in
    grown_less question (suc done) more c.loop-act.self standings (LeadsByActs question by c.loop-act.act) (LeadsTo question by) (all_acts question by c.loop-act.act past)
    (c.loop-act.invariant.1 done more by standings states there within)
