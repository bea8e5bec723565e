use Rattle.std.proofs.Common.{◌≡◌, ◌<◌, ◌≤◌, ℕ, suc, List, Some, ap, arith, get_or, length, slice_get, take, true}
use Rattle.std.specs.Prelude.{IfSome}
use Rattle.explore_words.specs.declared.question.Act.{Act}
use Rattle.question_laws.specs.Following.{Standing}
use Rattle.explore_steps.specs.declared.doing.Doing.{Doing as Tried}
use Rattle.explore_steps.specs.declared.doing.First.{First}
use Rattle.explore_steps.specs.declared.doing.First.TheVariants.{Nothing}
use Rattle.explore_steps.specs.Tables.{tables_of}
use Rattle.explorer.specs.Standings.{LeadsBy}
use Rattle.explorer.specs.States.{GoesFrom, LeadsByAct, LeadsByOne}
use Rattle.explorer.proofs.ActLemmas.{all_firsts, alone, first_at, limit_of, listed_at, may_alone, may_first, no_first, one_first, still_from, stopped, whole}
use Rattle.explorer.proofs.KeepLemmas.{read_at}
use Rattle.explorer.proofs.StateLemmas.{grown_itself, grown_less, grown_on}
use Rattle.explorer.proofs.TryLemmas.{TellsAct, TellsDoing, goes_on_less, if_ok_still}
use Rattle.explorer.proofs.search.Search.try_act.Goals.{After-may_do}
use Rattle.explorer.proofs.search.Search.try_act.Goals as goal

-- the act that is tried
there_at : (c : After-may_do) → slice_get c.args.question.now.acts c.args.place ≡ Some c.index-as_slice-place.result
there_at c = read_at c.args.question.now.acts c.as_slice.result.now c.args.place c.index-as_slice-place.result c.as_slice.ensures c.requires.place c.index-as_slice-place.is

-- its limit isn't reached
limit_at : (c : After-may_do) → c.may_do.result ≡ true → (done more : ℕ) (by : Standing) (standings : List Standing) → GoesFrom c.args.question.now done more c.args.self.now c.args.here.now by standings
    → IfSome c.index-as_slice-place.result.limit (λ limit. by.used c.args.place < limit)
limit_at c may done more by standings from =
    limit_of c.args.question.now done more c.args.self.now c.args.here.now by standings from c.args.place c.index-as_slice-place.result (there_at c)
    ((c.may_do.ensures from.is.acts from.is.acts_are).0 may)

pub returns-then-not-may_do-clause-grown : goal.returns-then-not-may_do-clause-grown
returns-then-not-may_do-clause-grown c = grown_itself c.args.self.now

pub returns-then-not-may_do-clause-on : goal.returns-then-not-may_do-clause-on
returns-then-not-may_do-clause-on c done more by standings from =
    stopped c.args.question.now done more c.args.self.now c.args.here.now by standings from c.args.place c.index-as_slice-place.result
    (there_at (goal.at.returns-then-not-may_do-clause-on c).After-may_do)
    (λ still. cc ((c.may_do.ensures from.is.acts from.is.acts_are).1 still, c.if-not-may_do.true))

pub attempt-requires-clause-from : goal.attempt-requires-clause-from
attempt-requires-clause-from c =
    let from = c.requires.from in
    let tried = (goal.at.attempt-requires-clause-from c).After-may_do in (
      from.0,
      from.1,
      from.2,
      from.3,
      from.4,
      may_alone c.args.question.now from.0 from.1 c.args.self.now c.args.here.now from.2 from.3 from.4 c.args.place c.index-as_slice-place.result (there_at tried)
          c.if-not-act.true (limit_at tried c.if-not-may_do.false from.0 from.1 from.2 from.3 from.4),
    )

pub returns-then-not-act-clause-on : goal.returns-then-not-act-clause-on
returns-then-not-act-clause-on c =
    let question = c.args.question.now in
    let old = c.args.self.now in
    let here = c.args.here.now in
    let new = c.attempt.new.self in
    let act : Act = c.index-as_slice-place.result in
    let doing : Tried = record { act = c.args.place; first = Nothing } in
    let tried = (goal.at.returns-then-not-act-clause-on c).After-may_do in
    if_ok_still (TellsDoing question old new here doing) (TellsAct question old new here c.args.place) c.attempt.result
    (λ stop told done more by standings from.
    goes_on_less question done more new standings (LeadsBy (tables_of old.steps) question by doing) (LeadsByAct question by c.args.place) stop
    (alone question done more old here by standings from c.args.place act (there_at tried) c.if-not-act.true)
    (told done more by standings from
    (may_alone question done more old here by standings from c.args.place act (there_at tried) c.if-not-act.true (limit_at tried c.if-not-may_do.false done more by standings from))))
    c.attempt.ensures.on

pub loop-first-init : goal.loop-first-init
loop-first-init c = (
  grown_itself c.args.self.now,
  λ done more by standings from. no_first c.args.question.now (suc done) more c.args.self.now standings (tables_of c.args.self.now.steps) by c.args.place c.args.here.now.firsts.items from.states,
)

pub attempt-requires-in-loop-first-clause-from : goal.attempt-requires-in-loop-first-clause-from
attempt-requires-in-loop-first-clause-from c =
    let question = c.args.question.now in
    let old = c.args.self.now in
    let mid = c.loop-first.self in
    let here = c.args.here.now in
    let from = c.requires.from in
    let index = c.loop-first.first-index in
    let tried = (goal.at.attempt-requires-in-loop-first-clause-from c).After-may_do in
    let within : index < length c.deref-first-items.result.now = c.loop-first-test.true in
    let grown = c.loop-first.invariant.1 from.0 from.1 from.2 from.3 from.4 in
    let later = still_from question from.0 from.1 old mid here from.2 from.3 (LeadsByOne (tables_of old.steps) question from.2 c.args.place (take index here.firsts.items)) from.4 c.loop-first.invariant.0 grown in (
      from.0,
      from.1,
      from.2,
      grown.standings,
      later,
      may_first question from.0 from.1 mid here from.2 grown.standings later c.args.place c.index-as_slice-place.result (there_at tried) c.if-not-act.false
          (limit_at tried c.if-not-may_do.false from.0 from.1 from.2 from.3 from.4) _
          (listed_at c.deref-first-items.result.now here.firsts.items index Nothing c.deref-first-items.ensures.value within),
    )

pub returns-in-Some-clause-grown : goal.returns-in-Some-clause-grown
returns-in-Some-clause-grown c = grown_on c.args.self.now c.loop-first.self c.attempt-in-loop-first.new.self c.loop-first.invariant.0 c.in_ok-stop.ensures.grown

pub returns-in-Some-clause-on : goal.returns-in-Some-clause-on
returns-in-Some-clause-on c done more by standings from =
    let question = c.args.question.now in
    let old = c.args.self.now in
    let mid = c.loop-first.self in
    let here = c.args.here.now in
    let index = c.loop-first.first-index in
    let tried = (goal.at.returns-in-Some-clause-on c).After-may_do in
    let within : index < length c.deref-first-items.result.now = c.loop-first-test.true in
    let grown = c.loop-first.invariant.1 done more by standings from in
    let later = still_from question done more old mid here by standings (LeadsByOne (tables_of old.steps) question by c.args.place (take index here.firsts.items)) from c.loop-first.invariant.0 grown in
    rw c.in-Some.is at
    (c.in_ok-stop.ensures.on done more by grown.standings later
    (may_first question done more mid here by grown.standings later c.args.place c.index-as_slice-place.result (there_at tried) c.if-not-act.false
    (limit_at tried c.if-not-may_do.false done more by standings from) _
    (listed_at c.deref-first-items.result.now here.firsts.items index Nothing c.deref-first-items.ensures.value within)))

pub loop-first-preserved : goal.loop-first-preserved
loop-first-preserved c = (
  grown_on c.args.self.now c.loop-first.self c.attempt-in-loop-first.new.self c.loop-first.invariant.0 c.in_ok-stop.ensures.grown,
  λ done more by standings from.
      (let question = c.args.question.now in
      let old = c.args.self.now in
      let mid = c.loop-first.self in
      let here = c.args.here.now in
      let index = c.loop-first.first-index in
      let tried = (goal.at.loop-first-preserved c).After-may_do in
      let within : index < length c.deref-first-items.result.now = c.loop-first-test.true in
      let grown = c.loop-first.invariant.1 done more by standings from in
      let later = still_from question done more old mid here by standings (LeadsByOne (tables_of old.steps) question by c.args.place (take index here.firsts.items)) from c.loop-first.invariant.0 grown in
      one_first question (suc done) more mid c.attempt-in-loop-first.new.self standings (tables_of old.steps) (tables_of mid.steps) by c.args.place index here.firsts.items
      (get_or c.deref-first-items.result.now index Nothing) (first_at c.deref-first-items.result.now here.firsts.items index Nothing c.deref-first-items.ensures.value within)
      c.loop-first.invariant.0.tables grown
      (rw c.in_default.is at
      (c.in_ok-stop.ensures.on done more by grown.standings later
      (may_first question done more mid here by grown.standings later c.args.place c.index-as_slice-place.result (there_at tried) c.if-not-act.false
      (limit_at tried c.if-not-may_do.false done more by standings from) _
      (listed_at c.deref-first-items.result.now here.firsts.items index Nothing c.deref-first-items.ensures.value within))))),
)

pub returns-clause-grown : goal.returns-clause-grown
returns-clause-grown c = c.loop-first.invariant.0

pub returns-clause-on : goal.returns-clause-on
returns-clause-on c done more by standings from =
    let question = c.args.question.now in
    let old = c.args.self.now in
    let here = c.args.here.now in
    let firsts = here.firsts.items in
    let index = c.loop-first.first-index in
    let tables = tables_of old.steps in
    let count : length c.deref-first-items.result.now ≡ length firsts = ap (λ (l : List First). length l) c.deref-first-items.ensures.value in
    let past : length firsts ≤ index = omega (arith, count) in
    whole question done more old here by standings from c.args.place c.index-as_slice-place.result (there_at (goal.at.returns-clause-on c).After-may_do)
    c.dead_messages_change_nothing.ensures.stays c.if-not-act.false c.loop-first.self
    (grown_less question (suc done) more c.loop-first.self standings (LeadsByOne tables question by c.args.place (take index firsts)) (LeadsByOne tables question by c.args.place firsts)
    (all_firsts question tables by c.args.place index firsts past) (c.loop-first.invariant.1 done more by standings from))
