use Rattle.std.proofs.Common.{◌∙◌, refl}
use Rattle.explore_steps.specs.Tables.{tables_of}
use Rattle.explorer.specs.declared.search.Origin.{Origin}
use Rattle.explorer.specs.declared.search.Search.{Search}
use Rattle.explorer.specs.Standings.{LeadsBy}
use Rattle.explorer.specs.States.{HasGrown, Lands}
use Rattle.explorer.proofs.StateLemmas.{grown_on}
use Rattle.explorer.proofs.TryLemmas.{HasStood, HasTried, TellsDoing, TellsOut, goes_on_less, has_grown, has_met, idle, if_ok_still, is_out, lands, may_go, on_ok_still}
use Rattle.explorer.proofs.search.Search.attempt.Goals.{After-is_met}
use Rattle.explorer.proofs.search.Search.attempt.Goals as goal

-- the search once the course has gone
abbrev gone : After-is_met → Search
gone c = record c.args.self.now { course = c.go.new.self; steps = c.go.new.steps }

tried : (c : After-is_met) → HasTried c.args.question.now c.args.self.now c.args.here.now c.args.doing (gone c)
tried c = record {
  stood = c.stand.new.self;
  has_stood = record {
    cells = c.in_ok-stand.ensures.cells ∙ c.deref.ensures.value;
    met = c.in_ok-stand.ensures.met;
    dead = c.in_ok-stand.ensures.dead;
    notes = c.in_ok-stand.ensures.notes;
    sent = c.in_ok-stand.ensures.sent;
  };
  same = record { used = refl; states = refl; origins = refl; most = refl; notes = refl };
  grown = c.in_ok-go.ensures.grown;
  notes = c.in_ok-go.ensures.notes;
  goes = c.in_ok-go.ensures.goes;
}

has_more : (c : After-is_met) → HasGrown c.args.self.now (gone c)
has_more c = has_grown c.args.question.now c.args.self.now c.args.here.now c.args.doing (gone c) (tried c)

pub go-requires-clause-may : goal.go-requires-clause-may
go-requires-clause-may c =
    let from = c.requires.from in
    let has_stood : HasStood c.args.self.now c.args.here.now c.stand.new.self = record {
      cells = c.in_ok-stand.ensures.cells ∙ c.deref.ensures.value;
      met = c.in_ok-stand.ensures.met;
      dead = c.in_ok-stand.ensures.dead;
      notes = c.in_ok-stand.ensures.notes;
      sent = c.in_ok-stand.ensures.sent;
    } in
    may_go c.args.question.now from.0 from.1 c.args.self.now c.args.here.now from.2 from.3 from.4 c.stand.new.self has_stood c.args.doing from.5

pub returns-then-is_met-clause-grown : goal.returns-then-is_met-clause-grown
returns-then-is_met-clause-grown c = has_more (goal.at.returns-then-is_met-clause-grown c).After-is_met

pub returns-then-is_met-clause-on : goal.returns-then-is_met-clause-on
returns-then-is_met-clause-on c done more by standings from may =
    let at = (goal.at.returns-then-is_met-clause-on c).After-is_met in
    has_met c.args.question.now done more c.args.self.now c.args.here.now by standings from c.args.doing (gone at) (tried at) may (c.is_met.ensures.0 c.if-is_met.true)

pub returns-then-is_at-clause-grown : goal.returns-then-is_at-clause-grown
returns-then-is_at-clause-grown c = has_more (goal.at.returns-then-is_at-clause-grown c).After-is_met

pub returns-then-is_at-clause-on : goal.returns-then-is_at-clause-on
returns-then-is_at-clause-on c done more by standings from may =
    let at = (goal.at.returns-then-is_at-clause-on c).After-is_met in
    idle c.args.question.now done more c.args.self.now c.args.here.now by standings from c.args.doing (gone at) (tried at)
    (c.is_at.ensures.cells c.if-is_at.true) (c.is_at.ensures.met c.if-is_at.true) (c.is_at.ensures.dead c.if-is_at.true)

pub keep-requires-clause-out : goal.keep-requires-clause-out
keep-requires-clause-out c =
    let from = c.requires.from in
    let at = (goal.at.keep-requires-clause-out c).After-is_met in (
      from.0,
      from.1,
      from.2,
      from.3,
      is_out c.args.question.now from.0 from.1 c.args.self.now c.args.here.now from.2 from.3 from.4 c.args.doing (gone at) (tried at) from.5
          (λ met. cc (c.is_met.ensures.1 met, c.if-is_met.false)),
    )

pub returns-clause-grown : goal.returns-clause-grown
returns-clause-grown c =
    let at = (goal.at.returns-clause-grown c).After-is_met in
    on_ok_still (HasGrown (gone at) c.keep.new.self) (HasGrown c.args.self.now c.keep.new.self) c.keep.result (grown_on c.args.self.now (gone at) c.keep.new.self (has_more at)) c.keep.ensures.grown

pub returns-clause-on : goal.returns-clause-on
returns-clause-on c =
    let question = c.args.question.now in
    let old = c.args.self.now in
    let here = c.args.here.now in
    let at = (goal.at.returns-clause-on c).After-is_met in
    let next = gone at in
    let origin : Origin = record { from = here.number; doing = c.args.doing } in
    if_ok_still (TellsOut question next c.keep.new.self here.used origin) (TellsDoing question old c.keep.new.self here c.args.doing) c.keep.result
    (λ stop told done more by standings from may.
    goes_on_less question done more c.keep.new.self standings (Lands (tables_of next.steps) question next.course by c.args.doing.act) (LeadsBy (tables_of old.steps) question by c.args.doing) stop
    (lands question done more old here by standings from c.args.doing next (tried at))
    (told done more by standings
    (is_out question done more old here by standings from c.args.doing next (tried at) may
    (λ met. cc (c.is_met.ensures.1 met, c.if-is_met.false)))))
    c.keep.ensures.on
