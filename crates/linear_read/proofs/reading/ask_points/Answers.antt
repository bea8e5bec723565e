use Rattle.linear_read.proofs.Exits.{in_term_went, state_breaks, state_refused, unmade, went_leads}
use Rattle.linear_read.specs.Points.{in_term}
use Rattle.linear_read.proofs.reading.ask_points.Goals as goal

pub returns-in-Err-clause-went : goal.returns-in-Err-clause-went
returns-in-Err-clause-went g c =
    state_refused c.args.node c.args.nodes c.args.coll.now c.args.id.now c.in_ok-ask.ensures.went c.in-Err.why c.in-Err.ensures

pub returns-in_err-read-clause-went : goal.returns-in_err-read-clause-went
returns-in_err-read-clause-went g c =
    unmade c.args.node c.args.nodes c.args.coll.now c.args.id.now c.in_ok-ask.ensures.went c.in-Ok.term c.in-Ok.ensures c.from_residual-in_err-read.result c.from_residual-in_err-read.ensures.1

pub returns-clause-went : goal.returns-clause-went
returns-clause-went g c =
    in_term_went c.args.node c.args.nodes c.args.coll.now c.args.id.now c.in_ok-ask.ensures.went c.in-Ok.term c.in-Ok.ensures c.read_in_term.new.set c.in_ok-read.read c.in_ok-read.ensures
    c.read_in_term.result c.read_in_term.ensures

pub returns-clause-stays : goal.returns-clause-stays
returns-clause-stays g c =
    (went_leads g.S.Stepper.is_alone g.S.Stepper.sizes g.S.Stepper.known g.S.Stepper.own g.S.Stepper.stays g.S.Stepper.is_whole c.ask.new.set c.read_in_term.new.set
    (in_term c.args.node c.args.nodes c.in_ok-read.read c.in-Ok.term) c.read_in_term.result c.read_in_term.ensures).stays_so c.args.set.now c.in_ok-ask.ensures.stays

pub returns-clause-defined : goal.returns-clause-defined
returns-clause-defined g c =
    (went_leads g.S.Stepper.is_alone g.S.Stepper.sizes g.S.Stepper.known g.S.Stepper.own g.S.Stepper.stays g.S.Stepper.is_whole c.ask.new.set c.read_in_term.new.set
    (in_term c.args.node c.args.nodes c.in_ok-read.read c.in-Ok.term) c.read_in_term.result c.read_in_term.ensures).defined c.in_ok-ask.ensures.defined

pub returns-in_err-ask-clause-went : goal.returns-in_err-ask-clause-went
returns-in_err-ask-clause-went g c =
    state_breaks c.args.node c.args.nodes c.args.coll.now c.args.id.now c.in_err-ask.ensures.went c.from_residual.result c.from_residual.ensures
