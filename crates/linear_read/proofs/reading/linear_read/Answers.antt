use Rattle.std.proofs.Common.{subst}
use Rattle.set_model.specs.Run.{Sizes}
use Rattle.safety_laws.specs.Leaders.{PrimariesStay}
use Rattle.linear_read.specs.Points.{linear}
use Rattle.linear_read.proofs.Exits.{went_broken, went_full, went_held, went_leads, went_whole}
use Rattle.linear_read.proofs.Shows.{went_shown}
use Rattle.linear_read.proofs.reading.linear_read.Goals as goal

pub returns-clause-ok : goal.returns-clause-ok
returns-clause-ok g c =
    went_held g.S.Stepper.is_alone g.S.Stepper.sizes g.S.Stepper.known g.S.Stepper.own g.S.Stepper.stays g.S.Stepper.is_whole c.args.set.now c.ask_points.new.set
    (linear c.args.node c.args.nodes c.args.coll.now c.args.id.now) c.ask_points.result c.ask_points.ensures.went

pub returns-clause-shown : goal.returns-clause-shown
returns-clause-shown g c =
    let leads = went_leads g.S.Stepper.is_alone g.S.Stepper.sizes g.S.Stepper.known g.S.Stepper.own g.S.Stepper.stays g.S.Stepper.is_whole c.args.set.now c.ask_points.new.set
    (linear c.args.node c.args.nodes c.args.coll.now c.args.id.now) c.ask_points.result c.ask_points.ensures.went in
    let law : PrimariesStay (g.S.Stepper.sizes c.args.set.now) (g.S.Stepper.known c.ask_points.new.set) =
    subst (λ (s : Sizes). PrimariesStay s (g.S.Stepper.known c.ask_points.new.set)) leads.sizes_are
    (c.primaries_stay.ensures _ _ c.ask_points.ensures.defined.sizes_are c.ask_points.ensures.defined.run) in
    went_shown g.S.Stepper.is_alone g.S.Stepper.sizes g.S.Stepper.known g.S.Stepper.own g.S.Stepper.stays g.S.Stepper.is_whole c.args.set.now c.ask_points.new.set
    c.args.node c.args.nodes c.args.coll.now c.args.id.now law c.ask_points.result c.ask_points.ensures.went

pub returns-clause-err : goal.returns-clause-err
returns-clause-err g c =
    went_broken g.S.Stepper.is_alone g.S.Stepper.sizes g.S.Stepper.known g.S.Stepper.own g.S.Stepper.stays g.S.Stepper.is_whole c.args.set.now c.ask_points.new.set
    (linear c.args.node c.args.nodes c.args.coll.now c.args.id.now) c.ask_points.result c.ask_points.ensures.went

pub returns-clause-full : goal.returns-clause-full
returns-clause-full g c =
    went_full g.S.Stepper.is_alone g.S.Stepper.sizes g.S.Stepper.known g.S.Stepper.own g.S.Stepper.stays g.S.Stepper.is_whole c.args.set.now c.ask_points.new.set
    (linear c.args.node c.args.nodes c.args.coll.now c.args.id.now) c.ask_points.result c.ask_points.ensures.went

pub returns-clause-sizes : goal.returns-clause-sizes
returns-clause-sizes g c =
    (went_leads g.S.Stepper.is_alone g.S.Stepper.sizes g.S.Stepper.known g.S.Stepper.own g.S.Stepper.stays g.S.Stepper.is_whole c.args.set.now c.ask_points.new.set
    (linear c.args.node c.args.nodes c.args.coll.now c.args.id.now) c.ask_points.result c.ask_points.ensures.went).sizes_are

pub returns-clause-whole : goal.returns-clause-whole
returns-clause-whole g c =
    went_whole g.S.Stepper.is_alone g.S.Stepper.sizes g.S.Stepper.known g.S.Stepper.own g.S.Stepper.stays g.S.Stepper.is_whole c.args.set.now c.ask_points.new.set
    (linear c.args.node c.args.nodes c.args.coll.now c.args.id.now) c.ask_points.result c.ask_points.ensures.went
