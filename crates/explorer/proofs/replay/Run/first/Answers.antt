use Rattle.std.proofs.Common.{None, refl, subst, sym}
use Rattle.explore_steps.specs.declared.doing.First.{First}
use Rattle.explore_steps.specs.Courses.{BeginsWith}
use Rattle.explore_steps.specs.Tables.{tables_of}
use Rattle.explorer.proofs.Replays.{first_dead, first_live, live_within}
use Rattle.explorer.proofs.replay.Run.first.Goals as goal

pub message-requires : goal.message-requires
message-requires c =
    live_within (tables_of c.args.steps.now) c.in-Live.number c.args.self.now.machine c.requires.0
    (subst (λ (f : First). BeginsWith (tables_of c.args.steps.now) f c.args.self.now.machine c.requires.0) c.in-Live.is c.requires.1)

pub returns-in-Nothing : goal.returns-in-Nothing
returns-in-Nothing c =
    subst (λ (f : First). BeginsWith (tables_of c.args.steps.now) f c.args.self.now.machine None) (sym c.in-Nothing.is) refl

pub returns-in-Live : goal.returns-in-Live
returns-in-Live c =
    let tables = tables_of c.args.steps.now in
    let world = c.args.self.now.machine in
    subst (λ (f : First). BeginsWith tables f world c.earliest.result) (sym c.in-Live.is)
    (first_live tables c.in-Live.number world c.message.result.now c.requires.0 c.earliest.result
    (subst (λ (f : First). BeginsWith tables f world c.requires.0) c.in-Live.is c.requires.1) c.message.ensures c.earliest.ensures.some c.earliest.ensures.none)

pub returns-in-Dead : goal.returns-in-Dead
returns-in-Dead c =
    let tables = tables_of c.args.steps.now in
    let world = c.args.self.now.machine in
    subst (λ (f : First). BeginsWith tables f world c.earliest_dead.result) (sym c.in-Dead.is)
    (first_dead tables world c.requires.0 c.earliest_dead.result
    (subst (λ (f : First). BeginsWith tables f world c.requires.0) c.in-Dead.is c.requires.1) c.earliest_dead.ensures.some c.earliest_dead.ensures.none)
