use Rattle.std.proofs.Common.{◌≤◌, ◌<◌, arith, refl}
use Rattle.sync_pin.specs.Asking.{MOST}
use Rattle.sync_pin.proofs.asking.ask.Goals as goal

pub returns-then-node-size-clause-asks : goal.returns-then-node-size-clause-asks
returns-then-node-size-clause-asks g c =
    let past : (g.S.Stepper.sizes c.args.set.now).nodes ≤ c.args.node = omega (arith, c.requires.size) in
    (past, refl)

pub returns-then-size-ge-MOST_NODES-clause-asks : goal.returns-then-size-ge-MOST_NODES-clause-asks
returns-then-size-ge-MOST_NODES-clause-asks g c =
    let known : c.args.node < (g.S.Stepper.sizes c.args.set.now).nodes = omega (arith, c.requires.size) in
    let most : MOST ≤ (g.S.Stepper.sizes c.args.set.now).nodes = omega (arith, c.requires.size) in
    (known, most, refl)

pub ask_all-requires-clause-room : goal.ask_all-requires-clause-room
ask_all-requires-clause-room g c κs within =
    let known : c.args.node < (g.S.Stepper.sizes c.args.set.now).nodes = omega (arith, c.requires.size) in
    let room : (g.S.Stepper.sizes c.args.set.now).nodes < MOST = omega (arith, c.requires.size) in
    (known, room)
