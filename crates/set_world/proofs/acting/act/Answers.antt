use Rattle.std.proofs.Common.{◌≡◌, true, refl, length}
use Rattle.set_model.specs.World.{World}
use Rattle.set_model.specs.World.{is_delivery}
use Rattle.set_world.specs.World.{nodes_in}
use Rattle.set_world.proofs.ActingLemmas.{acts_nothing, nobody_disks, own_acts, own_disks, own_undone, taken_acts, taken_disks, taken_undone}
use Rattle.set_world.proofs.DiskLemmas.{stand_acted, stand_took}
use Rattle.set_world.proofs.acting.act.Goals as goal

pub take_at-requires-clause-known : goal.take_at-requires-clause-known
take_at-requires-clause-known g c κs within = c.requires.may.between c.in-Some-delivered.message.now c.in-Some-delivered.ensures.sent

pub take_at-requires-clause-message : goal.take_at-requires-clause-message
take_at-requires-clause-message g c κs within node there up = c.requires.may.messages c.in-Some-delivered.message.now node c.in-Some-delivered.ensures.sent there up

pub returns-in-Some-clause-ok : goal.returns-in-Some-clause-ok
returns-in-Some-clause-ok g c =
    let world : World = record { nodes = nodes_in c.args.nodes.now; messages = c.args.pool.now.messages } in
    own_acts g.D.Disk.state c.in-Some.number c.len-next.result c.args.pool.now.messages c.args.command.now c.args.nodes.now c.act_on.new.nodes c.act_on.result (c.in-Some.ensures.some world)
    c.len-next.ensures c.act_on.ensures.ok

pub returns-in-Some-clause-disks : goal.returns-in-Some-clause-disks
returns-in-Some-clause-disks g c =
    let world : World = record { nodes = nodes_in c.args.nodes.now; messages = c.args.pool.now.messages } in
    own_disks g.D.Disk.state c.in-Some.number c.len-next.result c.args.pool.now.messages c.args.command.now c.args.nodes.now c.act_on.new.nodes c.act_on.result (c.in-Some.ensures.some world)
    c.len-next.ensures c.act_on.ensures.ok

pub returns-in-Some-clause-err : goal.returns-in-Some-clause-err
returns-in-Some-clause-err g c =
    let world : World = record { nodes = nodes_in c.args.nodes.now; messages = c.args.pool.now.messages } in
    own_undone g.D.Disk.state world c.in-Some.number c.args.command.now c.args.nodes.now c.act_on.new.nodes c.act_on.result (c.in-Some.ensures.some world) c.act_on.ensures.err

pub returns-in-Some-clause-stand : goal.returns-in-Some-clause-stand
returns-in-Some-clause-stand g c =
    stand_acted g.D.Disk.state c.in-Some.number (length c.args.nodes.now) c.len-next.result c.args.command.now c.args.nodes.now c.act_on.new.nodes c.act_on.result c.act_on.ensures.ok c.act_on.ensures.err

pub returns-in-Some-delivered-clause-ok : goal.returns-in-Some-delivered-clause-ok
returns-in-Some-delivered-clause-ok g c =
    let world : World = record { nodes = nodes_in c.args.nodes.now; messages = c.args.pool.now.messages } in
    let none : is_delivery c.args.command.now ≡ true = c.in-None.ensures.none in
    taken_acts g.D.Disk.state c.len-next.result c.args.pool.now.messages c.in-Some-delivered.message.now c.args.command.now c.args.nodes.now c.take_at.new.nodes c.take_at.result
    (c.in-Some-delivered.ensures.some world refl none) c.len-next.ensures c.take_at.ensures.unkept c.take_at.ensures.ok

pub returns-in-Some-delivered-clause-disks : goal.returns-in-Some-delivered-clause-disks
returns-in-Some-delivered-clause-disks g c =
    let world : World = record { nodes = nodes_in c.args.nodes.now; messages = c.args.pool.now.messages } in
    let none : is_delivery c.args.command.now ≡ true = c.in-None.ensures.none in
    taken_disks g.D.Disk.state c.len-next.result c.args.pool.now.messages c.in-Some-delivered.message.now c.args.command.now c.args.nodes.now c.take_at.new.nodes c.take_at.result
    (c.in-Some-delivered.ensures.some world refl none) c.len-next.ensures none c.take_at.ensures.ok

pub returns-in-Some-delivered-clause-err : goal.returns-in-Some-delivered-clause-err
returns-in-Some-delivered-clause-err g c =
    let world : World = record { nodes = nodes_in c.args.nodes.now; messages = c.args.pool.now.messages } in
    let none : is_delivery c.args.command.now ≡ true = c.in-None.ensures.none in
    taken_undone g.D.Disk.state world c.in-Some-delivered.message.now c.args.command.now c.args.nodes.now c.take_at.new.nodes c.take_at.result (c.in-Some-delivered.ensures.some world refl none)
    none c.take_at.ensures.err

pub returns-in-Some-delivered-clause-stand : goal.returns-in-Some-delivered-clause-stand
returns-in-Some-delivered-clause-stand g c =
    stand_took g.D.Disk.state c.in-Some-delivered.message.now.to c.len-next.result c.in-Some-delivered.message.now c.args.nodes.now c.take_at.new.nodes c.take_at.result c.take_at.ensures.ok c.take_at.ensures.err

pub returns-in-None-delivered-clause-ok : goal.returns-in-None-delivered-clause-ok
returns-in-None-delivered-clause-ok g c =
    let world : World = record { nodes = nodes_in c.args.nodes.now; messages = c.args.pool.now.messages } in
    acts_nothing world c.args.command.now c.nothing.result (c.in-None-delivered.ensures.none world refl c.in-None.ensures.none)
    c.nothing.ensures.reply c.nothing.ensures.sent c.nothing.ensures.failed c.nothing.ensures.kept

pub returns-in-None-delivered-clause-disks : goal.returns-in-None-delivered-clause-disks
returns-in-None-delivered-clause-disks g c =
    let world : World = record { nodes = nodes_in c.args.nodes.now; messages = c.args.pool.now.messages } in
    λ line. nobody_disks world c.args.command.now c.nothing.result c.args.nodes.now _ (c.in-None-delivered.ensures.none world refl c.in-None.ensures.none) c.nothing.ensures.failed
