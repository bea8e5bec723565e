use Rattle.std.proofs.Common.{◌≡◌, ◌∙◌, ◌<◌, ◌≤◌, ◌++◌, ◌∷◌, [], false, true, List, ap, refl, sym, subst, rules, arith, length, take, drop}
use Rattle.set_model.specs.Limits.{is_for}
use Rattle.set_model.specs.Run.{Sizes, run}
use Rattle.set_model.specs.World.{task, touched_node}
use Rattle.node_core.specs.Acting.{DisksLeft}
use Rattle.set_world.specs.Acting.{EachNodeStands}
use Rattle.set_world.specs.Disks.{IsStep, NothingDone}
use Rattle.set_world.specs.Points.{RaisesOnly}
use Rattle.set_world.specs.World.{Set, disks_in, event_of, nodes_in}
use Rattle.set_world.proofs.DiskLemmas.{stepped, undone, untouched}
use Rattle.set_world.proofs.NodesLemmas.{nodes_long, whole}
use Rattle.set_world.proofs.PointedLemmas.{kept_on, raised_on, raises_only}
use Rattle.set_world.proofs.WentLemmas.{went_step, went_undone}
use Rattle.set_world.proofs.WorldLemmas.{GoesOn, acts_now, as_many, goes_on, named_there, stands_still}
use Rattle.set_world.proofs.world.World.take.Goals as goal

pub act-requires-clause-may : goal.act-requires-clause-may
act-requires-clause-may g c κs within =
    acts_now (record { nodes = c.self.inside.size; voters = c.self.inside.voters; members = c.self.inside.members }) c.self.inside.history.items c.self.inside.nodes.items c.deref_mut.result.now c.self.inside.pool c.make_room.new.pool
    c.self.invariant.0 c.deref_mut.ensures.value c.make_room.ensures.nodes c.make_room.ensures.messages c.numbers_stay_small.ensures c.messages_can_be_taken.ensures

pub act-requires-clause-points : goal.act-requires-clause-points
act-requires-clause-points g c κs within =
    c.self.invariant.3.size
    ∙ sym (as_many (record { nodes = c.self.inside.size; voters = c.self.inside.voters; members = c.self.inside.members }) c.self.inside.history.items (nodes_in c.self.inside.nodes.items) c.self.inside.pool.messages c.self.invariant.0.reached c.numbers_stay_small.ensures)
    ∙ nodes_long c.self.inside.nodes.items ∙ ap length (sym c.deref_mut.ensures.value)

pub put-requires-clause-spare : goal.put-requires-clause-spare
put-requires-clause-spare g c =
    let named : is_for c.self.inside.size c.args.command ≡ true = search rules in
    let short : length c.self.inside.history.items < 4294967295 = search rules in
    let on : GoesOn (record { nodes = c.self.inside.size; voters = c.self.inside.voters; members = c.self.inside.members }) c.self.inside.history.items c.make_room.new.pool (nodes_in c.act.new.nodes) c.args.line c.args.command c.in-Ok-act.done =
    goes_on (record { nodes = c.self.inside.size; voters = c.self.inside.voters; members = c.self.inside.members }) c.self.inside.history.items c.self.inside.nodes.items c.deref_mut.result.now c.self.inside.pool c.make_room.new.pool
    c.self.invariant.0 c.deref_mut.ensures.value c.make_room.ensures.nodes c.make_room.ensures.messages c.numbers_stay_small.ensures
    (nodes_in c.act.new.nodes) c.args.line c.args.command c.in-Ok-act.done c.in-Ok-act.ensures.ok short named c.recall_sound_write.ensures in
    let few : length c.in-Ok-act.done.sent.items ≤ 7 = on.room in
    let room : 7 ≤ c.make_room.new.pool.spare = c.in-Ok.ensures.spare in
    omega (arith, few, room)

pub put-requires-clause-between : goal.put-requires-clause-between
put-requires-clause-between g c =
    let named : is_for c.self.inside.size c.args.command ≡ true = search rules in
    let short : length c.self.inside.history.items < 4294967295 = search rules in
    let on : GoesOn (record { nodes = c.self.inside.size; voters = c.self.inside.voters; members = c.self.inside.members }) c.self.inside.history.items c.make_room.new.pool (nodes_in c.act.new.nodes) c.args.line c.args.command c.in-Ok-act.done =
    goes_on (record { nodes = c.self.inside.size; voters = c.self.inside.voters; members = c.self.inside.members }) c.self.inside.history.items c.self.inside.nodes.items c.deref_mut.result.now c.self.inside.pool c.make_room.new.pool
    c.self.invariant.0 c.deref_mut.ensures.value c.make_room.ensures.nodes c.make_room.ensures.messages c.numbers_stay_small.ensures
    (nodes_in c.act.new.nodes) c.args.line c.args.command c.in-Ok-act.done c.in-Ok-act.ensures.ok short named c.recall_sound_write.ensures in
    on.between

pub invariant_of-self-2 : goal.invariant_of-self-2
invariant_of-self-2 g c =
    let long : length c.self.inside.nodes.items ≡ c.self.inside.nodes.len = search rules in
    let same : take c.self.inside.nodes.len (c.act.new.nodes ++ drop (length c.act.new.nodes) c.self.inside.nodes.items) ≡ c.act.new.nodes =
    whole c.act.new.nodes c.self.inside.nodes.items c.self.inside.nodes.len (c.act.ensures.len ∙ ap length c.deref_mut.ensures.value) long in
    let named : is_for c.self.inside.size c.args.command ≡ true = search rules in
    let short : length c.self.inside.history.items < 4294967295 = search rules in
    let on : GoesOn (record { nodes = c.self.inside.size; voters = c.self.inside.voters; members = c.self.inside.members }) c.self.inside.history.items c.make_room.new.pool (nodes_in c.act.new.nodes) c.args.line c.args.command c.in-Ok-act.done =
    goes_on (record { nodes = c.self.inside.size; voters = c.self.inside.voters; members = c.self.inside.members }) c.self.inside.history.items c.self.inside.nodes.items c.deref_mut.result.now c.self.inside.pool c.make_room.new.pool
    c.self.invariant.0 c.deref_mut.ensures.value c.make_room.ensures.nodes c.make_room.ensures.messages c.numbers_stay_small.ensures
    (nodes_in c.act.new.nodes) c.args.line c.args.command c.in-Ok-act.done c.in-Ok-act.ensures.ok short named c.recall_sound_write.ensures in
    let items : c.put.new.history.items ≡ c.self.inside.history.items ++ event_of c.args.line c.args.command c.in-Ok-act.done ∷ [] = search rules in
    let stands = on.stands c.put.new.pool c.put.new.history.items items c.put.ensures.nodes c.put.ensures.messages in
    rw same (
      stands,
      c.self.invariant.1,
      c.act.ensures.stand (subst (λ l. EachNodeStands g.D.Disk.state l) (sym c.deref_mut.ensures.value) c.self.invariant.2),
      raised_on (record { nodes = c.self.inside.size; voters = c.self.inside.voters; members = c.self.inside.members }) c.self.inside.history.items c.put.new.history.items c.self.inside.nodes.items c.deref_mut.result.now c.act.new.nodes
          c.self.inside.pool.messages c.make_room.new.pool.messages c.args.line c.args.command c.in-Ok-act.done c.self.inside.points c.act.new.points
          c.self.invariant.3 c.self.invariant.0.reached.world c.deref_mut.ensures.value c.make_room.ensures.messages items (ap (λ w. w.nodes) stands.reached.world) c.in-Ok-act.ensures.raised,
      went_step g.D.Disk.state (record { sizes = record { nodes = c.self.inside.size; voters = c.self.inside.voters; members = c.self.inside.members }; history = c.self.inside.history.items; disks = disks_in c.self.inside.nodes.items ++ c.self.inside.idle.items; opened = disks_in c.self.inside.first_nodes.value.items ++ c.self.inside.first_idle.value.items; whole = c.self.inside.whole })
          (record { sizes = record { nodes = c.self.inside.size; voters = c.self.inside.voters; members = c.self.inside.members }; history = c.put.new.history.items; disks = disks_in c.act.new.nodes ++ c.self.inside.idle.items; opened = disks_in c.self.inside.first_nodes.value.items ++ c.self.inside.first_idle.value.items; whole = c.self.inside.whole })
          c.args.line c.args.command c.in-Ok-act.done.reply
          (stepped g.D.Disk.state (record { nodes = c.self.inside.size; voters = c.self.inside.voters; members = c.self.inside.members }) c.self.inside.history.items c.self.inside.nodes.items c.deref_mut.result.now
          c.act.new.nodes c.self.inside.idle.items (disks_in c.self.inside.first_nodes.value.items ++ c.self.inside.first_idle.value.items) c.self.inside.whole c.self.inside.pool.messages c.make_room.new.pool.messages c.args.command c.self.invariant.0.reached.world c.deref_mut.ensures.value
          c.make_room.ensures.messages c.put.new.history.items c.args.line c.in-Ok-act.done items on.reply c.in-Ok-act.ensures.disks)
          refl refl refl c.self.invariant.4,
    )

pub invariant_of-self-in-Err-act : goal.invariant_of-self-in-Err-act
invariant_of-self-in-Err-act g c =
    let named : is_for c.self.inside.size c.args.command ≡ true = search rules in
    let long : length c.self.inside.nodes.items ≡ c.self.inside.nodes.len = search rules in
    let same : take c.self.inside.nodes.len (c.act.new.nodes ++ drop (length c.act.new.nodes) c.self.inside.nodes.items) ≡ c.act.new.nodes =
    whole c.act.new.nodes c.self.inside.nodes.items c.self.inside.nodes.len (c.act.ensures.len ∙ ap length c.deref_mut.ensures.value) long in
    rw same (
      stands_still g.D.Disk.state (DisksLeft c.args.command) (record { nodes = c.self.inside.size; voters = c.self.inside.voters; members = c.self.inside.members }) c.self.inside.history.items c.make_room.new.history.items c.self.inside.nodes.items
          c.deref_mut.result.now c.act.new.nodes c.self.inside.pool c.make_room.new.pool (task (record { nodes = nodes_in c.deref_mut.result.now; messages = c.make_room.new.pool.messages }) c.args.command)
          c.self.invariant.0 c.deref_mut.ensures.value c.make_room.ensures.nodes c.make_room.ensures.messages c.make_room.ensures.items c.in-Err-act.ensures.err,
      c.self.invariant.1,
      c.act.ensures.stand (subst (λ l. EachNodeStands g.D.Disk.state l) (sym c.deref_mut.ensures.value) c.self.invariant.2),
      kept_on (record { nodes = c.self.inside.size; voters = c.self.inside.voters; members = c.self.inside.members }) c.self.inside.history.items c.make_room.new.history.items c.self.inside.points c.act.new.points
          c.self.invariant.3 c.make_room.ensures.items c.in-Err-act.ensures.kept,
      went_undone g.D.Disk.state (record { sizes = record { nodes = c.self.inside.size; voters = c.self.inside.voters; members = c.self.inside.members }; history = c.self.inside.history.items; disks = disks_in c.self.inside.nodes.items ++ c.self.inside.idle.items; opened = disks_in c.self.inside.first_nodes.value.items ++ c.self.inside.first_idle.value.items; whole = c.self.inside.whole })
          (record { sizes = record { nodes = c.self.inside.size; voters = c.self.inside.voters; members = c.self.inside.members }; history = c.make_room.new.history.items; disks = disks_in c.act.new.nodes ++ c.self.inside.idle.items; opened = disks_in c.self.inside.first_nodes.value.items ++ c.self.inside.first_idle.value.items; whole = false })
          c.args.command
          (undone g.D.Disk.state (record { nodes = c.self.inside.size; voters = c.self.inside.voters; members = c.self.inside.members }) c.self.inside.history.items c.self.inside.nodes.items c.deref_mut.result.now
          c.act.new.nodes c.self.inside.idle.items (disks_in c.self.inside.first_nodes.value.items ++ c.self.inside.first_idle.value.items) c.self.inside.whole c.self.inside.pool.messages c.make_room.new.pool.messages c.args.command c.self.invariant.0.reached.world c.deref_mut.ensures.value
          c.make_room.ensures.messages c.make_room.new.history.items c.make_room.ensures.items c.in-Err-act.ensures.err)
          (named_there (record { nodes = c.self.inside.size; voters = c.self.inside.voters; members = c.self.inside.members }) c.self.inside.history.items c.self.inside.nodes.items c.self.inside.pool c.self.invariant.0 c.numbers_stay_small.ensures c.args.command named)
          refl refl refl c.self.invariant.4,
    )

pub returns-in-Err-clause-err : goal.returns-in-Err-clause-err
returns-in-Err-clause-err g c =
    let sizes : Sizes = record { nodes = c.self.inside.size; voters = c.self.inside.voters; members = c.self.inside.members } in
    let disks : List g.row.D.Denot = disks_in c.self.inside.nodes.items ++ c.self.inside.idle.items in
    let opened : List g.row.D.Denot = disks_in c.self.inside.first_nodes.value.items ++ c.self.inside.first_idle.value.items in
    let now : Set g.row.D.Denot = record { sizes = sizes; history = c.make_room.new.history.items; disks = disks; opened = opened; whole = c.self.inside.whole } in
    subst (λ (s : Set g.row.D.Denot). NothingDone g.D.Disk.state s now c.args.command) c.self.view_is
    (untouched g.D.Disk.state (record { sizes = sizes; history = c.self.inside.history.items; disks = disks; opened = opened; whole = c.self.inside.whole }) now c.args.command c.make_room.ensures.items refl)

pub returns-in-Err-act-clause-err : goal.returns-in-Err-act-clause-err
returns-in-Err-act-clause-err g c =
    let long : length c.self.inside.nodes.items ≡ c.self.inside.nodes.len = search rules in
    let same : take c.self.inside.nodes.len (c.act.new.nodes ++ drop (length c.act.new.nodes) c.self.inside.nodes.items) ≡ c.act.new.nodes =
    whole c.act.new.nodes c.self.inside.nodes.items c.self.inside.nodes.len (c.act.ensures.len ∙ ap length c.deref_mut.ensures.value) long in
    let now : Set g.row.D.Denot = record {
      sizes = record { nodes = c.self.inside.size; voters = c.self.inside.voters; members = c.self.inside.members };
      history = c.make_room.new.history.items;
      disks = disks_in (take c.self.inside.nodes.len (c.act.new.nodes ++ drop (length c.act.new.nodes) c.self.inside.nodes.items)) ++ c.self.inside.idle.items;
      opened = disks_in c.self.inside.first_nodes.value.items ++ c.self.inside.first_idle.value.items;
      whole = false;
    } in
    subst (λ (s : Set g.row.D.Denot). NothingDone g.D.Disk.state s now c.args.command) c.self.view_is
    (rw same (undone g.D.Disk.state (record { nodes = c.self.inside.size; voters = c.self.inside.voters; members = c.self.inside.members }) c.self.inside.history.items c.self.inside.nodes.items c.deref_mut.result.now
    c.act.new.nodes c.self.inside.idle.items (disks_in c.self.inside.first_nodes.value.items ++ c.self.inside.first_idle.value.items) c.self.inside.whole c.self.inside.pool.messages c.make_room.new.pool.messages c.args.command c.self.invariant.0.reached.world c.deref_mut.ensures.value
    c.make_room.ensures.messages c.make_room.new.history.items c.make_room.ensures.items c.in-Err-act.ensures.err))

pub returns-clause-step : goal.returns-clause-step
returns-clause-step g c =
    let long : length c.self.inside.nodes.items ≡ c.self.inside.nodes.len = search rules in
    let same : take c.self.inside.nodes.len (c.act.new.nodes ++ drop (length c.act.new.nodes) c.self.inside.nodes.items) ≡ c.act.new.nodes =
    whole c.act.new.nodes c.self.inside.nodes.items c.self.inside.nodes.len (c.act.ensures.len ∙ ap length c.deref_mut.ensures.value) long in
    let named : is_for c.self.inside.size c.args.command ≡ true = search rules in
    let short : length c.self.inside.history.items < 4294967295 = search rules in
    let on : GoesOn (record { nodes = c.self.inside.size; voters = c.self.inside.voters; members = c.self.inside.members }) c.self.inside.history.items c.make_room.new.pool (nodes_in c.act.new.nodes) c.args.line c.args.command c.in-Ok-act.done =
    goes_on (record { nodes = c.self.inside.size; voters = c.self.inside.voters; members = c.self.inside.members }) c.self.inside.history.items c.self.inside.nodes.items c.deref_mut.result.now c.self.inside.pool c.make_room.new.pool
    c.self.invariant.0 c.deref_mut.ensures.value c.make_room.ensures.nodes c.make_room.ensures.messages c.numbers_stay_small.ensures
    (nodes_in c.act.new.nodes) c.args.line c.args.command c.in-Ok-act.done c.in-Ok-act.ensures.ok short named c.recall_sound_write.ensures in
    let items : c.put.new.history.items ≡ c.self.inside.history.items ++ event_of c.args.line c.args.command c.in-Ok-act.done ∷ [] = search rules in
    let now : Set g.row.D.Denot = record {
      sizes = record { nodes = c.self.inside.size; voters = c.self.inside.voters; members = c.self.inside.members };
      history = c.put.new.history.items;
      disks = disks_in (take c.self.inside.nodes.len (c.act.new.nodes ++ drop (length c.act.new.nodes) c.self.inside.nodes.items)) ++ c.self.inside.idle.items;
      opened = disks_in c.self.inside.first_nodes.value.items ++ c.self.inside.first_idle.value.items;
      whole = c.self.inside.whole;
    } in
    rw c.put.ensures.reply (subst (λ (s : Set g.row.D.Denot). IsStep g.D.Disk.state s now c.args.line c.args.command c.in-Ok-act.done.reply) c.self.view_is
    (rw same (stepped g.D.Disk.state (record { nodes = c.self.inside.size; voters = c.self.inside.voters; members = c.self.inside.members }) c.self.inside.history.items c.self.inside.nodes.items c.deref_mut.result.now
    c.act.new.nodes c.self.inside.idle.items (disks_in c.self.inside.first_nodes.value.items ++ c.self.inside.first_idle.value.items) c.self.inside.whole c.self.inside.pool.messages c.make_room.new.pool.messages c.args.command c.self.invariant.0.reached.world c.deref_mut.ensures.value
    c.make_room.ensures.messages c.put.new.history.items c.args.line c.in-Ok-act.done items on.reply c.in-Ok-act.ensures.disks)))

pub returns-clause-points : goal.returns-clause-points
returns-clause-points g c =
    let items : c.put.new.history.items ≡ c.self.inside.history.items ++ event_of c.args.line c.args.command c.in-Ok-act.done ∷ [] = search rules in
    subst (λ (s : Set g.row.D.Denot). RaisesOnly (touched_node (run s.sizes s.history).world c.args.command) s.sizes s.history c.put.new.history.items) c.self.view_is
    (raises_only (record { nodes = c.self.inside.size; voters = c.self.inside.voters; members = c.self.inside.members }) c.self.inside.history.items c.put.new.history.items
    (event_of c.args.line c.args.command c.in-Ok-act.done) items)

pub returns-in-Err-clause-unused : goal.returns-in-Err-clause-unused
returns-in-Err-clause-unused g c = λ still.
    (sym (ap (λ (s : Set g.row.D.Denot). s.whole) c.self.view_is) ∙ still, ap (λ (s : Set g.row.D.Denot). s.disks) c.self.view_is)
