use Rattle.std.proofs.Common.{◌≡◌, ◌<◌, ◌*◌, arith, drop, length, rules, subst, sym}
use Rattle.std.specs.Prelude.{All, IfErr, IfOk}
use Rattle.rs_disk.specs.File.{IsEmpty}
use Rattle.set_model.specs.Run.{Sizes}
use Rattle.sync_member.specs.Adding.{AddsMember, AddsNoMember}
use Rattle.set_program.proofs.SyncedLemmas.{room_still, spare_after, synced_cause, synced_disks, synced_ends, synced_member, synced_sizes, synced_steady}
use Rattle.set_program.specs.Syncing.{MakesNoMember}
use Rattle.set_program.proofs.AfterScriptLemmas.{script_disks, script_stops, stopped_disks}
use Rattle.set_program.proofs.synced.play_synced.Goals as goal

pub add_member-ended-requires-clause-whole : goal.add_member-ended-requires-clause-whole
add_member-ended-requires-clause-whole g c κs within = let whole = rw c.in-Ok-default.is-0 at c.play.ensures.whole in whole c.requires.whole

pub add_member-ended-requires-clause-room : goal.add_member-ended-requires-clause-room
add_member-ended-requires-clause-room g c κs within fewer =
    let many : length c.args.world.disks ≡ 100 = c.requires.many in
    let few : c.play.result.1.sizes.nodes < 50 = fewer in
    let played = script_disks g.D.Disk.state c.args.script.parts c.args.world.disks c.play.result.1 _ (λ out. cc (out, c.in-Ok-default.is-0)) c.play.ensures.disks in
    room_still g.D.Disk.state c.args.world.disks c.play.result.1 (c.numbers_stay_small.ensures _ _ c.recall_run.ensures.sizes c.recall_run.ensures.run) c.recall_run.ensures.run played (omega (arith, many, few))

pub add_member-ended-requires-clause-spare : goal.add_member-ended-requires-clause-spare
add_member-ended-requires-clause-spare g c κs within =
    let played = script_disks g.D.Disk.state c.args.script.parts c.args.world.disks c.play.result.1 _ (λ out. cc (out, c.in-Ok-default.is-0)) c.play.ensures.disks in
    spare_after g.D.Disk.state c.args.world.disks c.play.result.1 (c.numbers_stay_small.ensures _ _ c.recall_run.ensures.sizes c.recall_run.ensures.run) c.recall_run.ensures.run played
    (subst (λ (s : Sizes). All (λ disk. IsEmpty (g.D.Disk.state disk).file) (drop (2 * s.nodes) c.args.world.disks)) (sym c.play.ensures.sizes) c.requires.spare)

pub returns-in-Ok-default-clause-ends : goal.returns-in-Ok-default-clause-ends
returns-in-Ok-default-clause-ends g c =
    let ends = rw c.in-Ok-default.is-0 at c.play.ensures.ends in
    let played = script_disks g.D.Disk.state c.args.script.parts c.args.world.disks c.play.result.1 _ (λ out. cc (out, c.in-Ok-default.is-0)) c.play.ensures.disks in
    let no_member : IfErr c.add_member-ended.result.1 (λ left. AddsNoMember g.D.Disk.state c.args.node c.play.result.1 left (g.K.Sink.held c.play.new.sink) (g.K.Sink.held c.add_member-ended.new.sink) c.add_member-ended.result.0) =
    search rules in
    rw (c.left_of.ensures, c.stop_of.ensures)
    (synced_ends g.D.Disk.state c.args.node c.args.script.parts (g.K.Sink.held c.args.sink.now) (g.K.Sink.held c.play.new.sink) (g.K.Sink.held c.add_member-ended.new.sink) c.args.world.disks c.args.world.sizes c.play.result.1
    c.add_member-ended.result.0 c.play.ensures.sizes ends.0 ends.1 played c.add_member-ended.result.1 no_member)

pub returns-in-Ok-default-clause-sizes : goal.returns-in-Ok-default-clause-sizes
returns-in-Ok-default-clause-sizes g c =
    let ends = rw c.in-Ok-default.is-0 at c.play.ensures.ends in
    let played = script_disks g.D.Disk.state c.args.script.parts c.args.world.disks c.play.result.1 _ (λ out. cc (out, c.in-Ok-default.is-0)) c.play.ensures.disks in
    rw c.left_of.ensures
    (synced_sizes g.D.Disk.state c.args.node c.args.script.parts (g.K.Sink.held c.args.sink.now) (g.K.Sink.held c.play.new.sink) (g.K.Sink.held c.add_member-ended.new.sink) c.args.world.disks c.args.world.sizes c.play.result.1
    c.add_member-ended.result.0 c.play.ensures.sizes ends.0 ends.1 played c.add_member-ended.result.1 c.add_member-ended.ensures.no_member)

pub returns-in-Ok-default-clause-disks : goal.returns-in-Ok-default-clause-disks
returns-in-Ok-default-clause-disks g c =
    let ends = rw c.in-Ok-default.is-0 at c.play.ensures.ends in
    let played = script_disks g.D.Disk.state c.args.script.parts c.args.world.disks c.play.result.1 _ (λ out. cc (out, c.in-Ok-default.is-0)) c.play.ensures.disks in
    rw (c.left_of.ensures, c.stop_of.ensures)
    (synced_disks g.D.Disk.state c.args.node c.args.script.parts (g.K.Sink.held c.args.sink.now) (g.K.Sink.held c.play.new.sink) (g.K.Sink.held c.add_member-ended.new.sink) c.args.world.disks c.args.world.sizes c.play.result.1
    c.add_member-ended.result.0 c.play.ensures.sizes ends.0 ends.1 played c.add_member-ended.result.1 c.add_member-ended.ensures.no_member)

pub returns-in-Ok-default-clause-member : goal.returns-in-Ok-default-clause-member
returns-in-Ok-default-clause-member g c =
    let ends = rw c.in-Ok-default.is-0 at c.play.ensures.ends in
    let played = script_disks g.D.Disk.state c.args.script.parts c.args.world.disks c.play.result.1 _ (λ out. cc (out, c.in-Ok-default.is-0)) c.play.ensures.disks in
    let adds : IfOk c.add_member-ended.result.1 (λ parts. AddsMember g.D.Disk.state c.args.node c.play.result.1 (g.K.Sink.held c.play.new.sink) (g.K.Sink.held c.add_member-ended.new.sink) c.add_member-ended.result.0 parts.0.items parts.1.items) =
    search rules in
    rw (c.left_of.ensures, c.stop_of.ensures)
    (synced_member g.D.Disk.state c.args.node c.args.script.parts (g.K.Sink.held c.args.sink.now) (g.K.Sink.held c.play.new.sink) (g.K.Sink.held c.add_member-ended.new.sink) c.args.world.disks c.args.world.sizes c.play.result.1
    c.add_member-ended.result.0 c.play.ensures.sizes ends.0 ends.1 played c.add_member-ended.result.1 adds)

pub returns-in-Ok-default-clause-cause : goal.returns-in-Ok-default-clause-cause
returns-in-Ok-default-clause-cause g c = rw c.stop_of.ensures (synced_cause _ _ _ _ c.add_member-ended.result.0 c.play.ensures.cause c.add_member-ended.ensures.cause)

pub returns-in-Ok-default-clause-steady : goal.returns-in-Ok-default-clause-steady
returns-in-Ok-default-clause-steady g c steady =
    let added = c.add_member-ended.ensures.steady (c.play.ensures.steady steady).0 in
    (added.0, rw c.stop_of.ensures (synced_steady c.add_member-ended.result.0 added.1))

pub returns-in-Err-default-clause-ends : goal.returns-in-Err-default-clause-ends
returns-in-Err-default-clause-ends g c =
    script_stops (MakesNoMember c.args.node) c.args.script.parts (g.K.Sink.held c.args.sink.now) (g.K.Sink.held c.play.new.sink) c.play.result.1 c.in-Err-default.stop (rw c.in-Err-default.is-0 at c.play.ensures.ends)

pub returns-in-Err-default-clause-disks : goal.returns-in-Err-default-clause-disks
returns-in-Err-default-clause-disks g c =
    stopped_disks g.D.Disk.state c.args.script.parts c.args.world.disks c.play.result.1 _ (rw c.in-Err-default.is-0 at c.play.ensures.disks)
