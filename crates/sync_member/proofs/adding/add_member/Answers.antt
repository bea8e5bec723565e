use Rattle.std.proofs.Common.{◌≡◌, ◌∙◌, ◌≤◌, ◌+◌, ◌*◌, Err, ap, arith, length, refl, rules, vec_len}
use Rattle.sync_member.proofs.MemberLemmas.{cause_then, room_still, spare_still, went_by}
use Rattle.sync_words.specs.declared.stop.SyncStop.TheVariants.{WriteFault}
use Rattle.sync_member.proofs.adding.add_member.Goals as goal

pub make_at-made-requires-clause-room : goal.make_at-made-requires-clause-room
make_at-made-requires-clause-room g c =
    let many : length c.close-events.result.1.items ≡ vec_len c.close-events.result.1 = search rules in
    let size : c.size-size.result ≡ c.args.world.sizes.nodes = c.size-size.ensures in
    let same : length c.close-events.result.1.items ≡ length c.pin.new.set.disks = ap length c.close-events.ensures.disks in
    let room : 2 * c.args.world.sizes.nodes + 2 ≤ length c.pin.new.set.disks = room_still g.D.Disk.state c.numbers_stay_small.ensures c.args.world c.pin.new.set
    (went_by g.D.Disk.state c.args.world c.pin.new.set c.pin.ensures.stays) (c.pin.ensures.whole c.requires.whole (λ is. cc (is, c.in-Ok.is))) c.recall_run.ensures.sizes c.recall_run.ensures.run (c.requires.room c.in-Ok.ensures.pins.0.1) in
    omega (arith, many, size, same, room)

pub make_at-made-requires-clause-spare : goal.make_at-made-requires-clause-spare
make_at-made-requires-clause-spare g c =
    rw (c.size-size.ensures, c.close-events.ensures.disks)
    (spare_still g.D.Disk.state c.numbers_stay_small.ensures c.args.world c.pin.new.set
    (went_by g.D.Disk.state c.args.world c.pin.new.set c.pin.ensures.stays) (c.pin.ensures.whole c.requires.whole (λ is. cc (is, c.in-Ok.is))) c.recall_run.ensures.sizes c.recall_run.ensures.run c.requires.spare)

pub returns-in-Ok-clause-adds : goal.returns-in-Ok-clause-adds
returns-in-Ok-clause-adds g c = record {
  set = c.pin.new.set;
  went = went_by g.D.Disk.state c.args.world c.pin.new.set c.pin.ensures.stays;
  whole = c.pin.ensures.whole c.requires.whole (λ is. cc (is, c.in-Ok.is));
  defined = c.recall_run.ensures.run;
  stands = c.recall_stands.ensures;
  events_are = c.close-events.ensures.history;
  pinned = c.in-Ok.pinned;
  is_pinned = c.in-Ok.ensures.pinned;
  asked = g.K.Sink.held c.pin.new.sink;
  pins = c.in-Ok.ensures.pins;
  leaders = c.in-Ok.ensures.leaders;
  member = rw (c.size-size.ensures, c.close-events.ensures.disks) at c.make_at-made.ensures.member;
  puts = rw c.size-size.ensures at c.make_at-made.ensures.puts;
}

pub returns-in-Ok-clause-cause : goal.returns-in-Ok-clause-cause
returns-in-Ok-clause-cause g c = cause_then _ _ _ _ _ c.pin.ensures.cause c.make_at-made.ensures.cause

pub returns-in-Err-clause-no_member : goal.returns-in-Err-clause-no_member
returns-in-Err-clause-no_member g c = record {
  why = c.in-Err.stop;
  ends = refl;
  pins = c.in-Err.ensures.pins;
  went = went_by g.D.Disk.state c.args.world c.pin.new.set c.pin.ensures.stays;
  whole = λ other. c.pin.ensures.whole c.requires.whole (λ is. other (cc (is, c.in-Err.is)));
}

pub returns-in-Err-clause-cause : goal.returns-in-Err-clause-cause
returns-in-Err-clause-cause g c = record {
  later = c.pin.ensures.cause.later;
  rose = λ fault. let same : c.in-Err.stop ≡ WriteFault = cc fault in c.pin.ensures.cause.rose (c.in-Err.is ∙ ap (λ stop. Err stop) same);
}

pub returns-in-Err-clause-steady : goal.returns-in-Err-clause-steady
returns-in-Err-clause-steady g c steady =
    let kept = c.pin.ensures.steady steady in
    (kept.0, λ is. let same : c.in-Err.stop ≡ WriteFault = cc is in kept.1 (c.in-Err.is ∙ ap (λ stop. Err stop) same))
