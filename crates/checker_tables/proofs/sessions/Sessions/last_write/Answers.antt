use Rattle.std.proofs.Common.{◌≡◌, ◌+◌, ◌<◌, sym, arith, length}
use Rattle.checker_tables.proofs.SessionLemmas.{table_next}
use Rattle.checker_tables.proofs.sessions.Sessions.last_write.Goals as goal

pub loop-place-preserved : goal.loop-place-preserved
loop-place-preserved c =
    let within : c.loop-place.place < length c.args.entries.now = omega arith in
    let more : c.add.new.self.count ≡ c.loop-place.place + 1 = omega (arith, c.in_ok-add.ensures.count, c.loop-place.invariant.1) in (
      table_next c.args.entries.now c.loop-place.place c.index-entries-place.result c.loop-place.self c.add.new.self c.loop-place.invariant.0 c.loop-place.invariant.1 within
          c.index-entries-place.is (c.in_ok-add.ensures.ok _) more,
      sym more,
    )
