use Rattle.std.proofs.Common.{arith}
use Rattle.entry_bytes.proofs.DirectLemmas.{made_spelled}
use Rattle.entry_bytes.proofs.direct_reading.direct.Goals as goal

pub returns-in-Ok : goal.returns-in-Ok
returns-in-Ok c =
    let p = c.in-Some.parts in
    let spelled = made_spelled c.in-Ok.entry p.optime p.letter.now p.ns.now p.o.now c.args.bytes.now p.session c.in-Ok.ensures.optime c.in-Ok.ensures.session c.in-Ok.ensures.lawful c.in-Some.ensures.term c.in-Some.ensures.ts
    c.in-Ok.ensures.op c.recall_utf8.ensures c.recall_utf8-2.ensures c.in-Ok.ensures.body.0 c.in-Ok.ensures.body.1 (omega arith) c.in-Some.ensures.spelled in
    (c.in-Ok.ensures.lawful, spelled.0, spelled.1)
