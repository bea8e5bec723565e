use Rattle.std.proofs.Common.{◌<◌, ◌≤◌, ◌∙◌, ap, arith, length, sym}
use Rattle.std.proofs.lemmas.List.{take_all}
use Rattle.oplog_entry.specs.Visible.{last_of}
use Rattle.oplog_store.proofs.LogLemmas.{last_is}
use Rattle.checker_node.proofs.DiskLemmas.{point_cut}
use Rattle.checker_node.proofs.disk.next_durable.Goals as goal

pub returns-then-len-le-RECORD-clause-next : goal.returns-then-len-le-RECORD-clause-next
returns-then-len-le-RECORD-clause-next c =
    let few : length c.args.next.now.items ≤ 2000 = omega arith in
    sym (take_all 2000 c.args.next.now.items few)

pub returns-in-Some-clause-point : goal.returns-in-Some-clause-point
returns-in-Some-clause-point c =
    let more : 2000 < length c.args.next.now.items = omega arith in
    point_cut c.args.next.now.items c.args.visible c.in-Some.entry.now.optime c.earlier.result more
    (last_is c.deref.result.now c.in-Some.entry.now c.in-Some.ensures.value ∙ ap last_of (c.deref.ensures.value ∙ c.truncate.ensures.items)) c.earlier.ensures
