use Rattle.std.proofs.Common.{◌∙◌, arith}
use Rattle.std.proofs.lemmas.List.{take_all}
use Rattle.sync_pin.proofs.ShowLemmas.{keyed_next}
use Rattle.sync_pin.proofs.showing.keyed.Goals as goal

pub loop-ns-preserved : goal.loop-ns-preserved
loop-ns-preserved c =
    rw c.in_ok-push.ensures.items (keyed_next c.args.documents.now c.loop-ns.ns-index c.loop-ns-item.result c.loop-ns.kept.items _ c.loop-ns-test.true c.loop-ns-item.is c.loop-ns.invariant
    c.in_ok-copy.ensures c.in_ok-copy-2.ensures c.in_ok-key_of.ensures)

pub returns-clause-listed : goal.returns-clause-listed
returns-clause-listed c = c.loop-ns.invariant.0 ∙ take_all c.loop-ns.ns-index c.args.documents.now (omega (arith, c.loop-ns-test.false))

pub returns-clause-keys : goal.returns-clause-keys
returns-clause-keys c = c.loop-ns.invariant.1
