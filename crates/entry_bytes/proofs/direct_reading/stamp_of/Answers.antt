use Rattle.entry_bytes.proofs.DirectLemmas.{stamp_laid}
use Rattle.entry_bytes.proofs.direct_reading.stamp_of.Goals as goal

pub returns-clause-spelled : goal.returns-clause-spelled
returns-clause-spelled c =
    stamp_laid c.in_ok-version.version (record { term = c.in_ok-term.term; ts = c.in_ok-ts.ts }) c.args.bytes.now _ _ _ _ _ c.in_ok-version.rest.now
    c.in_ok-after_ts.ensures c.in_ok-ts.ensures c.in_ok-after_t.ensures c.in_ok-term.ensures c.in_ok-after_v.ensures c.in_ok-version.ensures c.if-version-ne2.false
