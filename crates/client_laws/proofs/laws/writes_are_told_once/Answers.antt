use Rattle.client_laws.proofs.Acked.{acknowledged_once}
use Rattle.client_laws.proofs.Retries.{greater_told, retries_told}
use Rattle.client_laws.proofs.laws.writes_are_told_once.Goals as goal

pub returns-clause-told : goal.returns-clause-told
returns-clause-told c = λ sizes events are is. retries_told sizes events (c.safe.ensures sizes events are is) (c.logs_rise.ensures sizes events are is) (c.leaders_keep.ensures sizes events are is)
    (c.entries_are_written.ensures sizes events are is)

pub returns-clause-greater : goal.returns-clause-greater
returns-clause-greater c = λ sizes events are is. greater_told sizes events (c.safe.ensures sizes events are is) (c.logs_rise.ensures sizes events are is) (c.leaders_keep.ensures sizes events are is)
    (c.entries_are_written.ensures sizes events are is)

pub returns-clause-once : goal.returns-clause-once
returns-clause-once c = λ sizes events are is. acknowledged_once sizes events (c.safe.ensures sizes events are is) (c.logs_rise.ensures sizes events are is) (c.leaders_keep.ensures sizes events are is)
    (c.entries_are_written.ensures sizes events are is) (c.committed_logs_chain.ensures.logs sizes events are is)
