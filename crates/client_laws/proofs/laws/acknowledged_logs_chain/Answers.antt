use Rattle.client_laws.proofs.Acked.{acknowledged_chain}
use Rattle.client_laws.proofs.laws.acknowledged_logs_chain.Goals as goal

pub returns : goal.returns
returns c = λ sizes events are is. acknowledged_chain sizes events (c.safe.ensures sizes events are is) (c.logs_rise.ensures sizes events are is) (c.leaders_keep.ensures sizes events are is)
    (c.entries_are_written.ensures sizes events are is) (c.committed_logs_chain.ensures.logs sizes events are is)
