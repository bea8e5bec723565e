use Rattle.client_laws.proofs.Retries.{confirmed_told}
use Rattle.client_laws.proofs.laws.confirmed_retries.Goals as goal

pub returns : goal.returns
returns c = λ sizes events are is. confirmed_told sizes events (c.safe.ensures sizes events are is) (c.logs_rise.ensures sizes events are is) (c.leaders_keep.ensures sizes events are is)
    (c.entries_are_written.ensures sizes events are is) (c.linearizable.ensures.logs sizes events are is)
