use Rattle.history_laws.proofs.Documents.{documents_in_order}
use Rattle.history_laws.proofs.laws.documents_are_in_order.Goals as goal

pub returns : goal.returns
returns c = λ sizes events are is. documents_in_order sizes events are is (c.safe.ensures sizes events are is) (c.logs_rise.ensures sizes events are is) (c.leaders_keep.ensures sizes events are is)
    (c.leaders_add_their_own.ensures sizes events are is) (c.next_optimes_are_last.ensures sizes events are is) (c.entries_are_written.ensures sizes events are is)
