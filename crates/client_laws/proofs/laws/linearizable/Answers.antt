use Rattle.client_laws.proofs.Exact.{exact, reads_exact, reads_grow}
use Rattle.client_laws.proofs.laws.linearizable.Goals as goal

pub returns-clause-logs : goal.returns-clause-logs
returns-clause-logs c = λ sizes events are is. exact sizes events (c.safe.ensures sizes events are is) (c.logs_rise.ensures sizes events are is) (c.leaders_keep.ensures sizes events are is)
    (c.entries_are_written.ensures sizes events are is)
    (c.leaders_add_their_own.ensures sizes events are is) (c.leaders_had_what_is_before.ensures sizes events are is) (c.next_optimes_are_last.ensures sizes events are is)

pub returns-clause-reads : goal.returns-clause-reads
returns-clause-reads c = λ sizes events are is. reads_exact sizes events (c.safe.ensures sizes events are is) (c.logs_rise.ensures sizes events are is) (c.leaders_keep.ensures sizes events are is)
    (c.entries_are_written.ensures sizes events are is)
    (c.leaders_add_their_own.ensures sizes events are is) (c.leaders_had_what_is_before.ensures sizes events are is) (c.next_optimes_are_last.ensures sizes events are is)
    (c.linear_law.ensures sizes events are is)

pub returns-clause-grow : goal.returns-clause-grow
returns-clause-grow c = λ sizes events are is. reads_grow sizes events (c.safe.ensures sizes events are is) (c.logs_rise.ensures sizes events are is) (c.leaders_keep.ensures sizes events are is)
    (c.entries_are_written.ensures sizes events are is)
    (c.leaders_add_their_own.ensures sizes events are is) (c.leaders_had_what_is_before.ensures sizes events are is) (c.next_optimes_are_last.ensures sizes events are is)
