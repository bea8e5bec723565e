use Rattle.disk_laws.proofs.Lasting.{not_lost}
use Rattle.disk_laws.proofs.laws.acknowledged_entries_are_not_lost.Goals as goal

pub returns : goal.returns
returns c = λ sizes events are is.
    not_lost sizes events are is (c.safe.ensures sizes events are is) (c.logs_rise.ensures sizes events are is)
    (c.leaders_keep.ensures sizes events are is) (c.entries_are_written.ensures sizes events are is)
    (c.numbers_stay_small.ensures sizes events are is)
