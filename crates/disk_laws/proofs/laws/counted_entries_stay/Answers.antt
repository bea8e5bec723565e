use Rattle.disk_laws.proofs.Kept.{counted_stay}
use Rattle.disk_laws.proofs.laws.counted_entries_stay.Goals as goal

pub returns : goal.returns
returns c = counted_stay
