use Rattle.disk_laws.proofs.Acknowledged.{acknowledged_stay, points_stay}
use Rattle.disk_laws.proofs.laws.acknowledged_entries_stay.Goals as goal

pub returns-clause-acknowledged : goal.returns-clause-acknowledged
returns-clause-acknowledged c = λ sizes events are is. acknowledged_stay sizes events are is (c.numbers_stay_small.ensures sizes events are is) (c.safe.ensures sizes events are is).committed_stay

pub returns-clause-points : goal.returns-clause-points
returns-clause-points c = λ sizes events are is. points_stay sizes events are is (c.numbers_stay_small.ensures sizes events are is) (c.safe.ensures sizes events are is).committed_stay
