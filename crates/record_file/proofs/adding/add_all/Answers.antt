use Rattle.record_file.proofs.AddingLemmas.{ends_reserved}
use Rattle.record_file.proofs.adding.add_all.Goals as goal

pub returns-clause-calls : goal.returns-clause-calls
returns-clause-calls g c = ends_reserved c.add_each.result _ _ _ _ c.in_ok-reserve_for.ensures.same c.add_each.ensures.calls
