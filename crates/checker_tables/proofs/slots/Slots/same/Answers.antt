use Rattle.std.proofs.Common.{◌∙◌, ap, sym}
use Rattle.std.specs.FinSet as sets
use Rattle.checker_tables.proofs.SameLemmas.{optimes_tested}
use Rattle.checker_tables.proofs.slots.Slots.same.Goals as goal

pub returns : goal.returns
returns c = λ same.
    sym c.self.view_is
    ∙ ap sets.from_list ((optimes_tested c.self.inside.slots.keys c.other.inside.slots.keys c.eq.result c.eq.ensures).0 same)
    ∙ c.other.view_is
