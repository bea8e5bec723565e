use Rattle.version_store.proofs.PartedLemmas.{front_empty}
use Rattle.version_store.proofs.collection.Collection.is_empty.Goals as goal

pub returns-else-is_empty : goal.returns-else-is_empty
returns-else-is_empty c =
    rw (← c.self.view_is)
    (λ held. absurd (cc held), λ none. c.is_empty.ensures.1 (front_empty c.self.inside.row c.self.inside.others none))
