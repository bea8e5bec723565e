-- A document that never existed still never existed after a cut.
use Rattle.std.proofs.Common.{◌≡◌, refl}
use Rattle.version_store.specs.declared.cut.Cut.{Cut}
use Rattle.version_store.specs.declared.cut.Cut.TheVariants.{After, From, Unseen}
use Rattle.version_store.specs.Cuts.{left_by}
use Rattle.version_store.specs.Past.{no_past}

pub left_nothing : (cut : Cut) → left_by cut no_past ≡ no_past
left_nothing (After at) = refl
left_nothing (From at) = refl
left_nothing (Unseen at) = refl
