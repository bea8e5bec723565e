-- Which versions of each document are dropped.
use Rattle.std.specs.Prelude.{List, filter}
use Rattle.version_store.specs.declared.cut.Cut.{Cut}
use Rattle.version_store.specs.declared.cut.Cut.TheVariants.{After, From, Unseen}
use Rattle.version_store.specs.declared.history.Version.{Version}
use Rattle.version_store.specs.Past.{Past, is_before, up_to, unseen_gone}

-- what a cut leaves of a document's versions
abbrev pub left_of : Cut → List Version → List Version
left_of (After at) versions = up_to at versions
left_of (From at) versions = filter (λ version. is_before version.at at) versions
left_of (Unseen at) versions = unseen_gone at versions

-- and of its past
abbrev pub left_by : Cut → Past → Past
left_by cut past = record { versions = left_of cut past.versions; holder = past.holder }
