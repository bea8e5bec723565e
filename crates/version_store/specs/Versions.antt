-- The versions of a document as they are stored: a single version that is no deletion needs no list.
use Rattle.std.specs.Prelude.{List, [], ◌∷◌, Some}
use Rattle.rs_optime.specs.declared.optime.OpTime.{OpTime}
use Rattle.bson_doc.specs.Tree.{Fields}
use Rattle.version_store.specs.declared.history.Version.{Version}
use Rattle.version_store.specs.declared.history.Versions.{Versions}
use Rattle.version_store.specs.declared.history.Versions.TheVariants.{Empty, One, Many}

-- one version, which is no deletion
abbrev pub once : OpTime → Fields → List Version
once since doc = record { at = since; doc = Some doc } ∷ []

abbrev pub versions_in : Versions → List Version
versions_in Empty = []
versions_in (One since doc) = once since doc
versions_in (Many versions) = versions.items
