use Rattle.std.proofs.Common.{◌∙◌, ap, Option}
use Rattle.std.specs.Prelude.{option_and_then}
use Rattle.version_store.specs.declared.history.Version.{Version}
use Rattle.version_store.proofs.history.latest_in.Goals as goal

pub returns : goal.returns
returns c = c.as_ref.ensures.value ∙ ap (λ (o : Option Version). option_and_then (λ (v : Version). v.doc) o) c.in_ok-newest.ensures
