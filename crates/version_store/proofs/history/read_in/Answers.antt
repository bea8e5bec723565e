use Rattle.std.proofs.Common.{◌∙◌, ap}
use Rattle.version_store.specs.Past.{latest_of}
use Rattle.version_store.proofs.history.read_in.Goals as goal

pub returns : goal.returns
returns c = c.latest_in.ensures ∙ ap latest_of c.count_up_to.ensures.up_to
