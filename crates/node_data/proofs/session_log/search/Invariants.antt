use Rattle.std.proofs.Common.{◌≡◌, take}
use Rattle.set_model.specs.Sessions.{last_write}
use Rattle.node_data.proofs.session_log.search.Given as goal

abbrev pub invariant-loop-entry : goal.invariant-loop-entry
invariant-loop-entry l = l.last ≡ last_write l.fn.id (take l.entry-index l.entries)
