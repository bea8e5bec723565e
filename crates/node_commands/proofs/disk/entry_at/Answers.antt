use Rattle.node_commands.proofs.FoundLemmas.{looked_up}
use Rattle.node_commands.proofs.disk.entry_at.Goals as goal

pub returns : goal.returns
returns c = looked_up c.entry_near.result (λ x. x.now) c.args.node_data.now.node.log c.args.at c.recall_sound.ensures.node.oplog c.entry_near.ensures.found c.entry_near.ensures.none
