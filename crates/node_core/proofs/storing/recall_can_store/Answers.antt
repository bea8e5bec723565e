use Rattle.node_core.proofs.OwedLemmas.{can_be_put, well_with}
use Rattle.node_core.proofs.storing.recall_can_store.Goals as goal

pub returns-clause-can : goal.returns-clause-can
returns-clause-can c = can_be_put c.args.state.now.node c.args.item.now c.recall_sound.ensures.sound c.requires.stored c.recall_stores_well.ensures

pub returns-clause-doubtful : goal.returns-clause-doubtful
returns-clause-doubtful c = well_with c.args.state.now.node c.args.item.now c.recall_stores_well.ensures
