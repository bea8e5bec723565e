use Rattle.explore_steps.specs.Tables.{tables_of}
use Rattle.explore_steps.proofs.Reading.{cell_within, list_read, list_within}
use Rattle.explore_steps.proofs.steps.Steps.live.Goals as goal

pub get-requires : goal.get-requires
get-requires c = cell_within (tables_of c.args.self.now) c.args.cell c.requires

pub get-requires-2 : goal.get-requires-2
get-requires-2 c = list_within (tables_of c.args.self.now) c.args.cell c.get.result c.get.ensures c.requires

pub returns : goal.returns
returns c node messages is = list_read (tables_of c.args.self.now) c.args.cell c.get.result c.get.ensures c.get-2.result.now c.get-2.ensures node messages is
