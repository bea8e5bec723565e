use Rattle.explore_laws.proofs.AlikeBodies.{messages_go_alike}
use Rattle.explore_laws.proofs.AlikeRows.{commands_go_alike}
use Rattle.explore_laws.proofs.laws.alike_nodes_go_alike.Goals as goal

pub returns-clause-commands : goal.returns-clause-commands
returns-clause-commands c = commands_go_alike

pub returns-clause-messages : goal.returns-clause-messages
returns-clause-messages c = messages_go_alike
