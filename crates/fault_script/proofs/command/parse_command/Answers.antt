use Rattle.std.specs.Option.{option_copied}
use Rattle.fault_script.proofs.CommandFits.{command_fits}
use Rattle.fault_script.proofs.command.parse_command.Goals as goal

pub returns-clause-fits : goal.returns-clause-fits
returns-clause-fits c = command_fits c.args.nodes c.in_ok-verb.verb (option_copied c.in_ok-verb.left) c.command.result c.command.ensures
