use Rattle.std.specs.Option.{option_copied}
use Rattle.play.proofs.LineLemmas.{fits_kept}
use Rattle.play.proofs.reading.command_said.Goals as goal

pub returns-in_ok-command-in-Command-clause-fits : goal.returns-in_ok-command-in-Command-clause-fits
returns-in_ok-command-in-Command-clause-fits c =
    fits_kept c.args.nodes c.in-Command.verb (option_copied c.in_ok-keyword.left) c.in_ok-command-in-Command.field-0 c.without_disks.result c.in_ok-command-in-Command.ensures c.without_disks.ensures.same
