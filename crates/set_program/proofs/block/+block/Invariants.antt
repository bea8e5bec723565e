use Rattle.std.proofs.Common.{◌*◌, ◌+◌, length}
use Rattle.set_program.proofs.block.+block.Given as goal

abbrev pub decreases-beside : goal.decreases-beside
decreases-beside g l = 2 * length l.others.now + 1

abbrev pub decreases-run_lists : goal.decreases-run_lists
decreases-run_lists g l = 2 * length l.lists.now
