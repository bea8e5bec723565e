use Rattle.std.proofs.Common.{◌*◌, ◌-◌}
use Rattle.batch_applier.proofs.parting.+parting.Given as goal

abbrev pub decreases-parted_by : goal.decreases-parted_by
decreases-parted_by g l = 2 * l.threads

abbrev pub decreases-others : goal.decreases-others
decreases-others g l = 2 * l.threads - 1
