use Rattle.std.proofs.Common.{subst, ◌<◌, ◌^◌, ℕ}
use Rattle.node_journal.proofs.DiskLemmas.{rest_count}
use Rattle.node_journal.proofs.journal.Journal.recall_count_fits.Goals as goal

pub returns : goal.returns
returns g c = rw (← c.self.view_is) (λ records rest. rest_count _ records (subst (λ (n : ℕ). n < 2 ^ 63) c.len-len.ensures.length c.len-len.ensures.bound) rest)
