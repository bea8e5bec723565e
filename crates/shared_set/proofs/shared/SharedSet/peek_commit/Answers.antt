use Rattle.std.proofs.Common.{◌∙◌, ap}
use Rattle.shared_set.specs.Passes.{sizes_of}
use Rattle.shared_set.specs.Sets.{sizes_in}
use Rattle.shared_set.proofs.CallLemmas.{looks}
use Rattle.shared_set.proofs.shared.SharedSet.peek_commit.Goals as goal

pub returns-clause-number : goal.returns-clause-number
returns-clause-number g c =
    looks (sizes_of c.args.self.now) c.args.pass.now.view c.args.node c.peek.result (ap (λ l. sizes_in l) c.requires.pass.0.4) (c.requires.pass.0.3 ∙ c.args.self.now.fresh) c.peek.ensures.number
