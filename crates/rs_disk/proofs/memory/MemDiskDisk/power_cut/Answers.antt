use Rattle.std.proofs.Common.{◌≡◌, is_some, List, ◌∷◌, ℕ, take, ◌∙◌, ap}
use Rattle.rs_disk.specs.Picks.{picked}
use Rattle.rs_disk.specs.File.{settled}
use Rattle.rs_disk.specs.Orders.{ordered, power_cut}
use Rattle.rs_disk.specs.declared.past.Past.{Past}
use Rattle.rs_disk.proofs.PickLemmas.{power_is_cut, cut_past}
use Rattle.rs_disk.proofs.memory.MemDiskDisk.power_cut.Goals as goal

pub lose-requires : goal.lose-requires
lose-requires c = (c.args.self.now.past.file, c.args.self.now.holds)

past_is : (c : goal.After-self-1) → c.then-self.result ≡ cut_past c.args.pick c.args.self.now.past
past_is c =
    let left = (c.lose.ensures.file c.args.self.now.past.file c.args.self.now.holds).contents in
    let bytes : take c.lose.new.self.end c.deref.result.now ≡ picked c.args.pick c.args.self.now.past.file = ap (λ (l : List ℕ). take c.lose.new.self.end l) c.deref.ensures.value ∙ left in
    let past = c.args.self.now.past in
    c.then-self.ensures ∙ (λ i. record { file = settled (bytes i); before = past.file ∷ past.file ∷ past.before; orders = ordered (power_cut c.args.pick) past.orders })

pub returns-clause-cut : goal.returns-clause-cut
returns-clause-cut c = power_is_cut c.args.pick c.args.self.now.past c.then-self.result c.args.self.now.faults (is_some c.args.self.now.arm) _ _ (past_is c) c.lose.ensures.room

pub returns-clause-left : goal.returns-clause-left
returns-clause-left c = ap (λ (p : Past). p.file) (past_is c)
