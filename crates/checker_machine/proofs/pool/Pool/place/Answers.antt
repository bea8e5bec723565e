use Rattle.std.proofs.Common.{◌≡◌, ◌∙◌, ℕ, List, Option, ap, subst, sym}
use Rattle.std.specs.FinMap as maps
use Rattle.std.specs.Ordering.{nat_cmp}
use Rattle.repl_msg.specs.declared.message.Message.{Message}
use Rattle.node_data.proofs.MapLemmas.{get-from_pairs}
use Rattle.checker_machine.specs.Newest.{IsNewest, pair_of}
use Rattle.checker_machine.proofs.pool.Pool.place.Goals as goal

pub returns : goal.returns
returns c =
    let same : c.copied.result ≡ maps.get (maps.from_entries {R = nat_cmp} c.self.inside.newest.entries) (pair_of c.args.from c.args.to) =
    c.copied.ensures ∙ c.get.ensures.value ∙ sym (get-from_pairs c.self.inside.newest.entries c.pair_of.result)
    ∙ ap (maps.get (maps.from_entries {R = nat_cmp} c.self.inside.newest.entries)) c.pair_of.ensures in
    subst (λ (found : Option ℕ). IsNewest c.args.self.now c.args.from c.args.to found) (sym same)
    (subst (λ (ms : List Message). IsNewest ms c.args.from c.args.to (maps.get (maps.from_entries {R = nat_cmp} c.self.inside.newest.entries) (pair_of c.args.from c.args.to))) c.self.view_is
    (c.self.invariant c.args.from c.args.to c.ranges.from.fits c.ranges.to.fits))
