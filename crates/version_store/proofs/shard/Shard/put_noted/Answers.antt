use Rattle.std.proofs.Common.{◌≡◌, sym, subst, Option}
use Rattle.version_store.specs.Listed.{ListsIn}
use Rattle.version_store.specs.declared.listing.Listing.{Listing}
use Rattle.version_store.proofs.ListedLemmas.{noted_lists}
use Rattle.version_store.proofs.shard.Shard.put_noted.Goals as goal

pub invariant_of-self-2 : goal.invariant_of-self-2
invariant_of-self-2 c =
    let here : (c.in_ok-from_str.field-0, c.in_ok-copy.field-0) ≡ (c.args.ns.now, c.args.id) = λ i. (c.in_ok-from_str.ensures i, c.in_ok-copy.ensures i) in (
      noted_lists c.self.inside.documents c.put_in.new.self c.take.result c.noted.result _ (c.args.ns.now, c.args.id) c.args.at c.args.doc c.is_some-stands.result
          c.is_some-stands.ensures (subst (λ (l : Option Listing). ListsIn c.self.inside.documents l) (sym c.take.ensures.value) c.self.invariant.0) here c.noted.ensures c.in_ok-put_in.ensures.ok,
      noted_lists c.self.inside.documents c.put_in.new.self c.take-2.result c.noted-2.result _ (c.args.ns.now, c.args.id) c.args.at c.args.doc c.is_some-stands.result
          c.is_some-stands.ensures (subst (λ (l : Option Listing). ListsIn c.self.inside.documents l) (sym c.take-2.ensures.value) c.self.invariant.1) here c.noted-2.ensures c.in_ok-put_in.ensures.ok,
    )
