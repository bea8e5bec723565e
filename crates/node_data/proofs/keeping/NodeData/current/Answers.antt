use Rattle.std.proofs.Common.{◌∙◌, sym, subst, IfSome}
use Rattle.node_data.proofs.HolderLemmas.{holder_is}
use Rattle.node_data.proofs.ShownLemmas.{local_latest, local_own}
use Rattle.node_data.proofs.OwnLemmas.{IsOwn}
use Rattle.node_data.proofs.keeping.NodeData.current.Goals as goal

pub returns-clause-latest : goal.returns-clause-latest
returns-clause-latest c = rw (← c.self.view_is) (c.current.ensures.latest ∙ local_latest _ c.self.inside.store c.self.invariant (c.args.ns.now, c.args.id.now))

pub returns-clause-own : goal.returns-clause-own
returns-clause-own c =
    subst (λ o. IfSome o (λ d. IsOwn c.args.id.now d))
    (sym (c.current.ensures.latest ∙ local_latest _ c.self.inside.store c.self.invariant (c.args.ns.now, c.args.id.now)))
    (local_own _ c.self.inside.store c.self.invariant (c.args.ns.now, c.args.id.now))

pub returns-clause-holder : goal.returns-clause-holder
returns-clause-holder c = rw (← c.self.view_is) (c.current.ensures.holder ∙ holder_is _ c.self.inside.store (c.args.ns.now, c.args.id.now) c.self.invariant)
