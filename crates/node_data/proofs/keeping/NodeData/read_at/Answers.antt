use Rattle.std.proofs.Common.{◌∙◌, sym, subst, IfSome}
use Rattle.node_data.proofs.OwnLemmas.{IsOwn}
use Rattle.node_data.proofs.ShownLemmas.{local_shown, shown_own}
use Rattle.node_data.proofs.keeping.NodeData.read_at.Goals as goal

pub returns-clause-shown : goal.returns-clause-shown
returns-clause-shown c =
    let readable = rw (← c.self.view_is) at c.requires in
    rw (← c.self.view_is) (c.read_at.ensures.shown ∙ local_shown _ c.self.inside.store c.self.invariant (c.args.ns.now, c.args.id.now) c.args.at readable)

pub returns-clause-own : goal.returns-clause-own
returns-clause-own c =
    let readable = rw (← c.self.view_is) at c.requires in
    subst (λ o. IfSome o (λ d. IsOwn c.args.id.now d))
    (sym (c.read_at.ensures.shown ∙ local_shown _ c.self.inside.store c.self.invariant (c.args.ns.now, c.args.id.now) c.args.at readable))
    (shown_own _ c.self.inside.store c.self.invariant (c.args.ns.now, c.args.id.now) c.args.at)
