use Rattle.std.proofs.Common.{◌∙◌, List, ap, length, subst}
use Rattle.oplog_entry.specs.Visible.{log_up_to}
use Rattle.oplog_entry.specs.declared.entry.Entry.{Entry}
use Rattle.rs_optime.specs.declared.optime.OpTime.{OpTime}
use Rattle.set_model.specs.Node.{Node}
use Rattle.set_model.specs.Points.{applied_point, earlier_of}
use Rattle.checker_node.proofs.WriteLemmas.{CountsUpTo, counts_up_to}
use Rattle.checker_node.proofs.node.Node.majority_count.Goals as goal

pub returns-clause-shown : goal.returns-clause-shown
returns-clause-shown c =
    let node = c.args.self.now in
    let front : CountsUpTo c.earlier-point.result node.log (length c.up_to.result.now) =
    subst (λ (n : Node). CountsUpTo c.earlier-point.result n.log (length c.up_to.result.now)) c.self.view_is
    (subst (λ (l : List Entry). CountsUpTo c.earlier-point.result l (length c.up_to.result.now)) c.log.ensures
    (counts_up_to c.earlier-point.result c.log.result.now.entries c.up_to.result.now c.up_to.ensures.entries c.up_to.ensures.oplog)) in
    front.0
    ∙ ap (λ (o : OpTime). log_up_to o node.log)
    (c.earlier-point.ensures ∙ ap (earlier_of c.self.inside.commit) c.applied_point.ensures ∙ ap (λ (n : Node). earlier_of n.commit (applied_point node)) c.self.view_is)

pub returns-clause-within : goal.returns-clause-within
returns-clause-within c =
    let front : CountsUpTo c.earlier-point.result c.args.self.now.log (length c.up_to.result.now) =
    subst (λ (n : Node). CountsUpTo c.earlier-point.result n.log (length c.up_to.result.now)) c.self.view_is
    (subst (λ (l : List Entry). CountsUpTo c.earlier-point.result l (length c.up_to.result.now)) c.log.ensures
    (counts_up_to c.earlier-point.result c.log.result.now.entries c.up_to.result.now c.up_to.ensures.entries c.up_to.ensures.oplog)) in
    front.1
