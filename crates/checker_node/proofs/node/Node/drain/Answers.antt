use Rattle.std.proofs.Common.{◌≡◌, ◌∙◌, [], Bool, None, ap, cond, rules, subst, sym}
use Rattle.member_config.specs.Config.{in_term}
use Rattle.member_config.specs.declared.config.Config.{Config}
use Rattle.oplog_entry.specs.declared.entry.Op.{Op}
use Rattle.set_model.specs.Changes.{logged}
use Rattle.set_model.specs.Node.{Node}
use Rattle.set_model.specs.Roles.{is_draining}
use Rattle.set_model.specs.Stores.{config_record, in_doubt, stored}
use Rattle.set_model.specs.declared.reply.Reply.TheVariants as reply
use Rattle.set_model.specs.declared.role.Role.TheVariants.{Draining}
use Rattle.checker_node.specs.Done.{Replies}
use Rattle.checker_node.proofs.ElectionLemmas.{drain_begins}
use Rattle.checker_node.proofs.node.Node.drain.Goals as goal

pub returns : goal.returns
returns c =
    let old : Node = c.args.self.now in
    let kept : Config = c.in_ok-copy.field-0 in
    let role : c.self.inside.role ≡ Draining = search rules in
    drain_begins old c.in_ok-config.config kept c.args.failed.now c.store_other.new.failed c.store_other.new.self c.lead.new.self c.log_op.new.self c.evaluate.new.self c.replies.result c.in_ok-noop.noop
    (ap (λ (n : Node). is_draining n.role) (sym c.self.view_is) ∙ ap is_draining role) (sym c.if-not-branch.false ∙ c.in_ok-store_other.ensures.stands)
    (c.in_ok-config.ensures ∙ ap (λ (n : Node). in_term n.config n.term) c.self.view_is) c.in_ok-copy.ensures
    (c.in_ok-store_other.ensures.node ∙ ap (λ (b : Bool). cond b (stored old (config_record kept)) (in_doubt old (config_record kept))) c.if-not-branch.false)
    c.in_ok-store_other.ensures.left c.lead.ensures c.in_ok-noop.ensures.at
    (c.in_ok-noop.ensures.node ∙ ap (λ (op : Op). logged c.lead.new.self op None) c.noop.ensures) c.evaluate.ensures
    (subst (λ (n : Node). Replies c.replies.result (reply.Primary n.term c.in_ok-noop.noop) []) c.self-2.view_is c.replies.ensures)
