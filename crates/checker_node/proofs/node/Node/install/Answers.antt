use Rattle.std.proofs.Common.{◌≡◌, ◌∙◌, ◌&&◌, Bool, ap, cond, rules, sym, true}
use Rattle.member_config.specs.Config.{is_newer}
use Rattle.member_config.specs.declared.config.Config.{Config}
use Rattle.set_model.specs.Changes.{installed}
use Rattle.set_model.specs.Node.{Node}
use Rattle.set_model.specs.Roles.{is_secondary}
use Rattle.set_model.specs.Stores.{config_record, in_doubt, stored}
use Rattle.set_model.specs.declared.role.Role.{Role}
use Rattle.set_model.specs.declared.role.Role.TheVariants.{Secondary}
use Rattle.checker_node.specs.contracts.node.Node.{the_view}
use Rattle.checker_node.proofs.BeatLemmas.{goes_stored, takes}
use Rattle.checker_node.proofs.node.Node.install.Goals as goal

pub returns : goal.returns
returns c =
    let old : Node = c.args.self.now in
    let config : Config = c.args.beat.now.config in
    let kept : Config = c.in_ok-copy.field-0 in
    let role : c.self.inside.role ≡ Secondary = search rules in
    let taken : takes old config ≡ true =
    ap (λ (n : Node). takes n config) (sym c.self.view_is) ∙ ap (λ (r : Role). is_secondary r && is_newer config c.self.inside.config) role
    ∙ sym c.is_newer.ensures ∙ c.if-not-is_newer.false in
    goes_stored old config c.args.failed.now c.store_other.new.failed c.store_other.new.self _ taken (sym c.if-not-branch.false ∙ c.in_ok-store_other.ensures.stands)
    c.in_ok-store_other.ensures.left
    (c.in_ok-store_other.ensures.node ∙ ap (λ (b : Bool). cond b (stored old (config_record kept)) (in_doubt old (config_record kept))) c.if-not-branch.false
    ∙ ap (λ (k : Config). stored old (config_record k)) c.in_ok-copy.ensures)
    (ap (λ (k : Config). record (the_view c.self-2.inside) { config = k }) c.in_ok-self-inside.ensures ∙ ap (λ (n : Node). installed n config) c.self-2.view_is)
