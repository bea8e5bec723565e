use Rattle.std.proofs.Common.{◌≡◌, ◌∙◌, ap, subst, sym, nat_lt, true, false}
use Rattle.rs_optime.specs.declared.optime.OpTime.{OpTime}
use Rattle.set_model.specs.declared.role.Role.TheVariants.{Secondary}
use Rattle.set_model.specs.Points.{last_point, visible_point}
use Rattle.node_messages.specs.Ahead.{IsInTerm}
use Rattle.node_state.specs.StateView.{StateView}
use Rattle.node_messages.proofs.ForeseenLemmas.{in_higher_term, in_own_term}
use Rattle.node_messages.proofs.preparing.in_term.Goals as goal

pub returns-then-is_below : goal.returns-then-is_below
returns-then-is_below c =
    let node = c.args.state.now.node in
    let higher : nat_lt node.term c.args.term ≡ true =
    sym c.is_below.ensures ∙ c.if-is_below.true in
    subst (λ (visible : OpTime). IsInTerm (record { term = c.args.term; role = Secondary; visible = visible }) c.args.term node)
    (sym (c.last.ensures ∙ ap (λ (s : StateView). last_point s.node) c.state.view_is)) (in_higher_term node c.args.term higher)

pub returns : goal.returns
returns c =
    let node = c.args.state.now.node in
    let own : nat_lt node.term c.args.term ≡ false =
    sym c.is_below.ensures ∙ c.if-is_below.false in
    let is = in_own_term node c.args.term own in
    record {
      term_is = ap (λ (s : StateView). s.node.term) c.state.view_is ∙ is.term_is;
      role_is = ap (λ (s : StateView). s.node.role) c.state.view_is ∙ is.role_is;
      visible_is = c.visible.ensures ∙ ap (λ (s : StateView). visible_point s.node) c.state.view_is ∙ is.visible_is;
    }
