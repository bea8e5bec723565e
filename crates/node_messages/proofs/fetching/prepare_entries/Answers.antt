use Rattle.std.proofs.Common.{◌∙◌, ap, nat_lt, refl}
use Rattle.rs_optime.specs.declared.optime.OpTime.{OpTime}
use Rattle.set_model.specs.Points.{last_point}
use Rattle.node_messages.specs.Fetched.{ignored_for}
use Rattle.node_state.specs.StateView.{StateView}
use Rattle.node_messages.proofs.IgnoredLemmas.{ignored_tells}
use Rattle.node_messages.proofs.fetching.prepare_entries.Goals as goal

pub returns-in-Some-clause-told : goal.returns-in-Some-clause-told
returns-in-Some-clause-told c =
    let old = c.args.state.now.node in
    let term = c.args.message.now.term in
    ignored_tells (nat_lt old.term term) term c.args.message.now.from old old c.args.reply.now c.args.own.role c.in-Some.why c.requires.own.role_is
    (c.in-Some.ensures
    ∙ ap (λ (last : OpTime). ignored_for c.args.own.role last c.args.reply.now) (c.last.ensures ∙ ap (λ (s : StateView). last_point s.node) c.state.view_is))
    refl
