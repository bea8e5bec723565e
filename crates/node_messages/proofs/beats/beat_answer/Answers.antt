use Rattle.std.proofs.Common.{◌∙◌, ap, cond, nat_lt, [], ◌∷◌}
use Rattle.repl_msg.specs.declared.message.Message.{Message}
use Rattle.set_model.specs.Roles.{is_primary}
use Rattle.node_messages.proofs.BeatLemmas.{installs_as, learnt_as, sent_in}
use Rattle.node_messages.proofs.beats.beat_answer.Goals as goal

pub returns-clause-sent : goal.returns-clause-sent
returns-clause-sent c =
    let node = c.args.state.now.node in
    let term = c.args.message.now.term in
    let raised = nat_lt node.term term in
    let beat = c.args.beat.now in
    c.in_ok-sent.ensures
    ∙ ap (λ (m : Message). m ∷ []) (sent_in raised term c.args.message.now.from node beat c.in_ok-config.config c.commit_after-commit.result c.args.own.visible c.leads-primary.result c.args.own.term
    c.requires.own.term_is
    (c.in_ok-config.ensures ∙ ap (λ b. cond b beat.config node.config) (installs_as raised term node beat c.args.own.role c.requires.own.role_is))
    (c.commit_after-commit.ensures ∙ learnt_as raised term node beat.commit c.args.own.role c.requires.own.role_is)
    c.requires.own.visible_is (c.leads-primary.ensures ∙ ap is_primary c.requires.own.role_is))
