use Rattle.std.proofs.Common.{◌∙◌, ap, refl, sym, subst, nat_lt, ℕ, None}
use Rattle.set_model.specs.Beats.{beat_answered, heard}
use Rattle.set_model.specs.Outcome.{replied}
use Rattle.set_model.specs.declared.reply.Reply.TheVariants as reply
use Rattle.node_messages.specs.Ahead.{ComesTo, view_in_term}
use Rattle.node_state.specs.Ready.{IsReadyMessage}
use Rattle.node_state.specs.declared.turn.MessageContinuation.{MessageContinuation}
use Rattle.node_messages.proofs.BeatLemmas.{answer_is, installs_as, old_is, ready_is}
use Rattle.node_messages.proofs.TakenLemmas.{foretold}
use Rattle.node_messages.proofs.beats.prepare_answer.Goals as goal

pub returns-clause-told : goal.returns-clause-told
returns-clause-told c =
    let node = c.args.state.now.node in
    let term = c.args.message.now.term in
    let from = c.args.message.now.from in
    let raised = nat_lt node.term term in
    foretold _ raised term _ node node
    (subst (λ (t : MessageContinuation). ComesTo t raised term (λ n. beat_answered n from term c.args.beat.now) node node) (sym c.in_ok-told.ensures)
    (answer_is raised node from term c.args.beat.now _ (ap (λ (t : ℕ). nat_lt term t) (sym c.requires.own.term_is) ∙ sym c.is_after.ensures ∙ c.if-is_after.false) (installs_as raised term node c.args.beat.now c.args.own.role c.requires.own.role_is)))
    refl

pub returns-clause-ready : goal.returns-clause-ready
returns-clause-ready c =
    let node = c.args.state.now.node in
    let term = c.args.message.now.term in
    let from = c.args.message.now.from in
    let raised = nat_lt node.term term in
    subst (λ (t : MessageContinuation). IsReadyMessage t (view_in_term raised term c.args.state.now)) (sym c.in_ok-told.ensures)
    (ready_is raised c.args.state.now term c.args.beat.now
    (record { from = from; visible = c.args.beat.now.visible; primary = c.args.beat.now.primary; commit = c.args.beat.now.commit; answer = None }) _ c.requires.place refl c.requires.config (installs_as raised term node c.args.beat.now c.args.own.role c.requires.own.role_is))

pub returns-then-is_after-clause-told : goal.returns-then-is_after-clause-told
returns-then-is_after-clause-told c =
    let node = c.args.state.now.node in
    let term = c.args.message.now.term in
    let from = c.args.message.now.from in
    let raised = nat_lt node.term term in
    foretold _ raised term _ node node
    (old_is raised node term (λ n. heard n from c.args.beat.now (λ m. replied reply.Heard m)) (ap (λ (t : ℕ). nat_lt term t) (sym c.requires.own.term_is) ∙ sym c.is_after.ensures ∙ c.if-is_after.true)) refl
