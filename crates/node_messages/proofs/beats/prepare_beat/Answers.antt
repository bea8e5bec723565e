use Rattle.std.proofs.Common.{◌∙◌, ap, refl, sym, subst, nat_lt, ℕ, Some}
use Rattle.set_model.specs.Beats.{beat_of, beat_told, heard}
use Rattle.set_model.specs.Outcome.{sending}
use Rattle.set_model.specs.declared.reply.Reply.TheVariants as reply
use Rattle.repl_msg.specs.declared.message.Body.TheVariants as bodies
use Rattle.node_messages.specs.Ahead.{ComesTo, view_in_term}
use Rattle.node_state.specs.Ready.{IsReadyMessage}
use Rattle.node_state.specs.declared.turn.MessageContinuation.{MessageContinuation}
use Rattle.node_messages.proofs.BeatLemmas.{beat_is, installs_as, old_is, ready_is}
use Rattle.node_messages.proofs.TakenLemmas.{foretold}
use Rattle.node_messages.proofs.beats.prepare_beat.Goals as goal

pub returns-clause-told : goal.returns-clause-told
returns-clause-told c =
    let node = c.args.state.now.node in
    let term = c.args.message.now.term in
    let from = c.args.message.now.from in
    let raised = nat_lt node.term term in
    foretold _ raised term _ node node
    (subst (λ (t : MessageContinuation). ComesTo t raised term (λ n. beat_told c.args.next n from term c.args.beat.now) node node) (sym c.in_ok-told.ensures)
    (beat_is raised node c.args.next from term c.args.beat.now _ c.in_ok-answer.answer (ap (λ (t : ℕ). nat_lt term t) (sym c.requires.own.term_is) ∙ sym c.is_after.ensures ∙ c.if-is_after.false) (installs_as raised term node c.args.beat.now c.args.own.role c.requires.own.role_is) c.in_ok-answer.ensures.next c.in_ok-answer.ensures.sent))
    refl

pub returns-clause-ready : goal.returns-clause-ready
returns-clause-ready c =
    let node = c.args.state.now.node in
    let term = c.args.message.now.term in
    let from = c.args.message.now.from in
    let raised = nat_lt node.term term in
    subst (λ (t : MessageContinuation). IsReadyMessage t (view_in_term raised term c.args.state.now)) (sym c.in_ok-told.ensures)
    (ready_is raised c.args.state.now term c.args.beat.now
    (record { from = from; visible = c.args.beat.now.visible; primary = c.args.beat.now.primary; commit = c.args.beat.now.commit; answer = Some c.in_ok-answer.answer }) _ c.requires.place refl c.requires.config (installs_as raised term node c.args.beat.now c.args.own.role c.requires.own.role_is))

pub returns-then-is_after-clause-told : goal.returns-then-is_after-clause-told
returns-then-is_after-clause-told c =
    let node = c.args.state.now.node in
    let term = c.args.message.now.term in
    let from = c.args.message.now.from in
    let raised = nat_lt node.term term in
    foretold _ raised term _ node node
    (old_is raised node term (λ n. heard n from c.args.beat.now (λ m. sending (reply.Replied c.args.next) m from (bodies.HeartbeatReply (beat_of m)))) (ap (λ (t : ℕ). nat_lt term t) (sym c.requires.own.term_is) ∙ sym c.is_after.ensures ∙ c.if-is_after.true)) refl
