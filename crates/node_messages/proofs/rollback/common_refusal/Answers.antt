use Rattle.std.proofs.Common.{◌≡◌, ◌∙◌, ◌<◌, ◌≤◌, ap, subst, nat_lt, length, ℕ}
use Rattle.oplog_entry.specs.Visible.{log_up_to}
use Rattle.repl_msg.specs.Logs.{log_after}
use Rattle.node_state.specs.StateView.{StateView}
use Rattle.node_messages.proofs.TellLemmas.{refused_many, refused_few, told_after}
use Rattle.node_messages.proofs.rollback.common_refusal.Goals as goal

pub returns-then-count_between-gt-MOST_OPTIMES-clause-refusal : goal.returns-then-count_between-gt-MOST_OPTIMES-clause-refusal
returns-then-count_between-gt-MOST_OPTIMES-clause-refusal c =
    let node = c.args.state.now.node in
    let count : c.count_between.result ≡ length (log_after c.args.after (log_up_to c.in_term-own.result.visible node.log)) =
    c.count_between.ensures.count ∙ ap (λ (s : StateView). length (log_after c.args.after (log_up_to c.in_term-own.result.visible s.node.log))) c.state.view_is in
    refused_many node c.args.term c.args.after (log_after c.args.after (log_up_to c.in_term-own.result.visible node.log))
    (told_after (nat_lt node.term c.args.term) c.args.term node c.in_term-own.result.visible c.args.after c.recall_sound.ensures.sound.oplog c.in_term-own.ensures.visible_is)
    (subst (λ (n : ℕ). 20000 < n) count c.if-count_between-gt-MOST_OPTIMES.true)

pub returns-clause-refusal : goal.returns-clause-refusal
returns-clause-refusal c =
    let node = c.args.state.now.node in
    let count : c.count_between.result ≡ length (log_after c.args.after (log_up_to c.in_term-own.result.visible node.log)) =
    c.count_between.ensures.count ∙ ap (λ (s : StateView). length (log_after c.args.after (log_up_to c.in_term-own.result.visible s.node.log))) c.state.view_is in
    refused_few node c.args.term c.args.after (log_after c.args.after (log_up_to c.in_term-own.result.visible node.log))
    (told_after (nat_lt node.term c.args.term) c.args.term node c.in_term-own.result.visible c.args.after c.recall_sound.ensures.sound.oplog c.in_term-own.ensures.visible_is)
    (subst (λ (n : ℕ). n ≤ 20000) count c.if-count_between-gt-MOST_OPTIMES.false)
