-- What draining does, after the node's configuration in its term is on its disk.
use Rattle.std.proofs.Common.{◌≡◌, ◌∙◌, ℕ, Bool, true, None, Option, cond, [], ap, sym, subst}
use Rattle.member_config.specs.Config.{in_term}
use Rattle.member_config.specs.declared.config.Config.{Config}
use Rattle.oplog_entry.specs.declared.entry.Op.TheVariants.{Noop}
use Rattle.rs_optime.specs.declared.optime.OpTime.{OpTime}
use Rattle.set_model.specs.declared.reply.Refusal.TheVariants.{NotPrimary}
use Rattle.set_model.specs.declared.reply.Reply.TheVariants as reply
use Rattle.set_model.specs.Changes.{logged}
use Rattle.set_model.specs.Elections.{drain, drained, primary_begun}
use Rattle.set_model.specs.Limits.{passes_first}
use Rattle.set_model.specs.Node.{Node}
use Rattle.set_model.specs.Outcome.{refused}
use Rattle.set_model.specs.Points.{evaluated, next_optime}
use Rattle.set_model.specs.Roles.{is_draining}
use Rattle.set_model.specs.Stores.{config_record, finished, stored, then_stored}
use Rattle.checker_node.specs.declared.answer.Answer.{Answer}
use Rattle.checker_node.specs.Done.{Answers, Does, Replies, next_failed}
use Rattle.checker_node.proofs.DoesLemmas.{does_at_once, does_stored}

begun : (mid leading logs new : Node) (answer : Answer) (noop : OpTime) → leading ≡ drained mid → noop ≡ next_optime leading → logs ≡ logged leading Noop None → new ≡ evaluated logs
    → Replies answer (reply.Primary new.term noop) [] → Answers (primary_begun (drained mid)) answer new
begun mid leading logs new answer noop leading_is noop_is logs_is is replies =
    let whole : new ≡ evaluated (logged leading Noop None) = is ∙ ap evaluated logs_is in
    let said : reply.Primary leading.term (next_optime leading) ≡ answer.reply =
    sym (replies.reply_is ∙ ap (λ (n : Node). reply.Primary n.term noop) whole ∙ ap (λ (at : OpTime). reply.Primary leading.term at) noop_is) in
    subst (λ (n : Node). Answers (primary_begun n) answer new) leading_is
    (λ i. record { reply = said i; node = sym whole i; sent = sym replies.sent_is i })

pub drain_begins : (old : Node) (config kept : Config) (failed left : Option ℕ) (mid leading logs new : Node) (answer : Answer) (noop : OpTime) → is_draining old.role ≡ true → true ≡ passes_first failed
    → config ≡ in_term old.config old.term → kept ≡ config → mid ≡ stored old (config_record kept) → left ≡ next_failed failed
    → leading ≡ drained mid → noop ≡ next_optime leading → logs ≡ logged leading Noop None → new ≡ evaluated logs
    → Replies answer (reply.Primary new.term noop) [] → Does (drain old) failed left answer new
drain_begins old config kept failed left mid leading logs new answer noop draining passes config_is kept_is mid_is left_is leading_is noop_is logs_is is replies =
    subst (λ (b : Bool). Does (cond b (then_stored old (config_record (in_term old.config old.term)) (λ n. finished (primary_begun (drained n)))) (finished (refused NotPrimary old))) failed left answer new) (sym draining)
    (does_stored old (config_record (in_term old.config old.term)) (λ n. finished (primary_begun (drained n))) failed left left mid new answer passes
    (mid_is ∙ ap (λ (k : Config). stored old (config_record k)) (kept_is ∙ config_is)) left_is
    (does_at_once (primary_begun (drained mid)) left answer new (begun mid leading logs new answer noop leading_is noop_is logs_is is replies)))
