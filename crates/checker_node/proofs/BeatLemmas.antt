-- What a heartbeat does, whether its configuration is stored first or not.
use Rattle.std.proofs.Common.{◌≡◌, ◌∙◌, ◌≤◌, arith, ℕ, zero, suc, Bool, true, false, cond, ◌&&◌, Option, None, Some, Result, Ok, Err, IfOk, [], ap, sym, subst, refl}
use Rattle.std.specs.Prelude.{nat_lt}
use Rattle.member_config.specs.Config.{is_newer}
use Rattle.member_config.specs.declared.config.Config.{Config}
use Rattle.repl_msg.specs.declared.message.Beat.{Beat}
use Rattle.repl_msg.specs.declared.message.Body.TheVariants as bodies
use Rattle.set_model.specs.declared.reply.Ignored.TheVariants.{OldTerm}
use Rattle.set_model.specs.declared.reply.Refusal.TheVariants.{DiskFailed}
use Rattle.set_model.specs.declared.reply.Reply.TheVariants.{Refused, Replied}
use Rattle.set_model.specs.Beats.{beat_of, beat_told, commit_heard, given_way, heard, unless_old}
use Rattle.set_model.specs.Changes.{heard_of, installed}
use Rattle.set_model.specs.Limits.{passes_first}
use Rattle.set_model.specs.Node.{Node}
use Rattle.set_model.specs.Outcome.{Outcome, ignored, sending}
use Rattle.set_model.specs.Roles.{is_secondary}
use Rattle.set_model.specs.Stores.{Plan, config_record, finished, stored, then_stored}
use Rattle.checker_node.specs.declared.answer.Answer.{Answer}
use Rattle.checker_node.specs.Done.{Answers, Does, Replies, next_failed}
use Rattle.checker_node.specs.Hearing.{Goes, Hears, Installs}
use Rattle.checker_node.proofs.DoesLemmas.{says}

-- ---- the configuration

-- a secondary takes it
abbrev pub takes : Node → Config → Bool
takes old config = is_secondary old.role && is_newer config old.config

abbrev storing_it : Node → Config → (Node → Outcome) → Plan
storing_it old config next = then_stored old (config_record config) (λ n. finished (next (installed n config)))

stores_it : (old : Node) (config : Config) (failed : Option ℕ) → true ≡ passes_first failed
    → Goes (storing_it old config) failed (next_failed failed) true (installed (stored old (config_record config)) config)
stores_it old config None passes = record { on = λ stands next. refl; off = λ stands. absurd (cc stands); left_is = λ next. refl }
stores_it old config (Some zero) passes = absurd (cc passes)
stores_it old config (Some (suc number)) passes = record { on = λ stands next. refl; off = λ stands. absurd (cc stands); left_is = λ next. refl }

pub goes_stored : (old : Node) (config : Config) (failed left : Option ℕ) (mid new : Node) → takes old config ≡ true → true ≡ passes_first failed
    → left ≡ next_failed failed → mid ≡ stored old (config_record config) → new ≡ installed mid config → Installs old config failed left true new
goes_stored old config failed left mid new taken passes left_is mid_is is =
    subst (λ (b : Bool). Goes (λ next. cond b (storing_it old config next) (finished (next old))) failed left true new) (sym taken)
    (subst (λ (l : Option ℕ). Goes (storing_it old config) failed l true new) (sym left_is)
    (subst (λ (n : Node). Goes (storing_it old config) failed (next_failed failed) true n) (sym (is ∙ ap (λ (n : Node). installed n config) mid_is))
    (stores_it old config failed passes)))

-- ---- what is heard

pub hears_on : (old way : Node) (from : ℕ) (beat : Beat) (failed left : Option ℕ) (mid known new : Node) → way ≡ given_way old beat
    → Installs way beat.config failed left true mid → known ≡ heard_of mid from beat.visible beat.primary → new ≡ commit_heard known beat
    → Hears old from beat failed left true new
hears_on old way from beat failed left mid known new way_is installs known_is is =
    let goes : Installs (given_way old beat) beat.config failed left true mid = subst (λ (n : Node). Installs n beat.config failed left true mid) way_is installs in
    let whole : new ≡ commit_heard (heard_of mid from beat.visible beat.primary) beat = is ∙ ap (λ (n : Node). commit_heard n beat) known_is in
    record {
      on = λ stands next. goes.on stands (λ n. next (commit_heard (heard_of n from beat.visible beat.primary) beat)) ∙ ap next (sym whole);
      off = λ stands. absurd (cc stands);
      left_is = λ next. goes.left_is (λ n. next (commit_heard (heard_of n from beat.visible beat.primary) beat));
    }

pub hears_not : (old way : Node) (from : ℕ) (beat : Beat) (failed left : Option ℕ) (new : Node) → way ≡ given_way old beat
    → Installs way beat.config failed left false new → Hears old from beat failed left false new
hears_not old way from beat failed left new way_is installs =
    let goes : Installs (given_way old beat) beat.config failed left false new = subst (λ (n : Node). Installs n beat.config failed left false new) way_is installs in
    record {
      on = λ stands. absurd (cc stands);
      off = λ stands next. goes.off stands (λ n. next (commit_heard (heard_of n from beat.visible beat.primary) beat));
      left_is = λ next. goes.left_is (λ n. next (commit_heard (heard_of n from beat.visible beat.primary) beat));
    }

-- ---- what is answered

not_old : (node : Node) (term : ℕ) (plan : Plan) (failed left : Option ℕ) (answer : Answer) (new : Node) → node.term ≤ term
    → Does plan failed left answer new → Does (unless_old node term plan) failed left answer new
not_old node term plan failed left answer new recent does =
    let test : nat_lt term node.term ≡ false = grind arith in
    subst (λ (b : Bool). Does (cond b (finished (ignored OldTerm node)) plan) failed left answer new) (sym test) does

pub does_heard : (old : Node) (from term : ℕ) (beat : Beat) (say : Node → Outcome) (failed left : Option ℕ) (answer : Answer) (new : Node) → old.term ≤ term
    → Hears old from beat failed left true new → Answers (say new) answer new → Does (unless_old old term (heard old from beat say)) failed left answer new
does_heard old from term beat say failed left answer new recent hears is =
    not_old old term (heard old from beat say) failed left answer new recent (record { outcome = hears.on refl say ∙ is; left_is = hears.left_is say })

pub does_unheard : (old : Node) (from term : ℕ) (beat : Beat) (say : Node → Outcome) (failed left : Option ℕ) (answer : Answer) (new : Node) → old.term ≤ term
    → Hears old from beat failed left false new → Replies answer (Refused DiskFailed) [] → Does (unless_old old term (heard old from beat say)) failed left answer new
does_unheard old from term beat say failed left answer new recent hears replies =
    not_old old term (heard old from beat say) failed left answer new recent
    (record { outcome = hears.off refl say ∙ says (Refused DiskFailed) answer new new refl replies; left_is = hears.left_is say })

-- the heartbeat is told, unless there is no memory for the answer
pub told_heard : {E : Type 0} (next : ℕ) (result : Result Answer E) (old : Node) (from term : ℕ) (beat own : Beat) (failed left : Option ℕ) (new : Node) → old.term ≤ term
    → Hears old from beat failed left true new → own ≡ beat_of new
    → IfOk result (λ answer. Answers (sending (Replied next) new from (bodies.HeartbeatReply own)) answer new)
    → IfOk result (λ answer. Does (beat_told next old from term beat) failed left answer new)
told_heard next (Err error) old from term beat own failed left new recent hears own_is is = tt
told_heard next (Ok answer) old from term beat own failed left new recent hears own_is is =
    does_heard old from term beat (λ n. sending (Replied next) n from (bodies.HeartbeatReply (beat_of n))) failed left answer new recent hears
    (subst (λ (b : Beat). Answers (sending (Replied next) new from (bodies.HeartbeatReply b)) answer new) own_is is)
