-- What a plan does, store by store.
use Rattle.std.proofs.Common.{◌≡◌, ℕ, zero, suc, true, false, [], Option, None, Some, Result, IfOk, refl, sym, subst}
use Rattle.std.specs.declared.alloc.AllocError.{AllocError}
use Rattle.repl_msg.specs.declared.message.Body.{Body}
use Rattle.set_model.specs.declared.reply.Refusal.TheVariants.{DiskFailed}
use Rattle.set_model.specs.declared.reply.Reply.{Reply}
use Rattle.set_model.specs.declared.reply.Reply.TheVariants.{Refused}
use Rattle.set_model.specs.declared.store.Store.{Store}
use Rattle.set_model.specs.Limits.{passes_first}
use Rattle.set_model.specs.Node.{Node}
use Rattle.set_model.specs.Outcome.{Outcome, replied, sending}
use Rattle.set_model.specs.Stores.{Plan, finished, storing, stored, in_doubt, then_stored}
use Rattle.checker_node.specs.declared.answer.Answer.{Answer}
use Rattle.checker_node.specs.Done.{Answers, Does, Replies, next_failed}

-- ---- a reply alone

pub says : (said : Reply) (answer : Answer) (one new : Node) → new ≡ one → Replies answer said [] → Answers (replied said one) answer new
says said answer one new is replies = λ i. record { reply = sym replies.reply_is i; node = sym is i; sent = sym replies.sent_is i }

-- ---- one message

-- it is sent by a node that is as it was
pub sends_so : (said : Reply) (to : ℕ) (body other : Body) (node new : Node) (result : Result Answer AllocError) → new ≡ node → body ≡ other
    → IfOk result (λ answer. Answers (sending said new to body) answer new) → IfOk result (λ answer. Answers (sending said node to other) answer new)
sends_so said to body other node new result is same told =
    subst (λ (n : Node). IfOk result (λ answer. Answers (sending said n to other) answer new)) is
    (subst (λ (b : Body). IfOk result (λ answer. Answers (sending said new to b) answer new)) same told)

-- ---- the next store

pub does_after : (broken : Node) (rest : Plan) (failed left : Option ℕ) (answer : Answer) (new : Node) → true ≡ passes_first failed
    → Does rest (next_failed failed) left answer new → Does (storing broken rest) failed left answer new
does_after broken rest None left answer new passes does = record { outcome = does.outcome; left_is = does.left_is }
does_after broken rest (Some zero) left answer new passes does = absurd (cc passes)
does_after broken rest (Some (suc number)) left answer new passes does = record { outcome = does.outcome; left_is = does.left_is }

pub does_no_more : (broken : Node) (rest : Plan) (failed left : Option ℕ) (answer : Answer) (new : Node) → false ≡ passes_first failed → new ≡ broken → left ≡ next_failed failed
    → Replies answer (Refused DiskFailed) [] → Does (storing broken rest) failed left answer new
does_no_more broken rest None left answer new fails is left_is replies = absurd (cc fails)
does_no_more broken rest (Some zero) left answer new fails is left_is replies = record { outcome = says (Refused DiskFailed) answer broken new is replies; left_is = left_is }
does_no_more broken rest (Some (suc number)) left answer new fails is left_is replies = absurd (cc fails)

-- ---- something is stored

-- the store stands, and what follows is done
pub does_stored : (node : Node) (item : Store) (next : Node → Plan) (failed after left : Option ℕ) (mid new : Node) (answer : Answer)
    → true ≡ passes_first failed → mid ≡ stored node item → after ≡ next_failed failed → Does (next mid) after left answer new
    → Does (then_stored node item next) failed left answer new
does_stored node item next failed after left mid new answer passes is after_is does =
    does_after (in_doubt node item) (next (stored node item)) failed left answer new passes
    (subst (λ (n : Node). Does (next n) (next_failed failed) left answer new) is
    (subst (λ (a : Option ℕ). Does (next mid) a left answer new) after_is does))

-- it fails, and nothing follows
pub does_broken : (node : Node) (item : Store) (next : Node → Plan) (failed left : Option ℕ) (new : Node) (answer : Answer)
    → false ≡ passes_first failed → new ≡ in_doubt node item → left ≡ next_failed failed → Replies answer (Refused DiskFailed) []
    → Does (then_stored node item next) failed left answer new
does_broken node item next failed left new answer fails is left_is replies =
    does_no_more (in_doubt node item) (next (stored node item)) failed left answer new fails is left_is replies

-- ---- at once

pub does_at_once : (outcome : Outcome) (failed : Option ℕ) (answer : Answer) (new : Node) → Answers outcome answer new → Does (finished outcome) failed failed answer new
does_at_once outcome failed answer new is = record { outcome = is; left_is = refl }
