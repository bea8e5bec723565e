-- What a rollback does, after its cut is on the node's disk.
use Rattle.std.proofs.Common.{◌≡◌, ℕ, List, [], true, Option, Ok, length, refl, sym, subst}
use Rattle.rs_optime.specs.declared.optime.OpTime.{OpTime}
use Rattle.node_messages.specs.Rolling.{point_or}
use Rattle.node_messages.proofs.RollLemmas.{no_reason}
use Rattle.set_model.specs.declared.reply.Ignored.{Ignored}
use Rattle.set_model.specs.declared.reply.Reply.TheVariants.{RolledBack}
use Rattle.set_model.specs.Limits.{passes_first}
use Rattle.set_model.specs.Node.{Node}
use Rattle.set_model.specs.Outcome.{replied}
use Rattle.set_model.specs.Points.{log_after}
use Rattle.set_model.specs.Rollback.{common_point, common_told, cut_back, cut_record, roll_back, rollback_reason, rolled_back}
use Rattle.set_model.specs.Stores.{finished, stored}
use Rattle.checker_node.specs.declared.answer.Answer.{Answer}
use Rattle.checker_node.specs.Done.{Does, Replies, next_failed}
use Rattle.checker_node.proofs.DoesLemmas.{does_at_once, does_stored, says}

cut_so : (node mid new : Node) (point : OpTime) (failed left : Option ℕ) (answer : Answer) (removed : ℕ) → true ≡ passes_first failed → mid ≡ stored node (cut_record point)
    → left ≡ next_failed failed → new ≡ cut_back mid point → removed ≡ length (log_after point mid.log) → Replies answer (RolledBack point removed) []
    → Does (rolled_back node point) failed left answer new
cut_so node mid new point failed left answer removed passes stands left_is cut count replies =
    does_stored node (cut_record point) (λ n. finished (replied (RolledBack point (length (log_after point n.log))) (cut_back n point))) failed left left mid new answer passes stands left_is
    (subst (λ (n : Node). Does (finished (replied (RolledBack point (length (log_after point mid.log))) n)) left left answer new) cut
    (does_at_once (replied (RolledBack point (length (log_after point mid.log))) new) left answer new
    (says (RolledBack point (length (log_after point mid.log))) answer new new refl (subst (λ (r : ℕ). Replies answer (RolledBack point r) []) count replies))))

pub rolled_so : (node mid new : Node) (term : ℕ) (after visible point : OpTime) (optimes : List OpTime) (failed left : Option ℕ) (answer : Answer) (removed : ℕ)
    → Ok point ≡ point_or (rollback_reason node term after optimes visible) (common_point node.log after optimes) → true ≡ passes_first failed → mid ≡ stored node (cut_record point)
    → left ≡ next_failed failed → new ≡ cut_back mid point → removed ≡ length (log_after point mid.log) → Replies answer (RolledBack point removed) []
    → Does (common_told node term after optimes visible) failed left answer new
rolled_so node mid new term after visible point optimes failed left answer removed is passes stands left_is cut count replies =
    let found = no_reason (rollback_reason node term after optimes visible) (common_point node.log after optimes) point is in
    subst (λ (reason : Option Ignored). Does (roll_back node (common_point node.log after optimes) reason) failed left answer new) (sym found.0)
    (subst (λ (at : OpTime). Does (rolled_back node at) failed left answer new) found.1
    (cut_so node mid new point failed left answer removed passes stands left_is cut count replies))
