use Rattle.std.proofs.Common.{◌≡◌, ◌∙◌, ℕ, Bool, Option, ap, cond, subst, sym}
use Rattle.repl_msg.specs.Kept.{kept}
use Rattle.set_model.specs.Disk.{came_back, has_more, recovered}
use Rattle.set_model.specs.Node.{Node}
use Rattle.set_model.specs.Rollback.{cut_record}
use Rattle.set_model.specs.Stores.{in_doubt, stored}
use Rattle.checker_node.specs.Done.{Answers, Does}
use Rattle.checker_node.proofs.DiskLemmas.{of_answer, recovered_done, recovered_whole}
use Rattle.checker_node.proofs.node.Node.recover.Goals.{then-has_more+in_ok-store_other+else-not-branch, else-has_more}
use Rattle.checker_node.proofs.node.Node.recover.Goals as goal

pub returns : goal.returns
returns c =
    let node = c.args.self.now in
    let has : has_more (kept node.records) ≡ c.has_more.result = sym (c.has_more.ensures ∙ ap (λ (n : Node). has_more (kept n.records)) c.self.view_is) in
    elim c.if-has_more.branch [
      | then-has_more+in_ok-store_other+else-not-branch w ↦
          let point = w.point-point.result in
          of_answer c.come_back.result _ _
          (λ answer is. recovered_done node point c.args.failed.now c.if-has_more.failed answer c.if-has_more.self c.come_back.new.self (has ∙ w.if-has_more.true)
          (w.point-point.ensures ∙ ap (λ (n : Node). (kept n.records).point) c.self.view_is) (sym w.if-not-branch.false ∙ w.in_ok-store_other.ensures.stands)
          (w.self-is ∙ w.in_ok-store_other.ensures.node ∙ ap (λ (b : Bool). cond b (stored node (cut_record point)) (in_doubt node (cut_record point))) w.if-not-branch.false)
          (w.failed-is ∙ w.in_ok-store_other.ensures.left) is)
          c.come_back.ensures
      | else-has_more w ↦
          of_answer c.come_back.result _ _
          (λ answer is. subst (λ (left : Option ℕ). Does (recovered node) c.args.failed.now left answer c.come_back.new.self) (sym w.failed-is)
          (recovered_whole node c.args.failed.now answer c.come_back.new.self (has ∙ w.if-has_more.false)
          (subst (λ (n : Node). Answers (came_back n) answer c.come_back.new.self) w.self-is is)))
          c.come_back.ensures
    ]
