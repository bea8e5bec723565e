use Rattle.std.proofs.Common.{◌≡◌, ℕ, Option, None, Some, arith, subst}
use Rattle.std.specs.Prelude.{IsSome}
use Rattle.checkpoint_store.specs.Marked.{Marks}
use Rattle.checkpoint_store.proofs.MarkedLemmas.{marks_end, marks_same}
use Rattle.checkpoint_store.proofs.marked.Marked.ended.Goals as goal

pub returns-in-Some : goal.returns-in-Some
returns-in-Some c = λ records item kind within more marks.
    marks_end records c.args.place c.args.self.from c.args.self.to c.in-Some.from within item kind more
    (subst (λ (o : Option ℕ). Marks records c.args.place c.args.self.from c.args.self.to o) c.in-Some.is marks)

pub returns-in-None : goal.returns-in-None
returns-in-None c = λ records item kind within more marks.
    marks_same records c.args.place c.args.self.from c.args.self.to c.args.self.begun within item 3 kind (λ is. omega (arith, is)) (λ _ some. not_some _ c.in-None.is some) more marks
  where
    not_some : (o : Option ℕ) → o ≡ None → IsSome o → ⊥
    not_some None is some = cc
    not_some (Some x) is some = cc
