use Rattle.std.proofs.Common.{◌∙◌, sym}
use Rattle.checkpoint_store.proofs.MarkedLemmas.{marks_begin, marks_same}
use Rattle.checkpoint_store.proofs.marked.Marked.with.Goals as goal

pub returns-then-kind-eq1 : goal.returns-then-kind-eq1
returns-then-kind-eq1 c = λ records item kind within more marks.
    marks_begin records c.args.place c.args.self.from c.args.self.to c.args.self.begun within item (sym c.if-kind-eq1.true ∙ kind) more marks

pub returns-then-kind-eq3 : goal.returns-then-kind-eq3
returns-then-kind-eq3 c = λ records item kind within more marks. c.ended.ensures records item (sym c.if-kind-eq3.true ∙ kind) within more marks

pub returns : goal.returns
returns c = λ records item kind within more marks.
    marks_same records c.args.place c.args.self.from c.args.self.to c.args.self.begun within item c.args.kind kind c.if-kind-eq1.false (λ is _. c.if-kind-eq3.false is) more marks
