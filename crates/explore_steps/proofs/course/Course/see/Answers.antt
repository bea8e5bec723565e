use Rattle.std.proofs.Common.{◌≡◌, ◌∙◌, ◌<◌, ◌+◌, ap, sym, subst, length, List, ℕ, arith}
use Rattle.explore_words.specs.declared.question.Want.{Want}
use Rattle.explore_steps.specs.declared.course.Course.{Course}
use Rattle.explore_steps.specs.Tables.{AreOf, tables_of}
use Rattle.explore_steps.proofs.CourseLemmas.{see_goes, see_stops, told_seen}
use Rattle.explore_steps.proofs.Growth.{grow_on, of_grows}
use Rattle.explore_steps.proofs.Numbers.{there_at}
use Rattle.explore_steps.proofs.course.Course.see.Goals as goal

pub is_seen-requires-clause-come : goal.is_seen-requires-clause-come
is_seen-requires-clause-come c = (
  c.requires.come.0,
  c.requires.come.1,
  subst (λ (cells : List ℕ). AreOf (tables_of c.loop-self.steps) cells c.requires.come.0) (sym (c.deref.ensures.value ∙ ap (λ (s : Course). s.cells.items) c.loop-self.invariant.same))
      (of_grows (tables_of c.args.steps.now) (tables_of c.loop-self.steps) c.loop-self.invariant.grown.tables c.args.self.now.cells.items c.requires.come.0 c.requires.come.2),
)

pub returns-then-not-branch-clause-seen : goal.returns-then-not-branch-clause-seen
returns-then-not-branch-clause-seen c world reached are =
    let many : length c.as_slice-wants.result.now ≡ length c.args.question.now.wants = ap (λ (l : List Want). length l) c.as_slice-wants.ensures in
    let within : c.loop-self.self.met < length c.args.question.now.wants = omega (arith, many) in
    let want = there_at c.args.question.now.wants c.loop-self.self.met within in
    let cells_same : c.deref.result.now ≡ c.args.self.now.cells.items = c.deref.ensures.value ∙ ap (λ (s : Course). s.cells.items) c.loop-self.invariant.same in
    let here : AreOf (tables_of c.loop-self.steps) c.deref.result.now world = subst (λ (cells : List ℕ). AreOf (tables_of c.loop-self.steps) cells world) (sym cells_same)
    (of_grows (tables_of c.args.steps.now) (tables_of c.loop-self.steps) c.loop-self.invariant.grown.tables c.args.self.now.cells.items world are) in
    sym (see_stops c.args.question.now world c.loop-self.self.met want.0 want.1
    (told_seen c.args.question.now (tables_of c.loop-self.steps) c.deref.result.now world c.requires.put.wants reached here c.loop-self.self.met want.0 c.in_ok-is_seen.field-0 want.1
    (c.in_ok-is_seen.ensures.seen want.0 want.1) ∙ c.if-not-branch.true))
    ∙ c.loop-self.invariant.seen world reached are

pub loop-self-preserved : goal.loop-self-preserved
loop-self-preserved c = record {
  same = ap (λ (s : Course). record s { met = c.loop-self.self.met + 1 }) c.loop-self.invariant.same;
  grown = record {
    tables = grow_on (tables_of c.args.steps.now) (tables_of c.loop-self.steps) (tables_of c.is_seen.new.self) c.loop-self.invariant.grown.tables c.in_ok-is_seen.ensures.grown.tables;
    kept = c.in_ok-is_seen.ensures.grown.kept;
  };
  met = (let many : length c.as_slice-wants.result.now ≡ length c.args.question.now.wants = ap (λ (l : List Want). length l) c.as_slice-wants.ensures in omega (arith, many));
  seen = λ world reached are.
      (let many : length c.as_slice-wants.result.now ≡ length c.args.question.now.wants = ap (λ (l : List Want). length l) c.as_slice-wants.ensures in
      let within : c.loop-self.self.met < length c.args.question.now.wants = omega (arith, many) in
      let want = there_at c.args.question.now.wants c.loop-self.self.met within in
      let cells_same : c.deref.result.now ≡ c.args.self.now.cells.items = c.deref.ensures.value ∙ ap (λ (s : Course). s.cells.items) c.loop-self.invariant.same in
      let here : AreOf (tables_of c.loop-self.steps) c.deref.result.now world = subst (λ (cells : List ℕ). AreOf (tables_of c.loop-self.steps) cells world) (sym cells_same)
      (of_grows (tables_of c.args.steps.now) (tables_of c.loop-self.steps) c.loop-self.invariant.grown.tables c.args.self.now.cells.items world are) in
      sym (see_goes c.args.question.now world c.loop-self.self.met want.0 want.1
      (told_seen c.args.question.now (tables_of c.loop-self.steps) c.deref.result.now world c.requires.put.wants reached here c.loop-self.self.met want.0 c.in_ok-is_seen.field-0 want.1
      (c.in_ok-is_seen.ensures.seen want.0 want.1) ∙ c.if-not-branch.false))
      ∙ c.loop-self.invariant.seen world reached are);
}
