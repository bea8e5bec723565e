use Rattle.std.proofs.Common.{◌∙◌, ap, refl, sym, subst, List, [], ◌∷◌, ◌++◌, ◌+◌, ℕ, length, take, arith}
use Rattle.std.proofs.lemmas.List.{take_all}
use Rattle.std.proofs.lemmas.Option.{slice_get_read}
use Rattle.set_model.specs.Node.{Node}
use Rattle.explore_laws.specs.Alike.{AlikeNodes}
use Rattle.explore_steps.specs.declared.course.Course.{Course}
use Rattle.explore_steps.specs.Courses.{of_nodes}
use Rattle.explore_steps.specs.Tables.{AreOf, tables_of}
use Rattle.explore_steps.proofs.BeginLemmas.{of_more, of_none}
use Rattle.explore_steps.proofs.CourseLemmas.{take_next}
use Rattle.explore_steps.proofs.Growth.{grow_itself, grow_on}
use Rattle.explore_steps.proofs.course.Course.place_nodes.Goals as goal

pub loop-node-init : goal.loop-node-init
loop-node-init c = record {
  grown = record { tables = grow_itself (tables_of c.args.steps.now); kept = λ question kept. kept };
  same = refl;
  placed = subst (λ (cells : List ℕ). AreOf (tables_of c.args.steps.now) cells (of_nodes [])) (sym c.requires) (of_none (tables_of c.args.steps.now));
}

pub loop-node-preserved : goal.loop-node-preserved
loop-node-preserved c =
    let items = c.nodes-node-items.result.now in
    let there = slice_get_read items (length items) c.loop-node.node-index c.node-item.result refl c.loop-node-test.true c.node-item.is in
    let found = c.in_ok-cell.ensures.there in
    record {
      grown = record {
        tables = grow_on (tables_of c.args.steps.now) (tables_of c.loop-node.steps) (tables_of c.place_node.new.self) c.loop-node.invariant.grown.tables c.in_ok-cell.ensures.grown.tables;
        kept = λ question kept. c.in_ok-cell.ensures.grown.kept question (c.loop-node.invariant.grown.kept question kept);
      };
      same = ap (λ (s : Course). record s { cells = c.push.new.self }) c.loop-node.invariant.same;
      placed =
          subst (λ (cells : List ℕ). AreOf (tables_of c.place_node.new.self) cells (of_nodes (take (c.loop-node.node-index + 1) items))) (sym c.in_ok-push.ensures.items)
          (subst (λ (nodes : List Node). AreOf (tables_of c.place_node.new.self) (c.loop-node.self.cells.items ++ c.in_ok-cell.cell ∷ []) (of_nodes nodes)) (sym (take_next items c.loop-node.node-index c.node-item.result there))
          (of_more (tables_of c.loop-node.steps) (tables_of c.place_node.new.self) c.in_ok-cell.ensures.grown.tables c.loop-node.self.cells.items (take c.loop-node.node-index items) c.loop-node.invariant.placed
          c.node-item.result found.0 c.in_ok-cell.cell found.1 (subst (λ (n : Node). AlikeNodes n found.0) c.in_ok-copy.ensures found.2)));
    }

pub returns-clause-placed : goal.returns-clause-placed
returns-clause-placed c =
    subst (λ (nodes : List Node). AreOf (tables_of c.loop-node.steps) c.loop-node.self.cells.items (of_nodes nodes))
    (take_all c.loop-node.node-index c.nodes-node-items.result.now (omega arith) ∙ c.nodes-node-items.ensures) c.loop-node.invariant.placed
