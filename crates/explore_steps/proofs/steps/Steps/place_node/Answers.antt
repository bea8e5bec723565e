use Rattle.std.proofs.Common.{◌∙◌, ap, [], Some, refl}
use Rattle.std.proofs.lemmas.Result.{IfOk-weaker}
use Rattle.explore_tables.proofs.Tables.{keeps}
use Rattle.explore_steps.proofs.Keeping.{grows_tables}
use Rattle.explore_steps.proofs.Outcomes.{ok_always}
use Rattle.explore_steps.proofs.steps.Steps.place_node.Goals as goal

pub returns-clause-grown : goal.returns-clause-grown
returns-clause-grown c =
    let own = c.args.self.now in
    ok_always c.place-3.result (grows_tables own c.place.new.self own.messages c.place-2.new.self c.place-3.new.self
    (keeps _ _ _ c.place.ensures.grown) (λ number value is. is) (keeps _ _ _ c.place-2.ensures.grown) (keeps _ _ _ c.place-3.ensures.grown))

pub returns-clause-there : goal.returns-clause-there
returns-clause-there c =
    let found = c.in_ok-node.ensures.there in
    IfOk-weaker c.place-3.result _ _
    (λ cell is. (
      found.0,
      record {
        node_at = c.in_ok-node.node;
        list_at = c.in_ok-none.none;
        numbers = [];
        cell_is = is;
        node_is = found.1;
        list_is = c.in_ok-none.ensures.there ∙ ap Some c.new.ensures.items;
        messages_are = refl;
      },
      found.2,
    ))
    c.place-3.ensures.there
