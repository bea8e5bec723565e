use Rattle.std.proofs.Common.{IsTrue, IsFalse, rules}
use Rattle.std.proofs.lemmas.Result.{IfOk-weaker}
use Rattle.explore_tables.proofs.Tables.{keeps}
use Rattle.explore_steps.specs.Keeping.{Grows}
use Rattle.explore_steps.specs.Tables.{tables_of}
use Rattle.explore_steps.proofs.Growth.{cell_grows, numbers_grow}
use Rattle.explore_steps.proofs.Keeping.{grows_tables}
use Rattle.explore_steps.proofs.Outcomes.{ok_always}
use Rattle.explore_steps.proofs.Reading.{addition_more, addition_same, cell_within, node_at_pair}
use Rattle.explore_steps.proofs.steps.Steps.added.Goals as goal

pub returns-then-absorbs-clause-added : goal.returns-then-absorbs-clause-added
returns-then-absorbs-clause-added c sent there =
    let had : IsTrue c.absorbs.result = search rules in
    let cell = c.requires.cell in
    addition_same (tables_of c.args.self.now) c.args.cell cell.0 cell.1 sent cell.2 (c.absorbs.ensures.same had cell.0 cell.1 sent cell.2 there)

pub node_number-node-requires : goal.node_number-node-requires
node_number-node-requires c = cell_within (tables_of c.args.self.now) c.args.cell c.requires.cell

pub returns-clause-grown : goal.returns-clause-grown
returns-clause-grown c =
    let own = c.args.self.now in
    ok_always c.place-2.result (grows_tables own own.nodes own.messages c.place.new.self c.place-2.new.self
    (λ number value is. is) (λ number value is. is) (keeps _ _ _ c.place.ensures.grown) (keeps _ _ _ c.place-2.ensures.grown))

pub returns-clause-added : goal.returns-clause-added
returns-clause-added c =
    let own = c.args.self.now in
    let later = record own { lists = c.place.new.self; cells = c.place-2.new.self } in
    let grown : Grows own later = grows_tables own own.nodes own.messages c.place.new.self c.place-2.new.self
    (λ number value is. is) (λ number value is. is) (keeps _ _ _ c.place.ensures.grown) (keeps _ _ _ c.place-2.ensures.grown) in
    let not_had : IsFalse c.absorbs.result = search rules in
    let cell = c.requires.cell in
    IfOk-weaker c.place-2.result _ _
    (λ new cell_is sent there. addition_more (tables_of later) c.args.cell new c.node_number-node.result c.in_ok-list.list c.live.result.now _ c.args.message sent cell.0 cell.1
    (cell_grows (tables_of own) (tables_of later) grown.tables c.args.cell cell.0 cell.1 cell.2)
    (numbers_grow (tables_of own) (tables_of later) grown.tables c.live.result.now cell.1 (c.live.ensures cell.0 cell.1 cell.2))
    c.in_ok-live.ensures there (c.absorbs.ensures.other not_had cell.0 cell.1 sent cell.2 there)
    (node_at_pair (tables_of own) c.args.cell (c.node_number-node.result, c.node_number-node.ensures.0) c.node_number-node.ensures.1 cell.0 cell.1 cell.2)
    c.in_ok-list.ensures.there cell_is)
    c.place-2.ensures.there
