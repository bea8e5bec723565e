use Rattle.std.proofs.Common.{◌≡◌, ◌∙◌, ◌++◌, ◌∷◌, [], List, ap, inr, length, nat_lt, not, ◌==◌, refl, rules, slice_get}
use Rattle.explore_tables.proofs.Tables.{get_added, keeps}
use Rattle.explore_steps.specs.declared.deed.Step.{Step}
use Rattle.explore_steps.specs.Keeping.{Grows}
use Rattle.explore_steps.specs.Tables.{tables_of}
use Rattle.explore_steps.proofs.Keeping.{grows_steps}
use Rattle.explore_steps.proofs.Moving.{move_is}
use Rattle.explore_steps.proofs.steps.Steps.settle.Goals as goal

pub returns-clause-grown : goal.returns-clause-grown
returns-clause-grown c =
    let own = c.args.self.now in
    grows_steps own (record own { steps = c.push.new.self }) c.place.new.self c.place-2.new.self (keeps _ _ _ c.place.ensures.grown) (keeps _ _ _ c.place-2.ensures.grown)
    (keeps _ _ _ (inr c.in_ok-push.ensures.items))

pub returns-clause-step : goal.returns-clause-step
returns-clause-step c deed node after messages deed_is after_is is =
    let own = c.args.self.now in
    let later = record own { lists = c.place.new.self; cells = c.place-2.new.self; steps = c.push.new.self } in
    let grown : Grows own later = grows_steps own (record own { steps = c.push.new.self }) c.place.new.self c.place-2.new.self (keeps _ _ _ c.place.ensures.grown)
    (keeps _ _ _ c.place-2.ensures.grown) (keeps _ _ _ (inr c.in_ok-push.ensures.items)) in
    let step : Step = record { cell = c.in_ok-cell.cell; deed = c.args.deed; moves = not (c.node_after-node.result == c.node_number.result); kills = nat_lt c.len.result (length c.live.result.now) } in
    let number_is : c.in_ok-number.number ≡ length own.steps.items = search rules in
    let node_is = c.node_after-node.ensures deed deed_is in
    let len_is : c.len.result ≡ length c.in_ok-live.live.items = search rules in (
      step,
      ap (λ (l : List Step). slice_get l c.in_ok-number.number) c.in_ok-push.ensures.items ∙ ap (slice_get (own.steps.items ++ step ∷ [])) number_is
          ∙ get_added own.steps.items step,
      refl,
      move_is (tables_of own) (tables_of later) grown.tables c.args.cell step node after messages is c.get.result.now c.node_after-node.result c.node_number.result
          c.in_ok-list.list c.node_number.ensures.0 c.in_ok-live.live.items c.live.result.now (ap (slice_get own.nodes) node_is ∙ after_is) c.get.ensures c.node_number.ensures.1
          (c.in_ok-live.ensures node messages is) (c.live.ensures node messages is) c.in_ok-list.ensures.there c.in_ok-cell.ensures.there refl (ap (λ n. nat_lt n (length c.live.result.now)) len_is),
    )
