use Rattle.std.proofs.Common.{◌≡◌, ◌∙◌, ◌++◌, ◌∷◌, [], List, ap, inr, length, refl, rules, slice_get}
use Rattle.explore_tables.proofs.Tables.{get_added, keeps}
use Rattle.explore_steps.specs.declared.deed.Deed.{Deed}
use Rattle.explore_steps.proofs.Keeping.{grows_deeds}
use Rattle.explore_steps.proofs.steps.Steps.add_deed.Goals as goal

pub returns-clause-grown : goal.returns-clause-grown
returns-clause-grown c =
    let own = c.args.self.now in
    grows_deeds own (record own { deeds = c.push.new.self }) c.place.new.self c.place_all.new.table (keeps _ _ _ c.place.ensures.grown) c.in_ok-sent.ensures.grown
    (keeps _ _ _ (inr c.in_ok-push.ensures.items))

pub returns-clause-placed : goal.returns-clause-placed
returns-clause-placed c =
    let own = c.args.self.now in
    let found = c.in_ok-node.ensures.there in
    let deed : Deed = record { node = c.in_ok-node.node; sent = c.in_ok-sent.sent; meets = c.args.meets } in
    let number_is : c.in_ok-number.number ≡ length own.deeds.items = search rules in
    record {
      deed = deed;
      after = found.0;
      deed_is = ap (λ (l : List Deed). slice_get l c.in_ok-number.number) c.in_ok-push.ensures.items ∙ ap (slice_get (own.deeds.items ++ deed ∷ [])) number_is
          ∙ get_added own.deeds.items deed;
      node_is = found.1;
      alike = found.2;
      sent_are = c.in_ok-sent.ensures.placed;
      meets_are = refl;
    }
