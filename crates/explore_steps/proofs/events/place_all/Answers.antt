use Rattle.std.proofs.Common.{◌++◌, ◌∷◌, [], ℕ, List, refl, subst, sym}
use Rattle.explore_tables.proofs.Tables.{keeps}
use Rattle.explore_steps.proofs.Numbers.{Numbers, numbers_grow, numbers_join, numbers_more}
use Rattle.explore_steps.proofs.events.place_all.Goals as goal

pub loop-message-preserved : goal.loop-message-preserved
loop-message-preserved c =
    let later = c.place.new.self in
    record {
      grown = λ number value is. keeps _ _ _ c.place.ensures.grown number value (c.loop-message.invariant.grown number value is);
      placed = subst (λ (l : List ℕ). Numbers later l (c.loop-message.yielded ++ c.in-Some.message ∷ [])) (sym c.in_ok-push.ensures.items)
          (numbers_join later c.loop-message.numbers.items (c.in_ok-place.field-0 ∷ []) c.loop-message.yielded (c.in-Some.message ∷ [])
          (numbers_grow c.loop-message.table later (keeps _ _ _ c.place.ensures.grown) c.loop-message.numbers.items c.loop-message.yielded c.loop-message.invariant.placed)
          (numbers_more later c.in_ok-place.field-0 [] c.in-Some.message [] c.in_ok-place.ensures.there refl));
    }
