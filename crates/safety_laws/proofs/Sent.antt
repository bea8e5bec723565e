-- Each message of a run was sent by an event, and what it says is true of the world after that event.
use Rattle.std.proofs.Common.{◌≡◌, ◌<◌, ◌≤◌, inl, inr, ap, sym, subst, refl, arith, length, ℕ, zero, suc, take, Option, None, Some, slice_get, List, [], ◌∷◌}
use Rattle.repl_msg.specs.declared.message.Message.{Message}
use Rattle.set_model.specs.declared.command.Event.{Event}
use Rattle.set_model.specs.Node.{Node}
use Rattle.set_model.specs.Run.{Sizes, opening, run, world_at}
use Rattle.set_model.specs.World.{World, step, touched_node}
use Rattle.safety_laws.proofs.Frame.{world_next}
use Rattle.safety_laws.proofs.Outcomes.{IsTold}
use Rattle.safety_laws.proofs.Places.{get_append}
use Rattle.safety_laws.proofs.WrittenEntries.{HasSent, step_plain}

-- past the last event nothing is taken more
taken_all : (events : List Event) (place : ℕ) → slice_get events place ≡ None → take (suc place) events ≡ take place events
taken_all [] zero none = refl
taken_all [] (suc place) none = refl
taken_all (event ∷ events) zero none = absurd (cc none)
taken_all (event ∷ events) (suc place) none = ap (λ rest. event ∷ rest) (taken_all events place none)

module _ (sizes : Sizes) (events : List Event) where
  -- the event after an earlier place sent the message of this number, and touched this node
  pub record WasSent (until number : ℕ) (message : Message) : Type 0 where
    pub place : ℕ
    pub before : place < until
    pub new : length (world_at sizes events place).messages ≤ number
    pub there : slice_get (world_at sizes events (suc place)).messages number ≡ Some message
    pub touched : ℕ
    pub told : (node : Node) × (slice_get (world_at sizes events (suc place)).nodes touched ≡ Some node) × IsTold node message

  pub was_sent : (until number : ℕ) (message : Message) → slice_get (world_at sizes events until).messages number ≡ Some message → WasSent until number message
  was_sent zero number message there = absurd (cc there)
  was_sent (suc place) number message there = go (λ old. was_sent place number message old) (slice_get events place) refl
    where
      earlier : WasSent place number message → WasSent (suc place) number message
      earlier was = record {
        place = was.place;
        before = let order : was.place < place = was.before in omega (arith, order);
        new = was.new;
        there = was.there;
        touched = was.touched;
        told = was.told;
      }

      before : World
      before = world_at sizes events place

      by_event : (slice_get before.messages number ≡ Some message → WasSent place number message) → (event : Event) → world_at sizes events (suc place) ≡ (step before event).world → WasSent (suc place) number message
      by_event rest event is = elim (get_append before.messages said.sent number message
          (subst (λ ms. slice_get ms number ≡ Some message) said.messages (subst (λ (w : World). slice_get w.messages number ≡ Some message) is there))) [
            | inl old ↦ earlier (rest old)
            | inr now ↦ record {
              place = place;
              before = omega arith;
              new = now.0;
              there = there;
              touched = touched_node before event.command;
              told = let told : (node : Node) × (slice_get (step before event).world.nodes (touched_node before event.command) ≡ Some node) × IsTold node message = said.told message now.1 in
                  (told.0, subst (λ (w : World). slice_get w.nodes (touched_node before event.command) ≡ Some told.0) (sym is) told.1, told.2);
            }
          ]
        where
          said : HasSent before (touched_node before event.command) (step before event).world
          said = (step_plain before event).said

      go : (slice_get before.messages number ≡ Some message → WasSent place number message) → (found : Option Event) → slice_get events place ≡ found → WasSent (suc place) number message
      go rest None none = earlier (rest (subst (λ (w : World). slice_get w.messages number ≡ Some message) (ap (λ list. (run sizes list).world) (taken_all events place none)) there))
      go rest (Some event) found = by_event rest event (world_next (opening sizes) events place event found)
