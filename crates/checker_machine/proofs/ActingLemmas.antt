-- One event at the node that it touches, and which events fit.
use Rattle.std.proofs.Common.{◌≡◌, ◌∙◌, ◌&&◌, ◌||◌, ℕ, zero, suc, Bool, true, false, not, Option, None, Some, refl, sym, ap, subst, arith, ◌+◌, ◌<◌, ◌≤◌, lt-ltb, le-ltb, ltb-true, ltb-false}
use Rattle.std.specs.Prelude.{is_none, is_some, length, option_and_then, slice_get, slice_set}
use Rattle.std.specs.Option.{option_map_or}
use Rattle.repl_msg.specs.declared.message.Message.{Message}
use Rattle.set_model.specs.declared.command.Event.{Event}
use Rattle.set_model.specs.Deliver.{deliver}
use Rattle.set_model.specs.Limits.{Fits, is_in_doubt, is_restart, passes_first, plan_reaches, settles_doubt}
use Rattle.set_model.specs.Node.{Node}
use Rattle.set_model.specs.Rows.{row}
use Rattle.set_model.specs.Stores.{Plan, done, finished, reaches, store_count, storing}
use Rattle.set_model.specs.World.{Step, Task, World, acts, actor, by_plan, event_plan, plan_of, step, takes, task, touched_node, with_outcome}
use Rattle.checker_node.specs.declared.answer.Answer.{Answer}
use Rattle.checker_machine.specs.Acting.{Acts, IsOutOfDoubt, left_after}
use Rattle.checker_node.specs.Done.{Does, left_of, outcome_of}
use Rattle.checker_machine.specs.Reached.{IsReadable}

-- ---- which stores are reached

none_left : (plan : Plan) → left_of plan None ≡ None
none_left (finished outcome) = refl
none_left (storing broken rest) = none_left rest

reached_all : (plan : Plan) (failed : Option ℕ) → left_of plan failed ≡ None → reaches plan failed ≡ true
reached_all plan None left = refl
reached_all (finished outcome) (Some number) left = absurd (cc left)
reached_all (storing broken rest) (Some zero) left = lt-ltb 0 (store_count rest + 1) (omega arith)
reached_all (storing broken rest) (Some (suc number)) left =
    let again : number < store_count rest = ltb-true number (store_count rest) (reached_all rest (Some number) left) in
    lt-ltb (suc number) (store_count rest + 1) (omega (arith, again))

not_reached : (plan : Plan) (failed : Option ℕ) (number : ℕ) → left_of plan failed ≡ Some number → reaches plan failed ≡ false
not_reached plan None number left = absurd (cc (left, none_left plan))
not_reached (finished outcome) (Some place) number left = le-ltb place 0 (omega arith)
not_reached (storing broken rest) (Some zero) number left = absurd (cc left)
not_reached (storing broken rest) (Some (suc place)) number left =
    let again : store_count rest ≤ place = ltb-false place (store_count rest) (not_reached rest (Some place) number left) in
    le-ltb (suc place) (store_count rest + 1) (omega (arith, again))

none_of : (left : Option ℕ) → is_some left ≡ false → is_none left ≡ true
none_of None none = refl
none_of (Some number) none = absurd (cc none)

plan_reached : (plan : Option Plan) (failed left : Option ℕ) → left ≡ left_after plan failed → is_some left ≡ false → plan_reaches plan failed ≡ true
plan_reached None failed left is none = ap (λ (f : Option ℕ). is_none f) (sym is) ∙ none_of left none
plan_reached (Some plan) failed None is none = reached_all plan failed (sym is)
plan_reached (Some plan) failed (Some number) is none = absurd (cc none)

plan_missed : (plan : Option Plan) (failed left : Option ℕ) → left ≡ left_after plan failed → is_some left ≡ true → plan_reaches plan failed ≡ false
plan_missed plan failed None is some = absurd (cc some)
plan_missed None failed (Some number) is some = ap (λ (f : Option ℕ). is_none f) (sym is)
plan_missed (Some plan) failed (Some number) is some = not_reached plan failed number (sym is)

-- ---- which events fit

-- it fits where no number of a store is left over
pub acted_fits : (world : World) (event : Event) (left : Option ℕ) (answer : Answer) (new : World) → IsReadable world event → Acts world event left answer new → is_some left ≡ false → Fits world event
acted_fits world event left answer new readable acted none = record {
  command = readable.command;
  documents = readable.documents;
  failed = plan_reached (event_plan world event) event.failed left acted.left_is none;
  there = acted.there;
}

pub left_fits_not : (world : World) (event : Event) (left : Option ℕ) (answer : Answer) (new : World) → Acts world event left answer new → is_some left ≡ true → Fits world event → ⊥
left_fits_not world event left answer new acted some fits =
    let missed : plan_reaches (event_plan world event) event.failed ≡ false = plan_missed (event_plan world event) event.failed left acted.left_is some in
    cc (missed, fits.failed)

-- ---- a doubt is settled where there is one

settled_so : (kept settles : Bool) → (kept && not settles) ≡ false → (not kept || settles) ≡ true
settled_so true true is = refl
settled_so true false is = absurd (cc is)
settled_so false settles is = refl

unsettled_so : (kept settles : Bool) → (kept && not settles) ≡ true → (not kept || settles) ≡ false
unsettled_so true true is = absurd (cc is)
unsettled_so true false is = refl
unsettled_so false settles is = absurd (cc is)

-- ---- a node acts

module _ (world : World) (event : Event) (what : Task) (is : task world event.command ≡ what) (node : Node) (there : slice_get world.nodes (actor what) ≡ Some node) where
  touched : touched_node world event.command ≡ actor what
  touched = ap actor is

  found : slice_get world.nodes (touched_node world event.command) ≡ Some node
  found = ap (slice_get world.nodes) touched ∙ there

  planned : (plan : Plan) → plan_of world event what node ≡ Some plan → event_plan world event ≡ Some plan
  planned plan plans =
      ap (λ (t : Task). option_and_then (plan_of world event t) (slice_get world.nodes (touched_node world event.command))) is
      ∙ ap (option_and_then (plan_of world event what)) found ∙ plans

  -- it does what its plan says
  acts_so : (plan : Plan) (left : Option ℕ) (answer : Answer) (new : Node) → plan_of world event what node ≡ Some plan → Does plan event.failed left answer new → (not event.kept || settles_doubt world event) ≡ true
      → Acts world event left answer (record { nodes = slice_set world.nodes (actor what) new; messages = world.messages })
  acts_so plan left answer new plans does settled =
      let planned_so : event_plan world event ≡ Some plan = planned plan plans in
      let stepped : step world event ≡ with_outcome world (actor what) (outcome_of answer new) =
      ap (by_plan world event) planned_so ∙ ap (λ (n : ℕ). with_outcome world n (done plan event.failed)) touched
      ∙ ap (with_outcome world (actor what)) does.outcome in record {
        nodes = sym (ap (λ (s : Step). s.world.nodes) stepped);
        messages = refl;
        reply = sym (ap (λ (s : Step). s.reply) stepped);
        sent = sym (ap (λ (s : Step). s.world.messages) stepped);
        left_is = does.left_is ∙ sym (ap (λ (p : Option Plan). left_after p event.failed) planned_so);
        there = settled;
      }

  -- whether it finds there what isn't in doubt, as the code tells it
  module _ (out : Bool) (tells : out ≡ (event.kept && not (is_restart event.command && passes_first event.failed && is_in_doubt node))) where
    settles : settles_doubt world event ≡ (is_restart event.command && passes_first event.failed && is_in_doubt node)
    settles = ap (λ (o : Option Node). is_restart event.command && passes_first event.failed && option_map_or is_in_doubt o false) found

    tells_so : out ≡ (event.kept && not (settles_doubt world event))
    tells_so = tells ∙ ap (λ b. event.kept && not b) (sym settles)

    pub finds_out_of_doubt : out ≡ true → IsOutOfDoubt world event
    finds_out_of_doubt is = unsettled_so event.kept (settles_doubt world event) (sym tells_so ∙ is)

    pub finds_doubt : out ≡ false → (not event.kept || settles_doubt world event) ≡ true
    finds_doubt is = settled_so event.kept (settles_doubt world event) (sym tells_so ∙ is)

-- a node's own command
pub acts_own : (world : World) (event : Event) (number : ℕ) (is : task world event.command ≡ acts number) (node : Node) (there : slice_get world.nodes number ≡ Some node) (nodes next : ℕ) → nodes ≡ length world.nodes → next ≡ length world.messages
    → (failed left : Option ℕ) → failed ≡ event.failed → (answer : Answer) (new : Node) → Does (row nodes next event.kept node event.command) failed left answer new → (not event.kept || settles_doubt world event) ≡ true
    → Acts world event left answer (record { nodes = slice_set world.nodes number new; messages = world.messages })
acts_own world event number is node there nodes next many sent failed left same answer new does settled =
    let plan : Plan = row nodes next event.kept node event.command in
    acts_so world event (acts number) is node there plan left answer new (λ i. Some (row (sym many i) (sym sent i) event.kept node event.command))
    (subst (λ (f : Option ℕ). Does plan f left answer new) same does) settled

-- a message is delivered
pub acts_delivered : (world : World) (event : Event) (message : Message) (is : task world event.command ≡ takes message) (node : Node) (there : slice_get world.nodes message.to ≡ Some node) (next : ℕ) → next ≡ length world.messages
    → (failed left : Option ℕ) → failed ≡ event.failed → (answer : Answer) (new : Node) → Does (deliver next node message) failed left answer new → event.kept ≡ false
    → Acts world event left answer (record { nodes = slice_set world.nodes message.to new; messages = world.messages })
acts_delivered world event message is node there next sent failed left same answer new does unkept =
    let plan : Plan = deliver next node message in
    acts_so world event (takes message) is node there plan left answer new (λ i. Some (deliver (sym sent i) node message))
    (subst (λ (f : Option ℕ). Does plan f left answer new) same does) (ap (λ b. not b || settles_doubt world event) unkept)
