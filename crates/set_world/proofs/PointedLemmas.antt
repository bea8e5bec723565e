-- How the counts of committed entries rise with a run.
use Rattle.std.proofs.Common.{◌≡◌, ◌≢◌, ◌⊎◌, inl, inr, ◌∙◌, ◌≤◌, ◌<◌, ◌+◌, ap, sym, subst, refl, arith, ℕ, zero, suc, Option, None, Some, length, fold, List, [], ◌∷◌, ◌++◌, slice_get, slice_set}
use Rattle.std.specs.Prelude.{All, max, slice_index, slice_index_or}
use Rattle.std.specs.Option.{option_map_or}
use Rattle.std.proofs.Math.Nat.{le-max_left, le-max_right}
use Rattle.std.proofs.lemmas.Bool.{cases_eq}
use Rattle.member_config.specs.Config.{first_config}
use Rattle.member_config.specs.declared.config.Config.{Config}
use Rattle.set_model.specs.declared.command.Event.{Event}
use Rattle.set_model.specs.Node.{Node}
use Rattle.set_model.specs.Run.{Run, Sizes, after, opening, run}
use Rattle.set_model.specs.Stores.{Plan}
use Rattle.repl_msg.specs.declared.message.Message.{Message}
use Rattle.set_model.specs.declared.command.Command.{Command}
use Rattle.set_model.specs.World.{World, actor, acts, by_plan, event_plan, nodes_from, nothing, step, takes, task, touched_node}
use Rattle.node_core.specs.declared.done.Done.{Done}
use Rattle.set_world.specs.World.{event_of, nodes_in}
use Rattle.set_world.proofs.NodesLemmas.{node_at}
use Rattle.set_model.proofs.RunLemmas.{world_of-append}
use Rattle.set_model.specs.Pointed.{committed, committed_among, most_from, pointed}
use Rattle.set_world.specs.Points.{ArePointed, IsRaised, RaisesOnly}

max_of_three : (a b c : ℕ) → max a (max b c) ≡ max (max a b) c
max_of_three a b c = omega arith

no_more : (a b : ℕ) → b ≤ a → max a b ≡ a
no_more a b less = omega (arith, less)

-- ---- one event more

most-append : (so_far : Run) (events : List Event) (event : Event) (number : ℕ)
    → most_from so_far.world (events ++ event ∷ []) number ≡ max (most_from so_far.world events number) (committed_among (fold after so_far (events ++ event ∷ [])).world.nodes number)
most-append so_far [] event number = refl
most-append so_far (first ∷ events) event number =
    ap (λ n. max (committed_among so_far.world.nodes number) n) (most-append (after so_far first) events event number)
    ∙ max_of_three (committed_among so_far.world.nodes number) (most_from (step so_far.world first).world events number) (committed_among (fold after so_far (first ∷ events ++ event ∷ [])).world.nodes number)

-- the last world has no more
last_within : (so_far : Run) (events : List Event) (number : ℕ) → committed_among (fold after so_far events).world.nodes number ≤ most_from so_far.world events number
last_within so_far [] number = omega arith
last_within so_far (first ∷ events) number =
    let rest = last_within (after so_far first) events number in
    let more = le-max_right (committed_among so_far.world.nodes number) (most_from (step so_far.world first).world events number) in
    omega (arith, rest, more)

get-set_other : (nodes : List Node) (k j : ℕ) (node : Node) → j ≢ k → slice_get (slice_set nodes k node) j ≡ slice_get nodes j
get-set_other [] k j node other = refl
get-set_other (first ∷ nodes) zero zero node other = absurd (other refl)
get-set_other (first ∷ nodes) zero (suc j) node other = refl
get-set_other (first ∷ nodes) (suc k) zero node other = refl
get-set_other (first ∷ nodes) (suc k) (suc j) node other = get-set_other nodes k j node (λ same. other (ap suc same))

-- a step leaves the nodes that it doesn't touch
others_stay : (world : World) (event : Event) (number : ℕ) → number ≢ touched_node world event.command → committed_among (step world event).world.nodes number ≡ committed_among world.nodes number
others_stay world event number other = go (event_plan world event)
  where
    go : (plan : Option Plan) → committed_among (by_plan world event plan).world.nodes number ≡ committed_among world.nodes number
    go None = refl
    go (Some plan) = ap (λ node. option_map_or committed node 0) (get-set_other world.nodes (touched_node world event.command) number _ other)

module _ (sizes : Sizes) (events : List Event) (event : Event) (number : ℕ) where
  pub pointed_more : pointed sizes (events ++ event ∷ []) number ≡ max (pointed sizes events number) (committed_among (run sizes (events ++ event ∷ [])).world.nodes number)
  pointed_more = most-append (opening sizes) events event number

  -- an event changes the number of no node but the one that it touches
  pub pointed_other : number ≢ touched_node (run sizes events).world event.command → pointed sizes (events ++ event ∷ []) number ≡ pointed sizes events number
  pointed_other other =
      let now : committed_among (run sizes (events ++ event ∷ [])).world.nodes number ≡ committed_among (run sizes events).world.nodes number =
      ap (λ (w : World). committed_among w.nodes number) (world_of-append sizes events event) ∙ others_stay (run sizes events).world event number other in
      pointed_more ∙ ap (λ n. max (pointed sizes events number) n) now ∙ no_more (pointed sizes events number) (committed_among (run sizes events).world.nodes number) (last_within (opening sizes) events number)

  -- and it lowers none
  pub pointed_rises : pointed sizes events number ≤ pointed sizes (events ++ event ∷ []) number
  pointed_rises =
      let left = le-max_left (pointed sizes events number) (committed_among (run sizes (events ++ event ∷ [])).world.nodes number) in
      let same = pointed_more in
      omega (arith, left, same)

pub raises_only : (sizes : Sizes) (history later : List Event) (event : Event) → later ≡ history ++ event ∷ [] → RaisesOnly (touched_node (run sizes history).world event.command) sizes history later
raises_only sizes history later event more = subst (RaisesOnly (touched_node (run sizes history).world event.command) sizes history) (sym more) (record {
  others = λ number other. pointed_other sizes history event number other;
  none_falls = λ number. pointed_rises sizes history event number;
})

-- ---- the numbers that a set keeps

pub pointed_on : (sizes : Sizes) (history later : List Event) (event : Event) (nodes : List Node) (old new : List ℕ) → ArePointed sizes history old → later ≡ history ++ event ∷ [] → (run sizes later).world.nodes ≡ nodes
    → IsRaised (touched_node (run sizes history).world event.command) nodes old new → ArePointed sizes later new
pointed_on sizes history later event nodes old new are more now raised = subst (λ l. ArePointed sizes l new) (sym more) (record {
  size = raised.size ∙ are.size;
  each = λ number. go number (cases_eq number touched);
})
  where
    touched : ℕ
    touched = touched_node (run sizes history).world event.command

    nodes_are : (run sizes (history ++ event ∷ [])).world.nodes ≡ nodes
    nodes_are = ap (λ l. (run sizes l).world.nodes) (sym more) ∙ now

    go : (number : ℕ) → (number ≡ touched) ⊎ (number ≢ touched) → slice_index new number ≡ pointed sizes (history ++ event ∷ []) number
    go number (inl same) = subst (λ k. slice_index new k ≡ pointed sizes (history ++ event ∷ []) k) (sym same)
        (raised.here ∙ ap (λ n. max n (committed_among nodes touched)) (are.each touched) ∙ ap (λ l. max (pointed sizes history touched) (committed_among l touched)) (sym nodes_are)
        ∙ sym (pointed_more sizes history event touched))
    go number (inr other) = raised.others number other ∙ are.each number ∙ sym (pointed_other sizes history event number other)

-- a set begins with none
none_from : (config : Config) (first count number : ℕ) → committed_among (nodes_from config first count) number ≡ 0
none_from config first zero number = refl
none_from config first (suc count) zero = refl
none_from config first (suc count) (suc number) = none_from config (first + 1) count number

zeros_at : (numbers : List ℕ) → All (λ number. number ≡ 0) numbers → (k : ℕ) → slice_index numbers k ≡ 0
zeros_at [] zeros k = refl
zeros_at (number ∷ numbers) zeros zero = zeros 0 0 (omega arith)
zeros_at (number ∷ numbers) zeros (suc k) = zeros_at numbers (λ j d within. zeros (suc j) d (omega (arith, within))) k

pub pointed_first : (sizes : Sizes) (numbers : List ℕ) → length numbers ≡ sizes.nodes → All (λ number. number ≡ 0) numbers → ArePointed sizes [] numbers
pointed_first sizes numbers size zeros = record {
  size = size;
  each = λ number. zeros_at numbers zeros number ∙ sym (none_from (first_config sizes.voters sizes.members) 0 sizes.nodes number);
}

-- the numbers after a step
pub raised_on : {D : Type 0} (sizes : Sizes) (history later : List Event) (items nodes new : List (Node × D × D)) (messages now : List Message) (line : ℕ) (command : Command) (came : Done) (old numbers : List ℕ)
    → ArePointed sizes history old → (run sizes history).world ≡ record { nodes = nodes_in items; messages = messages } → nodes ≡ items → now ≡ messages
    → later ≡ history ++ event_of line command came ∷ [] → (run sizes later).world.nodes ≡ nodes_in new
    → IsRaised (touched_node (record { nodes = nodes_in nodes; messages = now }) command) (nodes_in new) old numbers → ArePointed sizes later numbers
raised_on sizes history later items nodes new messages now line command came old numbers are is same same_messages more new_is raised =
    pointed_on sizes history later (event_of line command came) (nodes_in new) old numbers are more new_is
    (subst (λ (w : World). IsRaised (touched_node w command) (nodes_in new) old numbers) (sym world_is) raised)
  where
    world_is : (run sizes history).world ≡ record { nodes = nodes_in nodes; messages = now }
    world_is = is ∙ (λ i. record { nodes = nodes_in (sym same i); messages = sym same_messages i })

pub kept_on : (sizes : Sizes) (history later : List Event) (old numbers : List ℕ) → ArePointed sizes history old → later ≡ history → numbers ≡ old → ArePointed sizes later numbers
kept_on sizes history later old numbers are same same_numbers = subst (λ l. ArePointed sizes l numbers) (sym same) (subst (λ n. ArePointed sizes history n) (sym same_numbers) are)

-- ---- the node that a command touches

pub own_touched : (world : World) (command : Command) (number : ℕ) → task world command ≡ acts number → number ≡ touched_node world command
own_touched world command number is = sym (ap actor is)

pub taker_touched : (world : World) (command : Command) (message : Message) → task world command ≡ takes message → message.to ≡ touched_node world command
taker_touched world command message is = sym (ap actor is)

pub none_touched : (world : World) (command : Command) → task world command ≡ nothing → 0 ≡ touched_node world command
none_touched world command is = sym (ap actor is)

-- ---- one number that is raised

pub raised_here : {D : Type 0} (nodes : List (Node × D × D)) (old new : List ℕ) (place count : ℕ) (node : Node × D × D) → length old ≡ length nodes → place < length nodes → node ≡ slice_index_or nodes place node
    → count ≡ committed node.0 → length new ≡ length old → slice_index new place ≡ max (slice_index old place) count → ((other : ℕ) → other ≢ place → slice_index new other ≡ slice_index old other)
    → IsRaised place (nodes_in nodes) old new
raised_here {D} nodes old new place count node same within is counted size here others = record {
  size = size;
  here = here ∙ ap (λ n. max (slice_index old place) n) (counted ∙ ap (λ (n : Node × D × D). committed n.0) is ∙ sym (ap (λ found. option_map_or committed found 0) (node_at nodes place node within)));
  others = others;
}
