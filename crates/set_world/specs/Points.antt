-- The numbers by which a set counts what its nodes have had committed.
use Rattle.std.specs.Prelude.{◌≡◌, ◌≢◌, ◌≤◌, ℕ, max, List, length, slice_index}
use Rattle.set_model.specs.declared.command.Event.{Event}
use Rattle.set_model.specs.Node.{Node}
use Rattle.set_model.specs.Pointed.{committed_among, pointed}
use Rattle.set_model.specs.Run.{Sizes}

-- these are the counts of all nodes
pub record ArePointed (sizes : Sizes) (events : List Event) (numbers : List ℕ) : Type 0 where
  pub size : length numbers ≡ sizes.nodes
  pub each : (number : ℕ) → slice_index numbers number ≡ pointed sizes events number

-- the count of one node is raised to what it has committed now, and the others stay
pub record IsRaised (number : ℕ) (nodes : List Node) (old new : List ℕ) : Type 0 where
  pub size : length new ≡ length old
  pub here : slice_index new number ≡ max (slice_index old number) (committed_among nodes number)
  pub others : (other : ℕ) → other ≢ number → slice_index new other ≡ slice_index old other

-- From these events to those, only this node's number changed, and none fell.
pub record RaisesOnly (touched : ℕ) (sizes : Sizes) (old new : List Event) : Type 0 where
  pub others : (number : ℕ) → number ≢ touched → pointed sizes new number ≡ pointed sizes old number
  pub none_falls : (number : ℕ) → pointed sizes old number ≤ pointed sizes new number
