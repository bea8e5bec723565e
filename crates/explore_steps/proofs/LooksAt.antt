-- The nodes of cells that looks are at.
use Rattle.std.proofs.Common.{◌≡◌, ◌∙◌, ◌<◌, sym, arith, ltb-true, ℕ, true, Option, None, Some, List, length, slice_get}
use Rattle.std.specs.Prelude.{unwrap_or}
use Rattle.set_model.specs.Node.{Node}
use Rattle.set_model.specs.World.{World}
use Rattle.checker_machine.specs.Reached.{AreSound}
use Rattle.explore_words.specs.declared.question.Look.{Look}
use Rattle.explore_words.specs.declared.question.Question.{Question}
use Rattle.explore_words.specs.Fits.{is_node_or_any}
use Rattle.explore_steps.specs.Causes.{is_met_at}
use Rattle.explore_steps.specs.Reaching.{IsReachedBefore}
use Rattle.explore_steps.specs.Seeing.{is_met_in}
use Rattle.explore_steps.specs.Standing.{AreCome, IsCome, IsSoundAt}
use Rattle.explore_steps.specs.Tables.{Grow, HasCell, Tables}
use Rattle.explore_steps.proofs.Come.{come_cell, come_sound, each_come}
use Rattle.explore_steps.proofs.Growth.{cell_grows, has_cell_grows, stands_grows}
use Rattle.explore_steps.proofs.Looks.{met_in_is}
use Rattle.explore_steps.proofs.Reach.{reached_count}
use Rattle.explore_steps.proofs.Reading.{node_at_pair}

-- each cell has one
pub all_cells : (tables : Tables) (question : Question) (cells : List ℕ) → AreCome tables question cells → (place cell : ℕ) → slice_get cells place ≡ Some cell → HasCell tables cell
all_cells tables question cells come place cell there = come_cell tables question cell (each_come tables question cells come place cell there)

pub cells_count : (tables : Tables) (question : Question) (cells : List ℕ) → AreCome tables question cells → length cells ≡ question.sizes.nodes
cells_count tables question cells (world, reached, are) = are.count ∙ reached_count question 0 world reached

pub number_within : (tables : Tables) (question : Question) (cells : List ℕ) → AreCome tables question cells → (wanted : Option ℕ) (any : ℕ) → is_node_or_any question.sizes.nodes wanted ≡ true
    → any < length cells → unwrap_or wanted any < length cells
number_within tables question cells come None any is within = within
number_within tables question cells (world, reached, are) (Some node) any is within =
    let few : node < question.sizes.nodes = ltb-true node question.sizes.nodes is in
    let count : length world.nodes ≡ question.sizes.nodes = reached_count question 0 world reached in
    let same : length cells ≡ length world.nodes = are.count in
    omega (arith, few, count, same)

module _ (old now : Tables) (grow : Grow old now) (question : Question) (cells : List ℕ) (come : AreCome old question cells) (number cell : ℕ) (there : slice_get cells number ≡ Some cell) where
  cell_come : IsCome old question cell
  cell_come = each_come old question cells come number cell there

  pub cell_now : HasCell now cell
  cell_now = has_cell_grows old now grow cell (come_cell old question cell cell_come)

  module _ (node list : ℕ) (cell_is : slice_get now.cells cell ≡ Some (node, list)) where
    pub sound_now : ((world : World) → IsReachedBefore 0 question world → AreSound world) → IsSoundAt now node
    sound_now sound = come_sound question now cell node list cell_is sound (cell_come.0, cell_come.1, cell_come.2, stands_grows old now grow cell cell_come.0 cell_come.1 cell_come.3)

    -- what a look at it comes to
    pub look_now : (any : ℕ) (look : Look) → number ≡ unwrap_or look.node any
        → (at : Node) × (slice_get now.nodes node ≡ Some at) × (is_met_in old question.sizes.nodes cells any look ≡ is_met_at question.sizes.nodes at look)
    look_now any look number_is =
        let stands = cell_come.3 in (
          stands.node,
          node_at_pair now cell (node, list) cell_is stands.node stands.messages (cell_grows old now grow cell stands.node stands.messages stands.is_cell),
          met_in_is old question.sizes.nodes cells any number cell stands.is_cell.node_at stands.is_cell.list_at stands.node look (sym number_is) there stands.is_cell.cell_is stands.is_cell.node_is,
        )
