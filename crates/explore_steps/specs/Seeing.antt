-- What is seen in cells.
use Rattle.std.specs.Prelude.{ℕ, Bool, false, List, Option, length, slice_get, option_and_then, unwrap_or}
use Rattle.std.specs.List.{list_all}
use Rattle.std.specs.Option.{option_map_or}
use Rattle.set_model.specs.Node.{Node}
use Rattle.explore_words.specs.declared.question.Look.{Look}
use Rattle.explore_words.specs.declared.question.Want.{Want}
use Rattle.explore_words.specs.declared.question.Want.TheVariants.{Event as Happens, Seen}
use Rattle.question_laws.specs.Meeting.{any_below}
use Rattle.explore_steps.specs.Causes.{is_met_at}
use Rattle.explore_steps.specs.Tables.{Tables}

-- the node of the cell at a place
abbrev pub node_in : Tables → List ℕ → ℕ → Option Node
node_in tables cells place =
    option_and_then (λ (cell : ℕ × ℕ). slice_get tables.nodes cell.0)
    (option_and_then (slice_get tables.cells) (slice_get cells place))

-- a look is met at its node, or at this one where it may be any
abbrev pub is_met_in : Tables → ℕ → List ℕ → ℕ → Look → Bool
is_met_in tables nodes cells any look =
    option_map_or (λ (node : Node). is_met_at nodes node look)
    (node_in tables cells (unwrap_or look.node any)) false

-- all looks are met, with some node for any
abbrev pub is_seen_in : Tables → ℕ → List ℕ → Want → Bool
is_seen_in tables nodes cells (Happens event text) = false
is_seen_in tables nodes cells (Seen looks) =
    any_below (λ any. list_all (is_met_in tables nodes cells any) looks) (length cells)
