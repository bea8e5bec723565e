-- Events that can be done again.
use Rattle.std.specs.Prelude.{◌<◌, ◌-◌, ◌^◌, List, length}
use Rattle.set_model.specs.declared.command.Event.{Event}
use Rattle.set_model.specs.Limits.{IsRun}
use Rattle.set_model.specs.Run.{AreSizes, Sizes}

-- a set of these sizes does them, and no number outgrows its type
pub record CanBeDone (sizes : Sizes) (events : List Event) : Type 0 where
  pub are_sizes : AreSizes sizes
  pub is_run : IsRun sizes events
  pub few : length events < 2 ^ 32 - 1
