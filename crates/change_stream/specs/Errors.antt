-- Calls of a stream that end in an error of a step.
use Rattle.set_world.specs.declared.error.StepError.{StepError}
use Rattle.set_world.specs.declared.error.StepError.TheVariants as steps
use Rattle.change_stream.specs.declared.error.WatchError.{WatchError}
use Rattle.change_stream.specs.declared.error.WatchError.TheVariants.{HistoryFull, Memory}

abbrev pub of_step : StepError → WatchError
of_step steps.Memory = Memory
of_step steps.HistoryFull = HistoryFull
