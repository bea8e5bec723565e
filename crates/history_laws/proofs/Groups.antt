-- The commands that write, or change who leads.
use Rattle.std.specs.Prelude.{Bool, true, false}
use Rattle.set_model.specs.declared.command.Command.{Command}

abbrev pub is_leading_or_writing : Command → Bool
is_leading_or_writing (Command.Campaign number) = true
is_leading_or_writing (Command.Drain number) = true
is_leading_or_writing (Command.DryRun number) = true
is_leading_or_writing (Command.StepDown number) = true
is_leading_or_writing (Command.Insert number collection document) = true
is_leading_or_writing (Command.Replace number collection id document) = true
is_leading_or_writing (Command.Update number collection id operators) = true
is_leading_or_writing (Command.Delete number collection id) = true
is_leading_or_writing (Command.Retry number session op) = true
is_leading_or_writing (Command.Note number) = true
is_leading_or_writing (Command.Begin number writer op) = true
is_leading_or_writing (Command.Commit number writer) = true
is_leading_or_writing (Command.Abort number writer) = true
is_leading_or_writing command = false
