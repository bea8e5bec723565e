-- Commands that don't depend on the size of the set, the number of its next message, or what a restart finds.
use Rattle.std.specs.Prelude.{ℕ, Bool, false}
use Rattle.set_model.specs.declared.command.Command.{Command}
use Rattle.set_model.specs.Node.{Node}
use Rattle.set_model.specs.Rows.{row}
use Rattle.set_model.specs.Stores.{Plan}

-- a row takes all three; these are placeholders
abbrev any_size : ℕ
any_size = 0

abbrev any_number : ℕ
any_number = 0

abbrev any_finding : Bool
any_finding = false

-- a write, a writer's step, or a question about the node
abbrev pub plain_row : Node → Command → Plan
plain_row node command = row any_size any_number any_finding node command
