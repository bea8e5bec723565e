-- The concern of a read.
use Rattle.read_concern.specs.declared.reads.Level.{Level}
use Rattle.read_concern.specs.declared.reads.Level.TheVariants as concerns
use Rattle.set_model.specs.declared.command.ReadLevel.{ReadLevel}
use Rattle.set_model.specs.declared.command.ReadLevel.TheVariants.{Local, Majority}

abbrev pub level_of : ReadLevel → Level
level_of Local = concerns.Local
level_of Majority = concerns.Majority
