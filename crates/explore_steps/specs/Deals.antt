-- Causes as functions are given them.
use Rattle.explore_steps.specs.declared.wanting.Cause.{Cause as Given}
use Rattle.explore_steps.specs.declared.wanting.Cause.TheVariants as given
use Rattle.explore_steps.specs.Causes.{Cause, own, taken}

abbrev pub cause_of : Given → Cause
cause_of (given.Own command) = own command.now
cause_of (given.Taken message) = taken message.now
