-- The replies that a summary counts.
use Rattle.std.specs.Prelude.{Bool}
use Rattle.set_model.specs.declared.reply.Reply.{Reply}
use Rattle.transcript.specs.Summaries.{is_refused, is_rolled_back, is_won, is_written}
use Rattle.set_program.specs.declared.summary.Kind.{Kind}
use Rattle.set_program.specs.declared.summary.Kind.TheVariants.{Written, Won, RolledBack, Refused}

-- a reply of a kind
abbrev pub is_of : Kind → Reply → Bool
is_of Written = is_written
is_of Won = is_won
is_of RolledBack = is_rolled_back
is_of Refused = is_refused
