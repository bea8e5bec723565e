-- A command that is read alone is one of the set.
use Rattle.std.proofs.Common.{ℕ, ◌≡◌, true, Result, Ok, Err}
use Rattle.std.specs.Prelude.{IfOk}
use Rattle.set_model.specs.declared.command.Command.{Command}
use Rattle.set_model.specs.Limits.{is_for}
use Rattle.script_words.specs.Commands.{words_at}
use Rattle.script_words.specs.Gives.{Gives}
use Rattle.script_words.specs.Words.{Left}
use Rattle.script_words.specs.declared.rule.LineError.{LineError}
use Rattle.script_words.specs.declared.verb.Verb.{Verb}
use Rattle.script_words.proofs.CommandsFit.{words_within}
use Rattle.script_words.proofs.Gets.{got}

pub command_fits : (nodes : ℕ) (verb : Verb) (left : Left) (result : Result Command LineError) → Gives (λ command. command) result (words_at nodes verb left)
    → IfOk result (λ command. is_for nodes command ≡ true)
command_fits nodes verb left (Ok command) given = got (words_at nodes verb left) command (λ c. is_for nodes c ≡ true) (words_within nodes verb left) given
command_fits nodes verb left (Err error) given = tt
