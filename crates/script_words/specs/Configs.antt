-- The rest of a line as a configuration in JSON.
use Rattle.std.specs.Prelude.{ℕ, List, Option, None, Some, Result, Ok, Err}
use Rattle.member_config.specs.declared.config.Config.{Config}
use Rattle.member_config.specs.Json.{config_in}
use Rattle.script_words.specs.declared.rule.ScriptRule.{ScriptRule}
use Rattle.script_words.specs.declared.rule.ScriptRule.TheVariants.{BadConfigText}

abbrev pub or_bad_config : Option Config → Result Config ScriptRule
or_bad_config None = Err BadConfigText
or_bad_config (Some config) = Ok config

abbrev pub config_of : List ℕ → Result Config ScriptRule
config_of text = or_bad_config (config_in text)
