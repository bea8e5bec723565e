-- What a function returned, seen by a view, is what reading gives.
use Rattle.std.specs.Prelude.{◌≡◌, Result, Ok, Err}
use Rattle.script_words.specs.declared.rule.LineError.{LineError}
use Rattle.script_words.specs.declared.rule.LineError.TheVariants as errors
use Rattle.script_words.specs.declared.rule.ScriptRule.{ScriptRule}
use Rattle.explore_words.specs.declared.fault.QuestionRule.{QuestionRule}
use Rattle.explore_words.specs.declared.fault.QuestionRule.TheVariants.{Script}
use Rattle.explore_words.specs.declared.fault.Stop.{Stop}
use Rattle.explore_words.specs.declared.fault.Stop.TheVariants as stops

-- the rule that reading fails by, unless memory ran out
abbrev pub Fails : {Y : Type 0} → Stop → Result Y QuestionRule → Type 0
Fails stops.Memory read = Unit {0}
Fails (stops.Rule rule) read = read ≡ Err rule

abbrev pub Gives : {X Y : Type 0} → (X → Y) → Result X Stop → Result Y QuestionRule → Type 0
Gives view (Ok x) read = read ≡ Ok (view x)
Gives view (Err stop) read = Fails stop read

-- the same where nothing takes memory
abbrev pub Reads : {X Y : Type 0} → (X → Y) → Result X QuestionRule → Result Y QuestionRule → Type 0
Reads view (Ok x) read = read ≡ Ok (view x)
Reads view (Err rule) read = read ≡ Err rule

-- what is read by the rules of scripts
abbrev pub as_scripts : {A : Type 0} → Result A ScriptRule → Result A QuestionRule
as_scripts (Ok x) = Ok x
as_scripts (Err rule) = Err (Script rule)

abbrev pub stop_of : LineError → Stop
stop_of (errors.Rule rule) = stops.Rule (Script rule)
stop_of errors.Memory = stops.Memory
