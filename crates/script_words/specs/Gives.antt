-- What a function returned, as a view sees it, is what reading gives.
use Rattle.std.specs.Prelude.{◌≡◌, Result, Ok, Err}
use Rattle.doc_text.specs.declared.errors.TextError.{TextError}
use Rattle.doc_text.specs.declared.errors.TextError.TheVariants as texts
use Rattle.script_words.specs.declared.rule.LineError.{LineError}
use Rattle.script_words.specs.declared.rule.LineError.TheVariants as errors
use Rattle.script_words.specs.declared.rule.ScriptRule.{ScriptRule}
use Rattle.script_words.specs.declared.rule.ScriptRule.TheVariants.{BadText}
use Rattle.script_words.specs.Values.{text_rule}

abbrev pub Reads : {X Y : Type 0} → (X → Y) → Result X ScriptRule → Result Y ScriptRule → Type 0
Reads view (Ok x) read = read ≡ Ok (view x)
Reads view (Err rule) read = read ≡ Err rule

-- the rule that reading fails by, unless memory ran out
abbrev pub Fails : {Y : Type 0} → LineError → Result Y ScriptRule → Type 0
Fails errors.Memory read = Unit {0}
Fails (errors.Rule rule) read = read ≡ Err rule

-- the same for a function that may run out of memory
abbrev pub Gives : {X Y : Type 0} → (X → Y) → Result X LineError → Result Y ScriptRule → Type 0
Gives view (Ok x) read = read ≡ Ok (view x)
Gives view (Err error) read = Fails error read

-- a line's error, made of one of the notation
abbrev pub line_error : TextError → LineError
line_error texts.Memory = errors.Memory
line_error error = errors.Rule (BadText (text_rule error))
