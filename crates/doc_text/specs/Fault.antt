-- Reading from left to right, up to the first fault.
use Rattle.std.specs.Prelude.{◌≡◌, ℕ, ◌-◌, List, length, Result, Ok, Err}
use Rattle.doc_text.specs.declared.errors.TextError.{TextError}
use Rattle.doc_text.specs.declared.errors.TextError.TheVariants as errors
use Rattle.doc_text.specs.declared.fault.Rule.{Rule}
use Rattle.doc_text.specs.declared.fault.Rule.TheVariants.{Unexpected, Number, Escape, Hex, DuplicateName, TooDeep, NameZero}
use Rattle.doc_text.specs.declared.fault.Fault.{Fault}
use Rattle.doc_text.specs.declared.fault.ReadError.{ReadError}
use Rattle.doc_text.specs.declared.fault.ReadError.TheVariants as stops

-- what is read from the start of a text and what follows it, or the first fault
abbrev pub Read : Type 0 → Type 0
Read A = Result (A × List ℕ) Fault

-- a rule that is broken at the first byte of a text, or at its end
abbrev pub fault_at : Rule → List ℕ → Fault
fault_at rule text = record { rule = rule; left = length text }

abbrev pub fails : {A : Type 0} → Rule → List ℕ → Result A Fault
fails rule text = Err (fault_at rule text)

-- a broken rule with its place in a text of this many bytes
abbrev pub error_of : Rule → ℕ → TextError
error_of Unexpected place = errors.Unexpected place
error_of Number place = errors.Number place
error_of Escape place = errors.Escape place
error_of Hex place = errors.Hex place
error_of DuplicateName place = errors.DuplicateName place
error_of TooDeep place = errors.TooDeep place
error_of NameZero place = errors.NameZero place

abbrev pub placed : ℕ → Fault → TextError
placed len fault = error_of fault.rule (len - fault.left)

-- What a function returned, as view shows it, is what reading gives, unless memory ran out.
abbrev pub Fails : {Y : Type 0} → ReadError → Result Y Fault → Type 0
Fails stops.Memory read = Unit {0}
Fails (stops.Fault fault) read = read ≡ Err fault

abbrev pub Gives : {X Y : Type 0} → (X → Y) → Result X ReadError → Result Y Fault → Type 0
Gives view (Ok x) read = read ≡ Ok (view x)
Gives view (Err e) read = Fails e read
