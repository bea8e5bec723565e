-- Reading a script line by line.
use Rattle.std.proofs.Common.{◌≡◌, ℕ, ◌+◌, ◌≤◌, Bool, true, false, List, [], ◌∷◌, length, Result, Ok, Err, refl, ap, sym, ◌∙◌, arith}
use Rattle.std.specs.Prelude.{nat_lt}
use Rattle.std.specs.Str.Lines.{lines}
use Rattle.fault_script.specs.declared.reading.Reading.{Reading}
use Rattle.fault_script.specs.declared.fault.ScriptError.{ScriptError}
use Rattle.fault_script.specs.declared.fault.ScriptError.TheVariants.{Fault, Memory}
use Rattle.fault_script.specs.declared.fault.ScriptFault.{ScriptFault}
use Rattle.script_words.specs.declared.rule.ScriptRule.{ScriptRule}
use Rattle.script_words.specs.declared.rule.ScriptRule.TheVariants.{TooManyLines}
use Rattle.fault_script.specs.Lines.{text_of}
use Rattle.fault_script.specs.Script.{start, with_line, whole, and_then, script_from, script, Stops, StopsLine}

-- what is left gives what the whole gives
pub record ReadSoFar (bytes : List ℕ) (reading : Reading) (number : ℕ) (rest : List ℕ) : Type 0 where
  pub whole : script_from number reading (lines rest) ≡ script bytes
  pub few : number ≤ 200001

pub read_start : (bytes : List ℕ) (reading : Reading) → reading ≡ start → ReadSoFar bytes reading 1 bytes
unfolding script
read_start bytes reading new = record { whole = ap (λ (r : Reading). script_from 1 r (lines bytes)) new; few = omega arith }

pub read_more : (bytes rest line after : List ℕ) (reading next : Reading) (number : ℕ) → ReadSoFar bytes reading number rest
    → lines rest ≡ line ∷ lines after → with_line number reading line ≡ Ok next → number ≤ 200000 → ReadSoFar bytes next (number + 1) after
read_more bytes rest line after reading next number so_far cut read few = record {
  whole = sym (ap (script_from number reading) cut ∙ ap (λ (r : Result Reading ScriptRule). and_then number r (λ n. script_from (number + 1) n (lines after))) read) ∙ so_far.whole;
  few = omega (arith, few);
}

abbrev fault_in : {A : Type 0} → ScriptFault → Result A ScriptFault → ScriptFault
fault_in default (Ok x) = default
fault_in default (Err fault) = fault

stopped : {A : Type 0} (number : ℕ) (read : Result Reading ScriptRule) (later : Reading → Result A ScriptFault) (fault : ScriptFault)
    → and_then number read (λ (next : Reading). Ok next) ≡ Err fault → and_then number read later ≡ Err fault
stopped number (Ok next) later fault is = absurd cc
stopped number (Err rule) later fault is = ap (λ (f : ScriptFault). Err f) (ap (fault_in fault) is)

-- a line stops the reading
pub read_stops : (bytes rest line after : List ℕ) (reading : Reading) (number : ℕ) (error : ScriptError) → ReadSoFar bytes reading number rest
    → lines rest ≡ line ∷ lines after → StopsLine number (with_line number reading line) error → Stops (script bytes) error
read_stops bytes rest line after reading number Memory so_far cut stops = tt
read_stops bytes rest line after reading number (Fault fault) so_far cut stops =
    sym so_far.whole ∙ ap (script_from number reading) cut ∙ stopped number (with_line number reading line) (λ n. script_from (number + 1) n (lines after)) fault stops

-- nothing is left
pub read_whole : (bytes rest : List ℕ) (reading : Reading) (number : ℕ) → ReadSoFar bytes reading number rest → length rest ≡ 0 → script bytes ≡ whole number reading reading.set reading.block
read_whole bytes [] reading number so_far none = sym so_far.whole
read_whole bytes (c ∷ rest) reading number so_far none = absurd (omega arith)

-- a line that is read is one of the first 200,000
pub counted : (number : ℕ) (reading next : Reading) (line : List ℕ) → with_line number reading line ≡ Ok next → number ≤ 200000
unfolding with_line text_of
counted number reading next line read = by_test (nat_lt 200000 number) refl
  where
    by_test : (b : Bool) → nat_lt 200000 number ≡ b → number ≤ 200000
    by_test true over = absurd (not_ok (rw over at read))
      where
        not_ok : Err TooManyLines ≡ Ok next → ⊥
        not_ok same = absurd cc
    by_test false few = grind arith
