-- Reading a question line by line.
use Rattle.std.proofs.Common.{◌≡◌, ℕ, ◌+◌, ◌≤◌, Bool, true, false, List, [], ◌∷◌, length, Result, Ok, Err, refl, ap, sym, ◌∙◌, arith}
use Rattle.std.specs.Prelude.{nat_lt}
use Rattle.std.specs.Str.Lines.{lines}
use Rattle.script_words.specs.declared.rule.ScriptRule.TheVariants.{TooManyLines}
use Rattle.fault_script.specs.Lines.{text_of}
use Rattle.explore_words.specs.declared.fault.QuestionError.{QuestionError}
use Rattle.explore_words.specs.declared.fault.QuestionError.TheVariants.{Fault, Memory}
use Rattle.explore_words.specs.declared.fault.QuestionFault.{QuestionFault}
use Rattle.explore_words.specs.declared.fault.QuestionRule.{QuestionRule}
use Rattle.explore_words.specs.declared.fault.QuestionRule.TheVariants.{Script}
use Rattle.explore_words.specs.declared.question.Question.{Question}
use Rattle.explore_words.specs.declared.reading.Reading.{Reading}
use Rattle.explore_words.specs.Question.{start, with_line, whole, and_then, question_from, question, Stops, StopsLine}

-- what is left gives what the whole gives
pub record ReadSoFar (bytes : List ℕ) (reading : Reading) (number : ℕ) (rest : List ℕ) : Type 0 where
  pub whole : question_from number reading (lines rest) ≡ question bytes
  pub few : number ≤ 200001

pub read_start : (bytes : List ℕ) (reading : Reading) → reading ≡ start → ReadSoFar bytes reading 1 bytes
unfolding question
read_start bytes reading new = record { whole = ap (λ (r : Reading). question_from 1 r (lines bytes)) new; few = omega arith }

pub read_more : (bytes rest line after : List ℕ) (reading next : Reading) (number : ℕ) → ReadSoFar bytes reading number rest
    → lines rest ≡ line ∷ lines after → with_line number reading line ≡ Ok next → number ≤ 200000 → ReadSoFar bytes next (number + 1) after
read_more bytes rest line after reading next number so_far cut read few = record {
  whole = sym (ap (question_from number reading) cut ∙ ap (λ (r : Result Reading QuestionRule). and_then number r (λ n. question_from (number + 1) n (lines after))) read) ∙ so_far.whole;
  few = omega (arith, few);
}

abbrev fault_in : {A : Type 0} → QuestionFault → Result A QuestionFault → QuestionFault
fault_in default (Ok x) = default
fault_in default (Err fault) = fault

stopped : {A B : Type 0} (number : ℕ) (read : Result A QuestionRule) (later : A → Result B QuestionFault) (fault : QuestionFault)
    → and_then number read (λ (next : A). Ok next) ≡ Err fault → and_then number read later ≡ Err fault
stopped number (Ok next) later fault is = absurd cc
stopped number (Err rule) later fault is = ap (λ (f : QuestionFault). Err f) (ap (fault_in fault) is)

-- a line stops the reading
pub read_stops : (bytes rest line after : List ℕ) (reading : Reading) (number : ℕ) (error : QuestionError) → ReadSoFar bytes reading number rest
    → lines rest ≡ line ∷ lines after → StopsLine number (with_line number reading line) error → Stops (question bytes) error
read_stops bytes rest line after reading number Memory so_far cut stops = tt
read_stops bytes rest line after reading number (Fault fault) so_far cut stops =
    sym so_far.whole ∙ ap (question_from number reading) cut ∙ stopped number (with_line number reading line) (λ n. question_from (number + 1) n (lines after)) fault stops

ended_so : (bytes rest : List ℕ) (reading : Reading) (number : ℕ) → ReadSoFar bytes reading number rest → length rest ≡ 0
    → question bytes ≡ and_then number (whole reading reading.set) (λ question. Ok question)
ended_so bytes [] reading number so_far none = sym so_far.whole
ended_so bytes (c ∷ rest) reading number so_far none = absurd (omega arith)

-- nothing is left
pub read_whole : (bytes rest : List ℕ) (reading : Reading) (number : ℕ) (read : Question) → ReadSoFar bytes reading number rest → length rest ≡ 0
    → whole reading reading.set ≡ Ok read → question bytes ≡ Ok read
read_whole bytes rest reading number read so_far none is =
    ended_so bytes rest reading number so_far none ∙ ap (λ (r : Result Question QuestionRule). and_then number r (λ question. Ok question)) is

-- nothing is left, and that is a fault
pub end_stops : (bytes rest : List ℕ) (reading : Reading) (number : ℕ) (error : QuestionError) → ReadSoFar bytes reading number rest → length rest ≡ 0
    → StopsLine number (whole reading reading.set) error → Stops (question bytes) error
end_stops bytes rest reading number Memory so_far none stops = tt
end_stops bytes rest reading number (Fault fault) so_far none stops = ended_so bytes rest reading number so_far none ∙ stops

-- a line that is read is one of the first 200,000
pub counted : (number : ℕ) (reading next : Reading) (line : List ℕ) → with_line number reading line ≡ Ok next → number ≤ 200000
unfolding with_line text_of
counted number reading next line read = by_test (nat_lt 200000 number) refl
  where
    by_test : (b : Bool) → nat_lt 200000 number ≡ b → number ≤ 200000
    by_test true over = absurd (not_ok (rw over at read))
      where
        not_ok : Err (Script TooManyLines) ≡ Ok next → ⊥
        not_ok same = absurd cc
    by_test false few = grind arith
