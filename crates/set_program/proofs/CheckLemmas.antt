-- A check of the source's bytes: by which words, and with which status.
use Rattle.std.proofs.Common.{◌≡◌, ◌∙◌, ◌≤◌, ℕ, true, List, [], ◌∷◌, length, Option, None, Some, Result, Ok, Err, IsErrOf, inl, inr, refl, sym, ap, arith}
use Rattle.std.specs.Prelude.{◌≢◌, IfSome, codes}
use Rattle.rs_io.specs.Fault.{CountRose}
use Rattle.oplog_entry.proofs.FieldLemmas.{same_name}
use Rattle.task_words.specs.declared.words.Task.{Task}
use Rattle.set_program.specs.Headline.{HasNoFault, IsOneOf, status_of_check}
use Rattle.task_words.specs.Tasks.{is_check, task_of}
use Rattle.trace_check.specs.declared.stop.CheckStop.{CheckStop}
use Rattle.trace_check.specs.declared.stop.CheckStop.TheVariants.{NoTrace, ReadFault, TooLong, WriteFault, Memory}
use Rattle.trace_check.specs.Ends.{Ends, limit}

-- no other task is asked for
pub no_task : (words : List (List ℕ)) (task : Task) → is_check words ≡ true → task_of words ≡ Some task → ⊥
no_task [] task checks asks = cc checks
no_task (name ∷ []) task checks asks =
    let there : task_of (codes "check" ∷ []) ≡ Some task = sym (ap (λ (n : List ℕ). task_of (n ∷ [])) (same_name name (codes "check") checks)) ∙ asks in cc there
no_task (name ∷ more ∷ others) task checks asks = cc checks

-- ---- the statuses

pub is_read_fault : (ended : Result (Unit {0}) CheckStop) → status_of_check ended ≡ 4 → ended ≡ Err ReadFault
is_read_fault (Ok done) four = absurd (cc four)
is_read_fault (Err Memory) four = absurd (cc four)
is_read_fault (Err ReadFault) four = refl
is_read_fault (Err WriteFault) four = absurd (cc four)
is_read_fault (Err TooLong) four = absurd (cc four)
is_read_fault (Err NoTrace) four = absurd (cc four)

pub is_write_fault : (ended : Result (Unit {0}) CheckStop) → status_of_check ended ≡ 5 → ended ≡ Err WriteFault
is_write_fault (Ok done) five = absurd (cc five)
is_write_fault (Err Memory) five = absurd (cc five)
is_write_fault (Err ReadFault) five = absurd (cc five)
is_write_fault (Err WriteFault) five = refl
is_write_fault (Err TooLong) five = absurd (cc five)
is_write_fault (Err NoTrace) five = absurd (cc five)

-- no disk is used
pub no_disk : (ended : Result (Unit {0}) CheckStop) → (status_of_check ended ≢ 7) × (status_of_check ended ≢ 8)
no_disk (Ok done) = (λ same. cc same, λ same. cc same)
no_disk (Err Memory) = (λ same. cc same, λ same. cc same)
no_disk (Err ReadFault) = (λ same. cc same, λ same. cc same)
no_disk (Err WriteFault) = (λ same. cc same, λ same. cc same)
no_disk (Err TooLong) = (λ same. cc same, λ same. cc same)
no_disk (Err NoTrace) = (λ same. cc same, λ same. cc same)

-- without a fault bytes within the limit are a trace or none, or memory runs out
pub check_completes : (left rest old new : Option (List ℕ)) (ended : Result (Unit {0}) CheckStop) (SteadySource SteadySink : Type 0) (reads reads' writes writes' : ℕ) → Ends left rest old new ended
    → (IsErrOf ended ReadFault → CountRose reads reads') → (IsErrOf ended WriteFault → CountRose writes writes')
    → (SteadySource → ended ≢ Err ReadFault) → (SteadySink → ended ≢ Err WriteFault)
    → HasNoFault SteadySource reads reads' → HasNoFault SteadySink writes writes' → IfSome left (λ bytes. length bytes ≤ limit → IsOneOf (0 ∷ 1 ∷ 10 ∷ []) (status_of_check ended))
check_completes None rest old new ended SteadySource SteadySink reads reads' writes writes' ends read written source sink no_read no_write = tt
check_completes (Some bytes) rest old new (Ok done) SteadySource SteadySink reads reads' writes writes' ends read written source sink no_read no_write = λ within. refl
check_completes (Some bytes) rest old new (Err Memory) SteadySource SteadySink reads reads' writes writes' ends read written source sink no_read no_write = λ within. refl
check_completes (Some bytes) rest old new (Err NoTrace) SteadySource SteadySink reads reads' writes writes' ends read written source sink no_read no_write = λ within. refl
check_completes (Some bytes) rest old new (Err TooLong) SteadySource SteadySink reads reads' writes writes' ends read written source sink no_read no_write = λ within. absurd (omega (arith, within, ends.1))
check_completes (Some bytes) rest old new (Err ReadFault) SteadySource SteadySink reads reads' writes writes' ends read written source sink no_read no_write = λ within. absurd (faultless no_read)
  where
    faultless : HasNoFault SteadySource reads reads' → ⊥
    faultless (inl steady) = source steady refl
    faultless (inr none) = none (read refl)
check_completes (Some bytes) rest old new (Err WriteFault) SteadySource SteadySink reads reads' writes writes' ends read written source sink no_read no_write = λ within. absurd (faultless no_write)
  where
    faultless : HasNoFault SteadySink writes writes' → ⊥
    faultless (inl steady) = sink steady refl
    faultless (inr none) = none (written refl)
