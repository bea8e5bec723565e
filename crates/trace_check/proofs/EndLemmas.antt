-- How a check ends, by what was read and what was put.
use Rattle.std.proofs.Common.{◌<◌, ℕ, List, length, Option, None, Some, Result, Ok, Err, Vec, inl, refl, ap, subst, arith}
use Rattle.std.specs.Prelude.{IfSome}
use Rattle.std.specs.Io.KnownBytes.{Keeps}
use Rattle.std.specs.declared.alloc.Global.{Global}
use Rattle.rs_io.specs.ReadAll.{ReadsAll}
use Rattle.rs_io.specs.declared.reading.ReadAllError.{ReadAllError}
use Rattle.rs_io.specs.declared.reading.ReadAllError.TheVariants as reads
use Rattle.run_checker.specs.Verdicts.{count_text}
use Rattle.trace_check.specs.Causes.{of_read}
use Rattle.trace_check.specs.Ends.{Ends, IfRead, IsCounted, PutsText, limit}
use Rattle.trace_check.specs.declared.stop.CheckStop.{CheckStop}
use Rattle.trace_check.specs.declared.stop.CheckStop.TheVariants.{NoTrace, ReadFault, TooLong, WriteFault, Memory}

kept : (held : Option (List ℕ)) → Keeps held held
kept None = tt
kept (Some bytes) = refl

-- the bytes weren't read
pub read_ends : (left rest held : Option (List ℕ)) (error : ReadAllError) → ReadsAll limit left rest (Err error) → Ends left rest held held (Err (of_read error))
read_ends left rest held reads.ReadFault so = kept held
read_ends left rest held reads.Memory so = kept held
read_ends left rest held reads.TooLong so = (kept held, over left rest so)
  where
    over : (l r : Option (List ℕ)) → ReadsAll limit l r (Err reads.TooLong) → IfSome l (λ bytes. limit < length bytes)
    over None r so = tt
    over (Some before) None so = absurd so
    over (Some before) (Some after) so = omega (arith, so)

-- they were
pub is_read : (left rest : Option (List ℕ)) (bytes : Vec ℕ Global) (Holds : List ℕ → Type 0) → ReadsAll limit left rest (Ok bytes) → Holds bytes.items → IfRead left rest Holds
is_read None rest bytes Holds so holds = tt
is_read (Some before) None bytes Holds so holds = absurd so
is_read (Some before) (Some after) bytes Holds so holds = (so.2, ap Some so.1, subst Holds so.0 holds)

-- they are a trace, and that was put
pub count_ends : (left rest old new : Option (List ℕ)) (count : ℕ) (result : Result (Unit {0}) CheckStop) → IfRead left rest (IsCounted count) → PutsText old new (count_text count) result → Ends left rest old new result
count_ends left rest old new count (Ok done) read puts = (count, read, puts)
count_ends left rest old new count (Err WriteFault) read puts = inl (count, read, puts)
count_ends left rest old new count (Err Memory) read puts = puts
count_ends left rest old new count (Err NoTrace) read puts = absurd puts
count_ends left rest old new count (Err ReadFault) read puts = absurd puts
count_ends left rest old new count (Err TooLong) read puts = absurd puts
