-- What is printed about bytes that were checked.
use Rattle.std.specs.Prelude.{ℕ, List, [], ◌++◌, codes}
use Rattle.std.specs.Fmt.{decimal}
use Rattle.run_checker.specs.declared.checking.CheckError.{CheckError}
use Rattle.run_checker.specs.declared.checking.CheckError.TheVariants.{BadHeader, BadEvent, Memory, NoFit, OtherReply}

-- they are a trace of this many events
abbrev pub count_text : ℕ → List ℕ
count_text count = codes "yes " ++ decimal count ++ codes "\n"

abbrev pub named_line : ℕ → List ℕ → List ℕ
named_line number reason = codes "line " ++ decimal number ++ codes ": " ++ reason ++ codes "\n"

-- they aren't one, as this line shows; nothing if memory ran out
abbrev pub no_trace_text : CheckError → List ℕ
no_trace_text (BadHeader number) = named_line number (codes "BadHeader")
no_trace_text (BadEvent number) = named_line number (codes "BadEvent")
no_trace_text (NoFit number) = named_line number (codes "NoFit")
no_trace_text (OtherReply number) = named_line number (codes "OtherReply")
no_trace_text Memory = []
