use Rattle.std.proofs.Common.{◌≡◌, ◌++◌, ◌∷◌, length}
use Rattle.std.specs.Prelude.{string_bytes}
use Rattle.std.specs.List.{flat_map}
use denote.Shadow.{shadow}
use denote.Text.{Utf8}
use Rattle.doc_text.specs.Printing.{printed_byte}
use Rattle.doc_text.proofs.writing.write_string.Given as goal

-- what is written, and what is still to be written, make the whole string
abbrev pub invariant-loop-byte : goal.invariant-loop-byte
invariant-loop-byte l =
    shadow (Utf8 l.rest) × (string_bytes l.out ++ flat_map printed_byte l.rest ≡ string_bytes l.fn.out ++ 34 ∷ flat_map printed_byte l.string)

abbrev pub decreases-loop-byte : goal.decreases-loop-byte
decreases-loop-byte l = length l.rest
