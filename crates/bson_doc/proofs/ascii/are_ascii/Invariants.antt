use Rattle.std.proofs.Common.{◌<◌, ℕ, slice_index}
use Rattle.std.specs.Bool.{MatchBool}
use Rattle.std.specs.Str.{IsNotAscii}
use Rattle.bson_doc.proofs.ascii.are_ascii.Given as goal

abbrev pub invariant-loop-byte : goal.invariant-loop-byte
invariant-loop-byte l = MatchBool l.all ((place : ℕ) → place < l.byte-index → slice_index l.bytes place < 128) (IsNotAscii l.bytes)
