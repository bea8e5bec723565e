-- The bytes of an optime.
use Rattle.std.specs.Prelude.{List, ℕ, ◌++◌}
use Rattle.rs_optime.specs.declared.optime.OpTime.{OpTime}
use Rattle.bson_codec.specs.Numbers.{number_bytes}

abbrev pub optime_bytes : OpTime → List ℕ
optime_bytes at = number_bytes 8 at.term ++ number_bytes 8 at.ts
