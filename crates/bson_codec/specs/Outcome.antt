-- What a reader returns: what the definition of reading gives, unless memory ran out.
use Rattle.std.specs.Prelude.{◌≡◌, Result, Ok, Err}
use Rattle.bson_codec.specs.declared.error.DecodeError.{DecodeError}
use Rattle.bson_codec.specs.declared.error.DecodeError.TheVariants.{Memory}

abbrev pub Fails : {Y : Type 0} → DecodeError → Result Y DecodeError → Type 0
Fails Memory read = Unit {0}
Fails e read = read ≡ Err e

-- what a function returned, as view shows it, is what reading gives, unless memory ran out
abbrev pub Gives : {X Y : Type 0} → (X → Y) → Result X DecodeError → Result Y DecodeError → Type 0
Gives view (Ok x) read = read ≡ Ok (view x)
Gives view (Err e) read = Fails e read
