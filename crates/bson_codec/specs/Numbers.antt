-- Numbers as bytes, the lowest first.
use Rattle.std.specs.Prelude.{ℕ, List}
use Rattle.byteorder.specs.Endian.{little_bytes, little_number}

-- the lowest n bytes of a number
unfoldable pub number_bytes : ℕ → ℕ → List ℕ
number_bytes n x = little_bytes n x

-- the number in the first n bytes
unfoldable pub number_in : ℕ → List ℕ → ℕ
number_in n bytes = little_number n bytes
