-- Classes of bytes of the notation.
use Rattle.std.specs.Prelude.{ℕ, Bool, not, ◌&&◌, ◌||◌, ◌==◌, nat_le, nat_lt}
use Rattle.std.specs.Char.{is_ascii_digit}

abbrev pub is_space : ℕ → Bool
is_space c = c == 32

-- a letter of ASCII, `_` or `$`: what a bare name may begin with
abbrev pub is_name_start : ℕ → Bool
is_name_start c = (nat_le 65 c && nat_le c 90) || (nat_le 97 c && nat_le c 122) || c == 95 || c == 36

-- what a bare name may continue with
abbrev pub is_name_byte : ℕ → Bool
is_name_byte c = is_name_start c || is_ascii_digit c

-- a control character of ASCII: below 0x20, or 0x7f
abbrev pub is_control : ℕ → Bool
is_control c = nat_lt c 32 || c == 127

-- what stands for itself in a string
abbrev pub is_plain : ℕ → Bool
is_plain c = not (is_control c) && not (c == 34) && not (c == 92)
