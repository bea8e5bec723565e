-- A script: empty lines up to its `set` line, that line, and those that were played.
use Rattle.std.specs.Prelude.{ℕ, ◌-◌, List, ◌++◌, codes, map, replicate, string_bytes}
use Rattle.std.specs.Fmt.{decimal}
use Rattle.std.specs.List.{flat_map}
use Rattle.std.specs.declared.alloc.Global.{Global}
use Rattle.std.specs.declared.string.String.{String}
use Rattle.std.specs.declared.sync.Arc.{Arc}

-- lines that several sets may share
abbrev pub texts_of : List (Arc (String Global) Global) → List (List ℕ)
texts_of lines = map (λ (line : Arc (String Global) Global). string_bytes line.value) lines

-- a line with its line feed
abbrev pub ended : List ℕ → List ℕ
ended line = line ++ codes "\n"

abbrev pub lines_text : List (List ℕ) → List ℕ
lines_text lines = flat_map ended lines

abbrev pub set_text : ℕ × ℕ × ℕ → List ℕ
set_text sizes =
    codes "set " ++ decimal sizes.0 ++ codes " " ++ decimal sizes.1 ++ codes " " ++ decimal sizes.2
    ++ codes "\n"

-- The `set` line is that of this number.
abbrev pub opening_text : ℕ × ℕ × ℕ → ℕ → List ℕ
opening_text sizes first = replicate (first - 1) 10 ++ set_text sizes
