-- A line of a script, before its words are looked at.
use Rattle.std.specs.Prelude.{ℕ, Bool, true, ◌==◌, nat_lt, List, [], ◌∷◌, length, Result, Ok, Err, if◌then◌else◌}
use Rattle.std.specs.Str.{is_utf8}
use Rattle.script_words.specs.declared.rule.ScriptRule.{ScriptRule}
use Rattle.script_words.specs.declared.rule.ScriptRule.TheVariants.{TooManyLines, LineTooLong, NotUtf8}

-- a script has at most this many lines
abbrev pub MOST_LINES : ℕ
MOST_LINES = 200000

-- the text of the line of this number, or its first fault that doesn't depend on its words
unfoldable pub text_of : ℕ → List ℕ → Result (List ℕ) ScriptRule
text_of number line =
    if nat_lt MOST_LINES number then Err TooManyLines
    else if nat_lt 1048576 (length line) then Err LineTooLong
    else if is_utf8 line then Ok line
    else Err NotUtf8

-- an empty line, or a comment
abbrev pub is_passed_over : List ℕ → Bool
is_passed_over [] = true
is_passed_over (c ∷ line) = c == 35
