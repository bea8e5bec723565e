-- The words of a line, from left to right, and the first rule that one of them breaks.
use Rattle.std.specs.Prelude.{ℕ, zero, suc, ◌+◌, ◌*◌, Bool, true, false, ◌==◌, ◌&&◌, nat_le, nat_lt, List, [], ◌∷◌, length, Option, None, Some, codes, Result, Ok, Err, if◌then◌else◌}
use Rattle.std.specs.List.{before_first, after_first, list_any, list_all, count_by}
use Rattle.std.specs.Char.{is_ascii_digit}
use Rattle.std.specs.Str.{bytes_eq}
use Rattle.std.specs.Str.Parse.{digits_value}
use Rattle.rs_optime.specs.declared.optime.OpTime.{OpTime}
use Rattle.bson_doc.specs.Bind.{◌>>=◌}
pub use Rattle.doc_text.specs.Bytes.{is_space}
use Rattle.set_model.specs.declared.command.AckConcern.{AckConcern}
use Rattle.set_model.specs.declared.command.AckConcern.TheVariants as concerns
use Rattle.set_model.specs.declared.command.DiskName.{DiskName}
use Rattle.set_model.specs.declared.command.DiskName.TheVariants as disks
use Rattle.set_model.specs.declared.command.ReadLevel.{ReadLevel}
use Rattle.set_model.specs.declared.command.ReadLevel.TheVariants as levels
use Rattle.set_model.specs.declared.command.Target.{Target}
use Rattle.set_model.specs.declared.command.Target.TheVariants as targets
use Rattle.set_model.specs.Limits.{is_collection}
use Rattle.script_words.specs.declared.rule.ScriptRule.{ScriptRule}
use Rattle.script_words.specs.declared.rule.ScriptRule.TheVariants.{WordCount, BadNode, BadNumber, BadWord}
use Rattle.script_words.specs.declared.shape.Shape.{Shape}
use Rattle.script_words.specs.declared.shape.Shape.TheVariants.{Words, Value}

-- what is left of a line: what follows the last space, or nothing after the last word
abbrev pub Left : Type 0
Left = Option (List ℕ)

-- what was read, and what is left after it
abbrev pub Read : Type 0 → Type 0
Read A = Result (A × Left) ScriptRule

-- ---- how many words there are

-- what follows the first space, if there is one
abbrev pub left_after : List ℕ → Left
left_after text = if list_any is_space text then Some (after_first is_space text) else None

abbrev pub after_word : Left → Left
after_word None = None
after_word (Some text) = left_after text

-- what is left after this many words
abbrev pub skip : ℕ → Left → Left
skip zero left = left
skip (suc words) left = after_word (skip words left)

-- at least one byte is left
abbrev pub has_text : Left → Bool
has_text None = false
has_text (Some []) = false
has_text (Some (c ∷ rest)) = true

abbrev pub word_count : Left → ℕ
word_count None = 0
word_count (Some text) = count_by is_space text + 1

-- a line has as many words after its first one as its form asks for
abbrev pub has_shape : Shape → Left → Bool
has_shape (Words least most) left = nat_le least (word_count left) && nat_le (word_count left) most
has_shape (Value before) left = has_text (skip before left)

-- ---- words

-- the word up to the next space, or up to the line's end
unfoldable pub word_at : Left → Read (List ℕ)
word_at None = Err WordCount
word_at (Some text) = Ok (before_first is_space text, left_after text)

-- nothing is left
abbrev pub ended : {A : Type 0} → Left → A → Result A ScriptRule
ended None value = Ok value
ended (Some text) value = Err WordCount

-- One or more decimal digits, a number in this range. Other words break the first rule, other numbers the
-- second.
abbrev pub number_of : ScriptRule → ScriptRule → ℕ → ℕ → List ℕ → Result ℕ ScriptRule
number_of form range least most word =
    if nat_lt 0 (length word) && list_all is_ascii_digit word
    then (if nat_le least (digits_value 10 word) && nat_le (digits_value 10 word) most
    then Ok (digits_value 10 word)
    else Err range)
    else Err form

-- a letter and a number
abbrev pub numbered : ScriptRule → ℕ → ℕ → List ℕ → Result ℕ ScriptRule
numbered rule letter most [] = Err rule
numbered rule letter most (c ∷ digits) = if c == letter then number_of rule rule 0 most digits else Err rule

-- a number in a range
unfoldable pub number_at : ℕ → ℕ → Left → Read ℕ
number_at least most left = do
  word ← word_at left
  number ← number_of BadWord BadNumber least most word.0
  Ok (number, word.1)

-- a number in a range, or its default if no word is left
abbrev pub optional_at : ℕ → ℕ → ℕ → Left → Read ℕ
optional_at default least most None = Ok (default, None)
optional_at default least most (Some text) = number_at least most (Some text)

-- any number, or none if no word is left
unfoldable pub pick_at : Left → Read (Option ℕ)
pick_at None = Ok (None, None)
pick_at (Some text) = do
  pick ← number_at 0 18446744073709551615 (Some text)
  Ok (Some pick.0, pick.1)

-- `n` and a number: a node of a set of this size
unfoldable pub node_at : ℕ → Left → Read ℕ
node_at nodes left = do
  word ← word_at left
  number ← numbered BadNode 110 4294967295 word.0
  if nat_lt number nodes then Ok (number, word.1) else Err BadNode

-- a node other than this one
unfoldable pub other_node_at : ℕ → ℕ → Left → Read ℕ
other_node_at nodes node left = do
  other ← node_at nodes left
  if other.0 == node then Err BadNode else Ok other

-- `w` and a number: a writer
unfoldable pub writer_at : Left → Read ℕ
writer_at left = do
  word ← word_at left
  number ← numbered BadWord 119 999 word.0
  Ok (number, word.1)

-- `m` and a number: a message
unfoldable pub message_at : Left → Read ℕ
message_at left = do
  word ← word_at left
  number ← numbered BadWord 109 18446744073709551615 word.0
  Ok (number, word.1)

unfoldable pub collection_at : Left → Read (List ℕ)
collection_at left = do
  word ← word_at left
  if is_collection word.0 then Ok word else Err BadWord

abbrev pub is_slash : ℕ → Bool
is_slash c = c == 47

-- what comes before the first slash, and what follows it
abbrev pub cut_at_slash : List ℕ → Result (List ℕ × List ℕ) ScriptRule
cut_at_slash text =
    if list_any is_slash text then Ok (before_first is_slash text, after_first is_slash text) else Err BadWord

-- TERM/SECONDS/INCREMENT
unfoldable pub optime_of : List ℕ → Result OpTime ScriptRule
optime_of word = do
  term ← cut_at_slash word
  time ← cut_at_slash term.1
  number ← number_of BadWord BadWord 0 18446744073709551615 term.0
  seconds ← number_of BadWord BadWord 0 4294967295 time.0
  increment ← number_of BadWord BadWord 0 4294967295 time.1
  Ok (record { term = number; ts = seconds * 4294967296 + increment })

unfoldable pub optime_target : List ℕ → Result Target ScriptRule
optime_target word = do
  at ← optime_of word
  Ok (targets.At at)

unfoldable pub writer_target : List ℕ → Result Target ScriptRule
writer_target digits = do
  writer ← number_of BadWord BadWord 0 999 digits
  Ok (targets.Writer writer)

-- a writer, or an optime
abbrev pub target_of : List ℕ → Result Target ScriptRule
target_of [] = Err BadWord
target_of (c ∷ digits) = if c == 119 then writer_target digits else optime_target (c ∷ digits)

-- `majority`, or how many
unfoldable pub concern_of : List ℕ → Result AckConcern ScriptRule
concern_of word =
    if bytes_eq word (codes "majority") then Ok concerns.Majority
    else (number_of BadWord BadNumber 1 50 word >>= λ count. Ok (concerns.Count count))

abbrev pub level_of : List ℕ → Result ReadLevel ScriptRule
level_of word =
    if bytes_eq word (codes "local") then Ok levels.Local
    else if bytes_eq word (codes "majority") then Ok levels.Majority
    else Err BadWord

abbrev pub disk_of : List ℕ → Result DiskName ScriptRule
disk_of word =
    if bytes_eq word (codes "journal") then Ok disks.Journal
    else if bytes_eq word (codes "checkpoint") then Ok disks.Checkpoint
    else Err BadWord

unfoldable pub target_at : Left → Read Target
target_at left = do
  word ← word_at left
  target ← target_of word.0
  Ok (target, word.1)

unfoldable pub concern_at : Left → Read AckConcern
concern_at left = do
  word ← word_at left
  concern ← concern_of word.0
  Ok (concern, word.1)

unfoldable pub level_at : Left → Read ReadLevel
level_at left = do
  word ← word_at left
  level ← level_of word.0
  Ok (level, word.1)

unfoldable pub disk_at : Left → Read DiskName
disk_at left = do
  word ← word_at left
  disk ← disk_of word.0
  Ok (disk, word.1)
