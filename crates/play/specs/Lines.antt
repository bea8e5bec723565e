-- What a line says to a set that is played.
--
-- A line is one of a script, after its `set` line, in a set without disks and blocks. Its first fault is
-- found in this order: a line feed in it, the faults of a script's line, and then that it can't be done here.
use Rattle.std.specs.Prelude.{◌≡◌, ⊤, ℕ, Bool, true, false, ◌==◌, List, ◌++◌, Option, None, Some, Result, Ok, Err, codes, position, if◌then◌else◌}
use Rattle.std.specs.Fmt.{decimal}
use Rattle.std.specs.Option.{is_some}
use Rattle.bson_doc.specs.Bind.{◌>>=◌}
use Rattle.checker_machine.specs.Plain.{is_reading}
use Rattle.fault_script.specs.Lines.{is_passed_over, text_of}
use Rattle.script_words.specs.Commands.{keyword_at, words_at}
use Rattle.script_words.specs.Words.{Left}
use Rattle.script_words.specs.declared.rule.LineError.{LineError}
use Rattle.script_words.specs.declared.rule.LineError.TheVariants as lines
use Rattle.script_words.specs.declared.rule.ScriptRule.{ScriptRule}
use Rattle.script_words.specs.declared.verb.Keyword.{Keyword}
use Rattle.script_words.specs.declared.verb.Keyword.TheVariants as keywords
use Rattle.set_model.specs.declared.command.Command.{Command}
use Rattle.set_model.specs.declared.command.Command.TheVariants.{DiskFail}
use Rattle.transcript.specs.Faults.{fault_text}
use Rattle.play.specs.declared.rule.LineRule.{LineRule}
use Rattle.play.specs.declared.rule.LineRule.TheVariants.{LineFeed, NoBlocks, NoDisks, NoQuestion, Script}
use Rattle.play.specs.declared.rule.PlayError.{PlayError}
use Rattle.play.specs.declared.rule.PlayError.TheVariants as errors

-- ---- what a line says

-- a fault of scripts is one of lines
abbrev pub by_script : {A : Type 0} → Result A ScriptRule → Result A LineRule
by_script (Ok x) = Ok x
by_script (Err rule) = Err (Script rule)

abbrev pub lets_disk_fail : Command → Bool
lets_disk_fail (DiskFail node disk call pick) = true
lets_disk_fail _ = false

-- a set without disks does all commands but one
abbrev pub without_disks : Command → Result Command LineRule
without_disks command = if lets_disk_fail command then Err NoDisks else Ok command

-- in a set of so many nodes
abbrev pub keyword_said : ℕ → Keyword × Left → Result Command LineRule
keyword_said nodes (keywords.Par, left) = Err NoBlocks
keyword_said nodes (keywords.Thread, left) = Err NoBlocks
keyword_said nodes (keywords.End, left) = Err NoBlocks
keyword_said nodes (keywords.Command verb, left) = by_script (words_at nodes verb left) >>= without_disks

-- the command that a text spells
unfoldable pub command_said : ℕ → List ℕ → Result Command LineRule
command_said nodes text = do
  keyword ← by_script (keyword_at text)
  keyword_said nodes keyword

abbrev pub has_line_feed : List ℕ → Bool
has_line_feed line = is_some (position (λ byte. byte == 10) line)

-- the text of a line with this number
abbrev pub line_said : ℕ → List ℕ → Result (List ℕ) LineRule
line_said number line = if has_line_feed line then Err LineFeed else by_script (text_of number line)

abbrev pub as_said : Command → Option Command
as_said command = Some command

-- the command of a line with this number in a set of so many nodes; none, where it is empty or a comment
unfoldable pub said : ℕ → ℕ → List ℕ → Result (Option Command) LineRule
said nodes number line = do
  text ← line_said number line
  if is_passed_over text then Ok None else command_said nodes text >>= λ command. Ok (as_said command)

-- the command of a line that looks at something
abbrev pub looking : Option Command → Result Command LineRule
looking None = Err NoQuestion
looking (Some command) = if is_reading command then Ok command else Err NoQuestion

-- ---- what is answered

-- the rule that the line breaks, unless memory ran out
abbrev pub Fails : {Y : Type 0} → PlayError → Result Y LineRule → Type 0
Fails errors.Memory said = ⊤
Fails (errors.Rule rule) said = said ≡ Err rule

-- that is what the line says, unless memory ran out
abbrev pub Says : {X Y : Type 0} → (X → Y) → Result X PlayError → Result Y LineRule → Type 0
Says view (Ok x) said = said ≡ Ok (view x)
Says view (Err error) said = Fails error said

abbrev pub play_error : LineError → PlayError
play_error (lines.Rule rule) = errors.Rule (Script rule)
play_error lines.Memory = errors.Memory

-- ---- how it is printed

-- as a script's fault, where it is no rule of scripts
abbrev pub own_name : ℕ → List ℕ → List ℕ
own_name number name = codes "line " ++ decimal number ++ codes ": " ++ name ++ codes "\n"

abbrev pub bad_line_text : ℕ → LineRule → List ℕ
bad_line_text number (Script rule) = fault_text (record { line = number; rule = rule })
bad_line_text number LineFeed = own_name number (codes "LineFeed")
bad_line_text number NoDisks = own_name number (codes "NoDisks")
bad_line_text number NoBlocks = own_name number (codes "NoBlocks")
bad_line_text number NoQuestion = own_name number (codes "NoQuestion")
