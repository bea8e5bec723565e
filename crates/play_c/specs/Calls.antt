-- What calls do with a set, and what they answer.
use Rattle.std.specs.Prelude.{◌≡◌, ℕ, ◌==◌, List, [], ◌++◌, Option, None, Some, Result, Ok, Err, codes, if◌then◌else◌}
use Rattle.std.specs.Fmt.{decimal}
use Rattle.std.specs.Str.Lines.{lines}
use Rattle.set_model.specs.declared.command.Command.{Command}
use Rattle.play.specs.Lines.{bad_line_text}
use Rattle.play.specs.Play.{Played, Plays, PlaysAll, StopsIn, asked_of, reply_to, said_to, script_of, sent_from, trace_of}
use Rattle.play.specs.declared.rule.LineRule.{LineRule}
use Rattle.play.specs.declared.rule.PlayError.{PlayError}
use Rattle.play.specs.declared.rule.PlayError.TheVariants as errors
use Rattle.play_c.specs.declared.calls.Answer.{Answer}
use Rattle.play_c.specs.declared.calls.Answer.TheVariants.{BadCall, BadLine, BadSizes, Done, Memory, NoSet}
use Rattle.play_c.specs.declared.calls.Call.{Call}
use Rattle.play_c.specs.declared.calls.Call.TheVariants as calls
use Rattle.play_c.specs.Holding.{Holding}

-- ---- numbers

-- the call of a number
unfoldable pub call_of : ℕ → Option Call
call_of number =
    if number == 1 then Some calls.Step else
    if number == 2 then Some calls.Steps else
    if number == 3 then Some calls.Ask else
    if number == 4 then Some calls.Script else
    if number == 5 then Some calls.Trace else
    if number == 6 then Some calls.Messages else
    if number == 7 then Some calls.Line else
    if number == 8 then Some calls.Text else None

abbrev pub number_of : Answer → ℕ
number_of Done = 0
number_of BadLine = 1
number_of Memory = 2
number_of BadSizes = 3
number_of BadCall = 4
number_of NoSet = 5

-- ---- each call

-- a set before its first call
abbrev pub fresh : Played → Holding
fresh play = record { play = play; text = [] }

-- The line was played, and the text is its reply; or it breaks the rule that the text names.
abbrev pub PlaysOne : List ℕ → Played → Holding → Answer → Type 0
PlaysOne line old new Done = Plays old line new.play new.text
PlaysOne line old new BadLine =
    (new.play ≡ old) × (rule : LineRule) × (said_to old line ≡ Err rule)
    × (new.text ≡ bad_line_text old.line rule)
PlaysOne line old new Memory = new.play ≡ old
PlaysOne line old new _ = ⊥

-- The lines were played, up to one that couldn't be, and the text has their replies and then that one's rule.
abbrev pub PlaysLines : List ℕ → Played → Holding → Answer → Type 0
PlaysLines text old new Done = PlaysAll old (lines text) new.play new.text
PlaysLines text old new BadLine =
    (told : List ℕ) × (rule : LineRule) × StopsIn old (lines text) (errors.Rule rule) new.play told
    × (new.text ≡ told ++ bad_line_text new.play.line rule)
PlaysLines text old new Memory =
    (told : List ℕ) × (why : PlayError) × StopsIn old (lines text) why new.play told
PlaysLines text old new _ = ⊥

-- the text is what the line would be answered, and nothing is played
abbrev pub Asks : List ℕ → Played → Holding → Answer → Type 0
Asks line old new Done =
    (new.play ≡ old) × (command : Command) × (asked_of old line ≡ Ok command)
    × (new.text ≡ reply_to old command)
Asks line old new BadLine =
    (new.play ≡ old) × (rule : LineRule) × (asked_of old line ≡ Err rule)
    × (new.text ≡ bad_line_text old.line rule)
Asks line old new Memory = new.play ≡ old
Asks line old new _ = ⊥

-- the call's text is this one, and nothing is played
abbrev pub Shows : List ℕ → Played → Holding → Answer → Type 0
Shows text old new Done = (new.play ≡ old) × (new.text ≡ text)
Shows text old new Memory = new.play ≡ old
Shows text old new _ = ⊥

-- the number of the next line
abbrev pub next_line : Played → List ℕ
next_line play = decimal play.line ++ codes "\n"

-- what a call does with a number and a line
abbrev pub Does : Option Call → ℕ → List ℕ → Holding → Holding → Answer → Type 0
Does (Some calls.Step) number line old new answer = PlaysOne line old.play new answer
Does (Some calls.Steps) number line old new answer = PlaysLines line old.play new answer
Does (Some calls.Ask) number line old new answer = Asks line old.play new answer
Does (Some calls.Script) number line old new answer = Shows (script_of old.play) old.play new answer
Does (Some calls.Trace) number line old new answer = Shows (trace_of old.play) old.play new answer
Does (Some calls.Messages) number line old new answer = Shows (sent_from number old.play) old.play new answer
Does (Some calls.Line) number line old new answer = Shows (next_line old.play) old.play new answer
Does (Some calls.Text) number line old new answer = (answer ≡ Done) × (new ≡ old)
Does None number line old new answer = (answer ≡ BadCall) × (new ≡ fresh old.play)

-- ---- after lines were played

-- the rule of a bad line is named after the replies
abbrev pub Tells : {A : Type 0} → Result A PlayError → Holding → Holding → Answer → Type 0
Tells (Ok x) old new answer = (answer ≡ Done) × (new ≡ old)
Tells (Err errors.Memory) old new answer = (answer ≡ Memory) × (new ≡ old)
Tells (Err (errors.Rule rule)) old new BadLine =
    (new.play ≡ old.play) × (new.text ≡ old.text ++ bad_line_text old.play.line rule)
Tells (Err (errors.Rule rule)) old new Memory = new.play ≡ old.play
Tells (Err (errors.Rule rule)) old new _ = ⊥
