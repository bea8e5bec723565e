-- What a question is.
--
-- Its lines are those of a script, which the definition of a script tells: how they end, how many there may
-- be, and which say nothing. The first one that says something is a `set` line. Then come
--
--     the beginning      commands of scripts, but `diskfail`
--     may [N]            begins an act, which may be done any number of times, or at most N times, 1 to 1,000
--       ..               its lines: commands, but `diskfail` and `deliver M`; the first may be `deliver *`
--     want               begins a want
--       ..               its lines: `COMMAND => TEXT`
--
-- in this order: 1 to 1,000 acts of 1 to 1,000 lines, and then 1 to 100 wants of at least one line. Blocks of
-- threads have no place in a question.
--
-- `deliver *` is the delivery of any message that was sent. `deliver N N` is that of the newest one from the
-- first to the second that was sent in the act.
--
-- A want is one event, or what is seen at one moment. An event is a line with a command that isn't one of
-- `read`, `dump`, `log`, `state`, `rolled` and `ack`. Each of its nodes may be `*`, for any. `deliver *` is
-- any delivery; there is no `deliver M`. What is seen are one or more lines with these six commands, and with
-- `ack N of COLL ID CONCERN`, where CONCERN is the last word; their node may be `*`, for any, the same in all
-- lines of the want.
--
-- TEXT follows the last ` => ` of the line and has at least one byte. It goes on with each later line that
-- begins with two spaces. No word of it begins with `m` where the command sends messages, and that of a
-- delivery doesn't begin alike with `ignored`, `refused` or `vote refused`.
--
-- The first faulty line is told, with its first fault in this order: those of a script's line, up to an
-- unknown first word and the number of words; before these, in a want, that there is no ` => ` with a text
-- after it; then what may not stand there, that the act or the want before has no line, and that there are
-- too many acts or wants; then the words from left to right, and last which texts a want may have. After the
-- last line, as faults of the line after it, are told that there was no `set` line, no act, or no want, and
-- that the last act or want has no line.
use Rattle.std.specs.Prelude.{ℕ, ◌≡◌, ◌+◌, Bool, true, false, ◌==◌, ◌&&◌, nat_lt, List, [], ◌∷◌, ◌++◌, length, codes, Option, None, Some, Result, Ok, Err, if◌then◌else◌}
use Rattle.std.specs.Str.{bytes_eq}
use Rattle.std.specs.Str.Lines.{lines}
use Rattle.bson_doc.specs.Bind.{◌>>=◌}
use Rattle.set_model.specs.declared.command.Command.{Command}
use Rattle.script_words.specs.Commands.{words_at}
use Rattle.script_words.specs.Set.{set_line}
use Rattle.script_words.specs.Words.{Left, has_shape, number_at, word_at}
use Rattle.script_words.specs.declared.rule.ScriptRule.{ScriptRule}
use Rattle.script_words.specs.declared.rule.ScriptRule.TheVariants.{NoSetLine, StrayLine, WordCount}
use Rattle.script_words.specs.declared.set.SetLine.{SetLine}
use Rattle.script_words.specs.declared.shape.Shape.TheVariants.{Words}
use Rattle.script_words.specs.declared.verb.Verb.{Verb}
use Rattle.fault_script.specs.Lines.{is_passed_over, text_of}
use Rattle.explore_words.specs.declared.fault.QuestionError.{QuestionError}
use Rattle.explore_words.specs.declared.fault.QuestionError.TheVariants.{Fault, Memory}
use Rattle.explore_words.specs.declared.fault.QuestionFault.{QuestionFault}
use Rattle.explore_words.specs.declared.fault.QuestionRule.{QuestionRule}
use Rattle.explore_words.specs.declared.fault.QuestionRule.TheVariants.{BadAct, BadWant, NoMayLine, NoWantLine, Script, TooManyActs, TooManyWants}
use Rattle.explore_words.specs.declared.question.Act.{Act}
use Rattle.explore_words.specs.declared.question.Question.{Question}
use Rattle.explore_words.specs.declared.question.Want.{Want}
use Rattle.explore_words.specs.declared.question.Want.TheVariants.{Seen}
use Rattle.explore_words.specs.declared.reading.Reading.{Reading}
use Rattle.explore_words.specs.Gives.{as_scripts}
use Rattle.explore_words.specs.Commands.{is_star, names_one, verb_at}
use Rattle.explore_words.specs.Wants.{is_new, want_line}

-- ---- what is known after some lines: the sizes of the set, the beginning, the acts, the one that is being
-- ---- read, and the wants likewise

abbrev pub start : Reading
start = record { set = None; beginning = []; acts = []; act = None; wants = []; want = None }

abbrev pub with_sizes : Reading → SetLine → Reading
with_sizes reading sizes = record reading { set = Some sizes }

abbrev pub with_first : Reading → Command → Reading
with_first reading command = record reading { beginning = reading.beginning ++ command ∷ [] }

abbrev pub with_act : Reading → Act → Reading
with_act reading act = record reading { act = Some act }

abbrev pub with_want : Reading → Want → Reading
with_want reading want = record reading { want = Some want }

-- ---- the lines of an act

abbrev pub line_count : Act → ℕ
line_count act = if act.any_message then length act.commands + 1 else length act.commands

abbrev pub lacks_line : Act → Bool
lacks_line act = line_count act == 0

-- `deliver *`, which stands first
abbrev pub add_any : Act → Left → Result Act QuestionRule
add_any act left =
    if is_star left && lacks_line act then Ok (record act { any_message = true }) else Err BadAct

abbrev pub add_command : Act → Command → Act
add_command act command = record act { commands = act.commands ++ command ∷ [] }

abbrev pub add_verb : ℕ → Act → Verb → Left → Result Act QuestionRule
add_verb nodes act verb left =
    if nat_lt (line_count act) 1000
    then (if names_one verb left then add_any act left
    else (as_scripts (words_at nodes verb left) >>= λ command. Ok (add_command act command)))
    else Err BadAct

unfoldable pub act_line : ℕ → List ℕ → Act → Result Act QuestionRule
act_line nodes text act = do
  verb ← as_scripts (verb_at text)
  add_verb nodes act verb.0 verb.1

-- ---- where acts and wants end

abbrev pub end_act : Reading → Option Act → Result Reading QuestionRule
end_act reading None = Ok reading
end_act reading (Some act) =
    if lacks_line act then Err BadAct
    else Ok (record reading { acts = reading.acts ++ act ∷ []; act = None })

abbrev pub end_want : Reading → Option Want → Result Reading QuestionRule
end_want reading None = Ok reading
end_want reading (Some want) =
    if is_new want then Err BadWant
    else Ok (record reading { wants = reading.wants ++ want ∷ []; want = None })

-- after the last act, before which there may be none
unfoldable pub end_acts : Reading → Result Reading QuestionRule
end_acts reading = do
  ended ← end_act reading reading.act
  if length ended.acts == 0 then Err NoMayLine else Ok ended

-- ---- where they begin

-- N, or nothing
abbrev pub limit_at : Left → Result (Option ℕ) ScriptRule
limit_at None = Ok None
limit_at (Some text) = number_at 1 1000 (Some text) >>= λ limit. Ok (Some limit.0)

abbrev pub new_act : Option ℕ → Act
new_act limit = record { limit = limit; any_message = false; commands = [] }

-- where the acts before are read
abbrev pub next_act : Reading → Left → Result Reading QuestionRule
next_act reading left =
    if nat_lt (length reading.acts) 1000
    then (as_scripts (limit_at left) >>= λ limit. Ok (with_act reading (new_act limit)))
    else Err TooManyActs

abbrev pub begin_act : Reading → Left → Option Want → Result Reading QuestionRule
begin_act reading left (Some want) = Err (Script StrayLine)
begin_act reading left None = end_act reading reading.act >>= λ ended. next_act ended left

-- where the wants before are read
abbrev pub next_want : Reading → Result Reading QuestionRule
next_want reading =
    if nat_lt (length reading.wants) 100 then Ok (with_want reading (Seen [])) else Err TooManyWants

unfoldable pub begin_want : Reading → Result Reading QuestionRule
begin_want reading = do
  acted ← end_acts reading
  ended ← end_want acted acted.want
  next_want ended

-- ---- a line

abbrev pub with_set : Reading → List ℕ → Result Reading QuestionRule
with_set reading text = as_scripts (set_line text) >>= λ sizes. Ok (with_sizes reading sizes)

-- a command of the beginning
unfoldable pub with_command : ℕ → Reading → List ℕ → Result Reading QuestionRule
with_command nodes reading text = do
  verb ← as_scripts (verb_at text)
  command ← as_scripts (words_at nodes verb.0 verb.1)
  Ok (with_first reading command)

-- a line of the want or the act that is being read, or of the beginning
abbrev pub with_part : ℕ → Reading → List ℕ → Option Act → Option Want → Result Reading QuestionRule
with_part nodes reading text act (Some want) =
    want_line nodes text want >>= λ more. Ok (with_want reading more)
with_part nodes reading text (Some act) None = act_line nodes text act >>= λ more. Ok (with_act reading more)
with_part nodes reading text None None = with_command nodes reading text

-- a line whose first word is this
abbrev pub with_word : ℕ → Reading → List ℕ → List ℕ → Left → Result Reading QuestionRule
with_word nodes reading text word left =
    if bytes_eq word (codes "may")
    then (if has_shape (Words 0 1) left then begin_act reading left reading.want
    else Err (Script WordCount))
    else if bytes_eq word (codes "want")
    then (if has_shape (Words 0 0) left then begin_want reading
    else Err (Script WordCount))
    else with_part nodes reading text reading.act reading.want

unfoldable pub with_words : ℕ → Reading → List ℕ → Result Reading QuestionRule
with_words nodes reading text = do
  first ← as_scripts (word_at (Some text))
  with_word nodes reading text first.0 first.1

-- the first line is `set`
abbrev pub with_text : Reading → List ℕ → Option SetLine → Result Reading QuestionRule
with_text reading text None = with_set reading text
with_text reading text (Some set) = with_words set.nodes reading text

unfoldable pub with_line : ℕ → Reading → List ℕ → Result Reading QuestionRule
with_line number reading line = do
  text ← as_scripts (text_of number line)
  if is_passed_over text then Ok reading else with_text reading text reading.set

-- ---- the whole

abbrev pub question_of : Reading → SetLine → Question
question_of reading set =
    record { sizes = set; beginning = reading.beginning; acts = reading.acts; wants = reading.wants }

-- after the last want
abbrev pub some_wants : Reading → SetLine → Result Question QuestionRule
some_wants reading set = if length reading.wants == 0 then Err NoWantLine else Ok (question_of reading set)

unfoldable pub ended : Reading → SetLine → Result Question QuestionRule
ended reading set = do
  acted ← end_acts reading
  read ← end_want acted acted.want
  some_wants read set

-- after the last line
abbrev pub whole : Reading → Option SetLine → Result Question QuestionRule
whole reading None = Err (Script NoSetLine)
whole reading (Some set) = ended reading set

-- the rest of the reading, if the line of this number has no fault
abbrev pub and_then : {A B : Type 0} → ℕ → Result A QuestionRule → (A → Result B QuestionFault)
    → Result B QuestionFault
and_then number (Err rule) later = Err (record { line = number; rule = rule })
and_then number (Ok read) later = later read

-- the question after these lines, the first of which has this number, or the first faulty one with its rule
abbrev pub question_from : ℕ → Reading → List (List ℕ) → Result Question QuestionFault
question_from number reading [] = and_then number (whole reading reading.set) (λ question. Ok question)
question_from number reading (line ∷ later) =
    and_then number (with_line number reading line) (λ next. question_from (number + 1) next later)

-- the question that these bytes are, or the first faulty line with its rule
unfoldable pub question : List ℕ → Result Question QuestionFault
question bytes = question_from 1 start (lines bytes)

-- ---- why nothing was read

abbrev pub Stops : {A : Type 0} → Result A QuestionFault → QuestionError → Type 0
Stops read (Fault fault) = read ≡ Err fault
Stops read Memory = Unit {0}

abbrev pub IsCause : List ℕ → QuestionError → Type 0
IsCause bytes error = Stops (question bytes) error

-- this line has that fault
abbrev pub StopsLine : {A : Type 0} → ℕ → Result A QuestionRule → QuestionError → Type 0
StopsLine number read error = Stops (and_then number read (λ next. Ok next)) error
