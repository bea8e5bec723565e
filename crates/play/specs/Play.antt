-- A set that is played line by line.
use Rattle.std.specs.Prelude.{◌≡◌, ◌≤◌, ◌<◌, ℕ, ◌+◌, Bool, false, nat_le, ◌&&◌, List, [], ◌∷◌, ◌++◌, Option, None, Some, Result, Ok, drop, length, map}
use Rattle.bson_doc.specs.Bind.{◌>>=◌}
use Rattle.fault_script.specs.Lines.{MOST_LINES}
use Rattle.run_checker.specs.Trace.{trace_text}
use Rattle.set_model.specs.declared.command.Command.{Command}
use Rattle.set_model.specs.declared.command.Event.{Event}
use Rattle.set_model.specs.Limits.{IsRun}
use Rattle.set_model.specs.Run.{AreSizes, Run, Sizes, run}
use Rattle.set_model.specs.World.{step}
use Rattle.transcript.specs.Replies.{line_text, text}
use Rattle.play.specs.Lines.{Fails, looking, said}
use Rattle.play.specs.Script.{lines_text, opening_text}
use Rattle.play.specs.Sent.{message_lines}
use Rattle.play.specs.declared.rule.LineRule.{LineRule}
use Rattle.play.specs.declared.rule.PlayError.{PlayError}

-- its sizes, the numbers of its `set` line and of the next line, the lines between them, and their events
pub record Played : Type 0 where
  pub sizes : Sizes
  pub first : ℕ
  pub line : ℕ
  pub lines : List (List ℕ)
  pub events : List Event

-- A `set` line can name these sizes, and be the line of this number.
abbrev pub can_be_opened : ℕ × ℕ × ℕ → ℕ → Bool
can_be_opened sizes line =
    nat_le 1 sizes.1 && nat_le sizes.1 7 && nat_le sizes.1 sizes.2 && nat_le sizes.2 sizes.0
    && nat_le sizes.0 50 && nat_le 1 line && nat_le line MOST_LINES

-- after the `set` line
abbrev pub opened : Sizes → ℕ → Played
opened sizes first = record { sizes = sizes; first = first; line = first + 1; lines = []; events = [] }

-- the run of what was played
abbrev pub run_of : Played → Run
run_of played = run played.sizes played.events

-- no number outgrows its type
pub record IsPlayed (played : Played) : Type 0 where
  pub sizes : AreSizes played.sizes
  pub is_run : IsRun played.sizes played.events
  pub fewer : length played.events < played.line
  pub within : played.line ≤ MOST_LINES + 1

-- ---- one line

-- what the next line says
abbrev pub said_to : Played → List ℕ → Result (Option Command) LineRule
said_to played line = said played.sizes.nodes played.line line

-- the command of a line that looks at something
abbrev pub asked_of : Played → List ℕ → Result Command LineRule
asked_of played line = said_to played line >>= looking

-- the event of a command, where no disk fails
abbrev pub event_at : ℕ → Command → Event
event_at number command = record { command = command; line = number; failed = None; kept = false }

-- after a line of this command
abbrev pub with_event : Played → List ℕ → Command → Played
with_event played line command = record {
  sizes = played.sizes;
  first = played.first;
  line = played.line + 1;
  lines = played.lines ++ line ∷ [];
  events = played.events ++ event_at played.line command ∷ [];
}

-- after a line that says this
abbrev pub with_line : Played → List ℕ → Option Command → Played
with_line played line None = record {
  sizes = played.sizes;
  first = played.first;
  line = played.line + 1;
  lines = played.lines ++ line ∷ [];
  events = played.events;
}
with_line played line (Some command) = with_event played line command

-- the text of the reply to a command in the next line
abbrev pub reply_to : Played → Command → List ℕ
reply_to played command =
    line_text (played.line, (step (run_of played).world (event_at played.line command)).reply)

-- The line was played, and `told` is what the transcript of the run has more.
pub record Plays (old : Played) (line : List ℕ) (new : Played) (told : List ℕ) : Type 0 where
  pub said : Option Command
  pub says : said_to old line ≡ Ok said
  pub new_is : new ≡ with_line old line said
  pub text_is : text (run_of new) ≡ text (run_of old) ++ told

-- lines were played one after another
abbrev pub PlaysAll : Played → List (List ℕ) → Played → List ℕ → Type 0
PlaysAll old [] new told = (new ≡ old) × (told ≡ [])
PlaysAll old (line ∷ lines) new told =
    (next : Played) × (first rest : List ℕ) × Plays old line next first × PlaysAll next lines new rest
    × (told ≡ first ++ rest)

-- lines were played up to one that wasn't, for this reason
pub record StopsIn (old : Played) (lines : List (List ℕ)) (why : PlayError) (new : Played) (told : List ℕ)
    : Type 0 where
  pub done : List (List ℕ)
  pub line : List ℕ
  pub later : List (List ℕ)
  pub are : lines ≡ done ++ line ∷ later
  pub plays : PlaysAll old done new told
  pub fails : Fails why (said_to new line)

-- ---- what is written of it

-- how many nodes it has, how many of its members vote, and how many members there are
abbrev pub counts_of : Sizes → ℕ × ℕ × ℕ
counts_of sizes = (sizes.nodes, sizes.voters, sizes.members)

-- the trace of its run
abbrev pub trace_of : Played → List ℕ
trace_of played =
    trace_text (counts_of played.sizes) played.events (map (λ reply. reply.1) (run_of played).replies)

-- the script so far
abbrev pub script_of : Played → List ℕ
script_of played = opening_text (counts_of played.sizes) played.first ++ lines_text played.lines

-- the messages from this number on
abbrev pub sent_from : ℕ → Played → List ℕ
sent_from first played = message_lines first (drop first (run_of played).world.messages)
