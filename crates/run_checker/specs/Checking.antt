-- Which bytes are a trace, and what the checker says of others.
--
-- Lines are counted from 1. The first line that shows that the bytes aren't a trace decides.
use Rattle.std.specs.Prelude.{◌≡◌, ⊤, ℕ, zero, suc, ◌+◌, Bool, not, nat_lt, slice_index, ◌==◌, ◌&&◌, ◌||◌, List, [], ◌∷◌, ◌++◌, length, Option, None, Some, Result, Ok, Err, if◌then◌else◌}
use Rattle.bson_doc.specs.Bind.{◌>>=◌}
use Rattle.set_model.specs.declared.command.Event.{Event}
use Rattle.set_model.specs.Limits.{Fits, IsRun, plan_reaches, settles_doubt}
use Rattle.set_model.specs.Run.{Sizes}
use Rattle.set_model.specs.Safety.{Safe}
use Rattle.set_model.specs.World.{World, event_plan, opening_world, step}
use Rattle.script_words.specs.declared.rule.ScriptRule.{ScriptRule}
use Rattle.script_words.specs.Words.{Left}
use Rattle.transcript.specs.Replies.{line_text}
use Rattle.run_checker.specs.declared.checking.CheckError.{CheckError}
use Rattle.run_checker.specs.declared.checking.CheckError.TheVariants.{BadHeader, BadEvent, Memory, NoFit, OtherReply}
use Rattle.run_checker.specs.Reading.{after_line, event_in, header_in, is_line_feed, line_at}

-- ---- traces

-- the set of a header: how many nodes it has, how many of its members vote, and how many members there are
abbrev pub set_of : ℕ × ℕ × ℕ → Sizes
set_of sizes = record { nodes = sizes.0; voters = sizes.1; members = sizes.2 }

abbrev pub opening_of : ℕ × ℕ × ℕ → World
opening_of sizes = opening_world sizes.0 sizes.1 sizes.2

-- the finding on an event, and on what follows it
abbrev pub reply_text : World → Event → List ℕ
reply_text world event = line_text (event.line, (step world event).reply)

-- From this world on the bytes are these events: for each, a line that reads as it, and the text of its line
-- and its reply.
abbrev pub Tells : ℕ → World → List Event → List ℕ → Type 0
Tells nodes world [] bytes = bytes ≡ []
Tells nodes world (event ∷ events) bytes =
    (rest : List ℕ) × (event_in nodes (line_at bytes) ≡ Ok event) × Fits world event
    × (after_line bytes ≡ Some (reply_text world event ++ rest))
    × Tells nodes (step world event).world events rest

-- the bytes are a trace of these events, of a set with this many nodes, voters and members
pub record IsTrace (sizes : ℕ × ℕ × ℕ) (events : List Event) (bytes : List ℕ) : Type 0 where
  pub rest : List ℕ
  pub header : header_in bytes ≡ Some (sizes, rest)
  pub tells : Tells sizes.0 (opening_of sizes) events rest

-- The bytes are a trace of this many events and of no others, whose run is defined and safe.
pub record Shows (count : ℕ) (bytes : List ℕ) : Type 0 where
  pub sizes : ℕ × ℕ × ℕ
  pub events : List Event
  pub trace : IsTrace sizes events bytes
  pub counted : count ≡ length events
  pub only :
      (other : ℕ × ℕ × ℕ) (others : List Event) → IsTrace other others bytes
      → (sizes ≡ other) × (events ≡ others)
  pub defined : IsRun (set_of sizes) events
  pub safe : Safe (set_of sizes) events

abbrev pub IsNoTrace : List ℕ → Type 0
IsNoTrace bytes = (sizes : ℕ × ℕ × ℕ) (events : List Event) → IsTrace sizes events bytes → ⊥

-- unless memory ran out, the bytes aren't a trace
abbrev pub RulesOut : CheckError → List ℕ → Type 0
RulesOut Memory bytes = ⊤
RulesOut (BadHeader number) bytes = IsNoTrace bytes
RulesOut (BadEvent number) bytes = IsNoTrace bytes
RulesOut (NoFit number) bytes = IsNoTrace bytes
RulesOut (OtherReply number) bytes = IsNoTrace bytes

-- ---- what is said of bytes

-- the event fits the world, apart from what its line already shows
abbrev pub fits : World → Event → Bool
fits world event =
    plan_reaches (event_plan world event) event.failed && (not event.kept || settles_doubt world event)

-- this byte is at a place
abbrev pub stands_at : ℕ → ℕ → List ℕ → Bool
stands_at byte place bytes = nat_lt place (length bytes) && byte == slice_index bytes place

-- the number of the line that has the next byte
abbrev pub number_after : ℕ → ℕ → ℕ
number_after byte number = if is_line_feed byte then number + 1 else number

-- What follows a text, with the number of the line there, given the number of the first line; otherwise the
-- number of the line that has a different byte, or none.
abbrev pub after_text : ℕ → List ℕ → List ℕ → Result (List ℕ × ℕ) CheckError
after_text number [] bytes = Ok (bytes, number)
after_text number (c ∷ text) [] = Err (OtherReply number)
after_text number (c ∷ text) (d ∷ bytes) =
    if c == d then after_text (number_after c number) text bytes else Err (OtherReply number)

-- after an event's line, which may be the last and have no end
abbrev pub after_reply : ℕ → List ℕ → Left → Result (List ℕ × ℕ) CheckError
after_reply number text None = Err (OtherReply number)
after_reply number text (Some rest) = after_text number text rest

abbrev pub event_or : ℕ → Result Event ScriptRule → Result Event CheckError
event_or number (Ok event) = Ok event
event_or number (Err rule) = Err (BadEvent number)

abbrev pub if_fits : ℕ → World → Event → Result Event CheckError
if_fits number world event = if fits world event then Ok event else Err (NoFit number)

-- the event that the line of this number is, if it fits
unfoldable pub event_told : ℕ → World → ℕ → List ℕ → Result Event CheckError
event_told nodes world number line = do
  event ← event_or number (event_in nodes line)
  if_fits number world event

-- the event of the first line, with what follows its reply and the number of the line there
unfoldable pub told_one : ℕ → World → ℕ → List ℕ → Result (Event × List ℕ × ℕ) CheckError
told_one nodes world number bytes = do
  event ← event_told nodes world number (line_at bytes)
  rest ← after_reply (number + 1) (reply_text world event) (after_line bytes)
  Ok (event, rest.0, rest.1)

-- How many events these bytes have, from a line of this number and a world, added to those before. There are
-- fewer events than bytes.
abbrev pub told_from : ℕ → ℕ → World → ℕ → ℕ → List ℕ → Result ℕ CheckError
told_from zero nodes world number count bytes = Ok count
told_from (suc most) nodes world number count [] = Ok count
told_from (suc most) nodes world number count (c ∷ bytes) = do
  one ← told_one nodes world number (c ∷ bytes)
  told_from most nodes (step world one.0).world one.2 (count + 1) one.1

-- how many events come after the header of a set
abbrev pub told : ℕ × ℕ × ℕ → List ℕ → Result ℕ CheckError
told sizes rest = told_from (suc (length rest)) sizes.0 (opening_of sizes) 2 0 rest

abbrev pub by_header : Option ((ℕ × ℕ × ℕ) × List ℕ) → Result ℕ CheckError
by_header None = Err (BadHeader 1)
by_header (Some (sizes, rest)) = told sizes rest

-- how many events the bytes are a trace of, or why they aren't a trace
abbrev pub checked : List ℕ → Result ℕ CheckError
checked bytes = by_header (header_in bytes)

-- ---- what is answered

-- this error is what was said, unless memory ran out
abbrev pub Stops : {Y : Type 0} → CheckError → Result Y CheckError → Type 0
Stops Memory said = ⊤
Stops (BadHeader number) said = said ≡ Err (BadHeader number)
Stops (BadEvent number) said = said ≡ Err (BadEvent number)
Stops (NoFit number) said = said ≡ Err (NoFit number)
Stops (OtherReply number) said = said ≡ Err (OtherReply number)

-- that is what was said, unless memory ran out
abbrev pub Says : {X Y : Type 0} → (X → Y) → Result X CheckError → Result Y CheckError → Type 0
Says view (Ok x) said = said ≡ Ok (view x)
Says view (Err error) said = Stops error said

-- that is what was said
abbrev pub Reads : {X Y : Type 0} → (X → Y) → Result X CheckError → Result Y CheckError → Type 0
Reads view (Ok x) read = read ≡ Ok (view x)
Reads view (Err error) read = read ≡ Err error

-- after the header of a set the bytes have this many events
pub record TellsSome (sizes : ℕ × ℕ × ℕ) (count : ℕ) (bytes : List ℕ) : Type 0 where
  pub events : List Event
  pub tells : Tells sizes.0 (opening_of sizes) events bytes
  pub counted : count ≡ length events

-- An event was done: it fits, the machine's world is the next one, and this is the text of its reply.
pub record Done (old : World) (event : Event) (new : World) (text : List ℕ) : Type 0 where
  pub fit : Fits old event
  pub world : new ≡ (step old event).world
  pub text_is : text ≡ reply_text old event

-- The line is an event, which was done.
pub record DoneLine (nodes : ℕ) (old : World) (line : List ℕ) (new : World) (text : List ℕ) : Type 0 where
  pub event : Event
  pub read : event_in nodes line ≡ Ok event
  pub done : Done old event new text

-- An event was read and done, and this comes after it.
pub record Goes (nodes : ℕ) (old : World) (number : ℕ) (bytes : List ℕ) (new : World) (rest : List ℕ)
    (next : ℕ) : Type 0 where
  pub event : Event
  pub told : told_one nodes old number bytes ≡ Ok (event, rest, next)
  pub fit : Fits old event
  pub world : new ≡ (step old event).world
