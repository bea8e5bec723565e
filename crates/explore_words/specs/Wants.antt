-- The lines of a want.
use Rattle.std.specs.Prelude.{ℕ, Bool, true, false, not, ◌&&◌, ◌||◌, List, [], ◌∷◌, ◌++◌, codes, Option, None, Some, Result, Ok, Err, if◌then◌else◌}
use Rattle.bson_doc.specs.Bind.{◌>>=◌}
use Rattle.set_model.specs.declared.command.Command.{Command}
use Rattle.set_model.specs.declared.command.Command.TheVariants as commands
use Rattle.script_words.specs.Words.{Left}
use Rattle.script_words.specs.declared.verb.Verb.{Verb}
use Rattle.explore_words.specs.declared.fault.QuestionRule.{QuestionRule}
use Rattle.explore_words.specs.declared.fault.QuestionRule.TheVariants.{BadWant}
use Rattle.explore_words.specs.declared.looking.SightVerb.{SightVerb}
use Rattle.explore_words.specs.declared.question.Look.{Look}
use Rattle.explore_words.specs.declared.question.Want.{Want}
use Rattle.explore_words.specs.declared.question.Want.TheVariants.{Event, Seen}
use Rattle.explore_words.specs.declared.question.WantedEvent.{WantedEvent}
use Rattle.explore_words.specs.declared.question.WantedEvent.TheVariants as events
use Rattle.explore_words.specs.Gives.{as_scripts}
use Rattle.explore_words.specs.Texts.{cut_at_last, goes_on, is_idle, names_message}
use Rattle.explore_words.specs.Commands.{any_node_at, event_at, is_star, names_one, sight_at, sight_verb, wanted_verb_at}

-- ---- which texts an event may have

abbrev pub sends : Command → Bool
sends (commands.Campaign node) = true
sends (commands.DryRun node) = true
sends (commands.Fetch node) = true
sends _ = false

-- the reply to such an event may name a message
abbrev pub may_send : WantedEvent → Bool
may_send (events.Command _ command) = sends command
may_send _ = true

abbrev pub is_delivery : WantedEvent → Bool
is_delivery (events.Delivery route) = true
is_delivery _ = false

-- the text names no message, nor is it that of a delivery that changes nothing
abbrev pub may_have : WantedEvent → List ℕ → Bool
may_have event text =
    not (may_send event && names_message true text) && not (is_delivery event && is_idle text)

-- ---- a want of which some lines are read

-- it has no line yet
abbrev pub is_new : Want → Bool
is_new (Event event text) = false
is_new (Seen []) = true
is_new (Seen (look ∷ looks)) = false

-- its line names no message
abbrev pub may_go_on : Want → List ℕ → Bool
may_go_on (Event event text) line = not (may_send event && names_message true line)
may_go_on (Seen looks) line = true

abbrev pub longer_look : List ℕ → Look → Look
longer_look more look = record { node = look.node; sight = look.sight; text = look.text ++ more }

-- the text of the last look goes on
abbrev pub longer_last : List ℕ → List Look → List Look
longer_last more [] = []
longer_last more (look ∷ []) = longer_look more look ∷ []
longer_last more (look ∷ next ∷ looks) = look ∷ longer_last more (next ∷ looks)

-- the text of the last line goes on
abbrev pub longer : List ℕ → Want → Want
longer more (Event event text) = Event event (text ++ more)
longer more (Seen looks) = Seen (longer_last more looks)

-- ---- a line

-- a line of the text of the line before it
abbrev pub go_on : List ℕ → Want → Result Want QuestionRule
go_on line want = if may_go_on want line then Ok (longer (10 ∷ line) want) else Err BadWant

-- a want is this event alone
unfoldable pub new_event : ℕ → Verb → Left → List ℕ → Result Want QuestionRule
new_event nodes verb left text = do
  event ← as_scripts (event_at nodes verb left)
  if may_have event text then Ok (Event event text) else Err BadWant

-- these looks and one more
unfoldable pub one_more_look : ℕ → SightVerb → Left → List ℕ → List Look → Result Want QuestionRule
one_more_look nodes verb left text looks = do
  node ← as_scripts (any_node_at nodes left)
  sight ← as_scripts (sight_at verb node.1)
  Ok (Seen (looks ++ record { node = node.0; sight = sight; text = text } ∷ []))

-- an event may not stand beside another line, nor be the delivery of one message
abbrev pub may_be_event : Verb → Left → Want → Bool
may_be_event verb left want = is_new want && (not (names_one verb left) || is_star left)

abbrev pub add_event : ℕ → Verb → Left → List ℕ → Want → Result Want QuestionRule
add_event nodes verb left text want =
    if may_be_event verb left want then new_event nodes verb left text else Err BadWant

-- looks stand with looks
abbrev pub add_look : ℕ → SightVerb → Left → List ℕ → Want → Result Want QuestionRule
add_look nodes verb left text (Event event known) = Err BadWant
add_look nodes verb left text (Seen looks) = one_more_look nodes verb left text looks

abbrev pub add_verb : ℕ → Verb → Option SightVerb → Left → List ℕ → Want → Result Want QuestionRule
add_verb nodes verb None left text want = add_event nodes verb left text want
add_verb nodes verb (Some sight) left text want = add_look nodes sight left text want

-- a command and the text of its reply, which isn't empty
abbrev pub parts_of : Option (List ℕ × List ℕ) → Result (List ℕ × List ℕ) QuestionRule
parts_of None = Err BadWant
parts_of (Some (command, [])) = Err BadWant
parts_of (Some (command, c ∷ text)) = Ok (command, c ∷ text)

-- COMMAND => TEXT, where the text follows the last arrow
unfoldable pub add_wanted : ℕ → List ℕ → Want → Result Want QuestionRule
add_wanted nodes line want = do
  parts ← parts_of (cut_at_last (codes " => ") line)
  verb ← as_scripts (wanted_verb_at parts.0)
  add_verb nodes verb.0 (sight_verb verb.0) verb.1 parts.1 want

abbrev pub want_line : ℕ → List ℕ → Want → Result Want QuestionRule
want_line nodes line want =
    if goes_on line && not (is_new want) then go_on line want else add_wanted nodes line want
