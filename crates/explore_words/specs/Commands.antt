-- The commands of a question, and what its wants name in their place.
use Rattle.std.specs.Prelude.{ℕ, Bool, false, List, codes, Option, None, Some, Result, Ok, Err, if◌then◌else◌}
use Rattle.std.specs.Str.{bytes_eq}
use Rattle.bson_doc.specs.Bind.{◌>>=◌}
use Rattle.script_words.specs.Commands.{known, of_node, shape_of, verb_of}
use Rattle.script_words.specs.Values.{last_value, text_at, value_of}
use Rattle.script_words.specs.Words.{Left, Read, collection_at, concern_at, ended, has_shape, level_at, node_at, other_node_at, target_at, word_at}
use Rattle.script_words.specs.declared.rule.ScriptRule.{ScriptRule}
use Rattle.script_words.specs.declared.rule.ScriptRule.TheVariants.{WordCount}
use Rattle.script_words.specs.declared.shape.Shape.{Shape}
use Rattle.script_words.specs.declared.shape.Shape.TheVariants.{Words}
use Rattle.script_words.specs.declared.verb.NodeVerb.{NodeVerb}
use Rattle.script_words.specs.declared.verb.NodeVerb.TheVariants as asks
use Rattle.script_words.specs.declared.verb.Verb.{Verb}
use Rattle.script_words.specs.declared.verb.Verb.TheVariants as verbs
use Rattle.explore_words.specs.declared.looking.SightVerb.{SightVerb}
use Rattle.explore_words.specs.declared.looking.SightVerb.TheVariants as seen
use Rattle.explore_words.specs.declared.question.Route.{Route}
use Rattle.explore_words.specs.declared.question.Sight.{Sight}
use Rattle.explore_words.specs.declared.question.Sight.TheVariants as sights
use Rattle.explore_words.specs.declared.question.WantedEvent.{WantedEvent}
use Rattle.explore_words.specs.declared.question.WantedEvent.TheVariants as events
use Rattle.explore_words.specs.Texts.{cut_at_last}

-- what a first word asks for in a question, where no disk fails
abbrev pub asked : List ℕ → Option Verb
asked word = if bytes_eq word (codes "diskfail") then None else verb_of word

-- the first word of a command that has as many words as it asks for
unfoldable pub verb_at : List ℕ → Read Verb
verb_at text = do
  first ← word_at (Some text)
  verb ← known (asked first.0)
  if has_shape (shape_of verb) first.1 then Ok (verb, first.1) else Err WordCount

-- a star, and nothing after it
abbrev pub is_star : Left → Bool
is_star None = false
is_star (Some text) = bytes_eq text (codes "*")

-- a delivery of one message that the line names
abbrev pub names_one : Verb → Left → Bool
names_one verbs.Deliver left = has_shape (Words 1 1) left
names_one (verbs.Node verb) left = false

abbrev pub is_word_of : Result (List ℕ × Left) ScriptRule → Bool
is_word_of (Ok (word, rest)) = bytes_eq word (codes "of")
is_word_of (Err rule) = false

-- the next word is `of`
abbrev pub is_of : Left → Bool
is_of left = is_word_of (word_at left)

abbrev pub rest_of : Result (List ℕ × Left) ScriptRule → Left
rest_of (Ok (word, rest)) = rest
rest_of (Err rule) = None

-- what is left after the next word
abbrev pub rest_after : Left → Left
rest_after left = rest_of (word_at left)

-- ---- nodes of wants

-- a node of the set, or a star for any
unfoldable pub any_node_at : ℕ → Left → Read (Option ℕ)
any_node_at nodes left = do
  word ← word_at left
  if bytes_eq word.0 (codes "*") then Ok (None, word.1)
      else (node_at nodes left >>= λ node. Ok (Some node.0, node.1))

-- another node than the first, where that isn't any
abbrev pub second_node_at : ℕ → Option ℕ → Left → Read ℕ
second_node_at nodes None left = node_at nodes left
second_node_at nodes (Some first) left = other_node_at nodes first left

-- such a node, or a star for any
unfoldable pub any_second_at : ℕ → Option ℕ → Left → Read (Option ℕ)
any_second_at nodes first left = do
  word ← word_at left
  if bytes_eq word.0 (codes "*") then Ok (None, word.1)
      else (second_node_at nodes first left >>= λ node. Ok (Some node.0, node.1))

-- FROM TO
unfoldable pub route_at : ℕ → Left → Result Route ScriptRule
route_at nodes left = do
  sender ← any_node_at nodes left
  receiver ← any_second_at nodes sender.0 sender.1
  ended receiver.1 (record { from = sender.0; to = receiver.0 })

-- ---- events of wants

-- a star for any delivery, or FROM TO
abbrev pub delivered_route : ℕ → Left → Result Route ScriptRule
delivered_route nodes left =
    if is_star left then Ok (record { from = None; to = None }) else route_at nodes left

-- the node that stands for any
abbrev pub node_or_first : Option ℕ → ℕ
node_or_first None = 0
node_or_first (Some node) = node

-- NODE, or a star, and the words of its command
unfoldable pub command_event : ℕ → NodeVerb → Left → Result WantedEvent ScriptRule
command_event nodes verb left = do
  node ← any_node_at nodes left
  command ← of_node nodes verb (node_or_first node.0) node.1
  Ok (events.Command node.0 command)

abbrev pub event_at : ℕ → Verb → Left → Result WantedEvent ScriptRule
event_at nodes verbs.Deliver left = delivered_route nodes left >>= λ route. Ok (events.Delivery route)
event_at nodes (verbs.Node asks.Heartbeat) left = route_at nodes left >>= λ route. Ok (events.Heartbeat route)
event_at nodes (verbs.Node asks.Report) left = route_at nodes left >>= λ route. Ok (events.Report route)
event_at nodes (verbs.Node asks.Common) left = route_at nodes left >>= λ route. Ok (events.Common route)
event_at nodes (verbs.Node verb) left = command_event nodes verb left

-- ---- what wants look at

-- what changes nothing and may be looked at
abbrev pub sight_verb : Verb → Option SightVerb
sight_verb (verbs.Node asks.Read) = Some seen.Read
sight_verb (verbs.Node asks.Dump) = Some seen.Dump
sight_verb (verbs.Node asks.Log) = Some seen.Log
sight_verb (verbs.Node asks.State) = Some seen.State
sight_verb (verbs.Node asks.Rolled) = Some seen.Rolled
sight_verb (verbs.Node asks.Ack) = Some seen.Ack
sight_verb _ = None

-- LEVEL COLLECTION ID
unfoldable pub read_sight : Left → Result Sight ScriptRule
read_sight left = do
  level ← level_at left
  ns ← collection_at level.1
  text ← text_at ns.1
  id ← last_value text
  Ok (sights.Read level.0 ns.0 (value_of id))

unfoldable pub dump_sight : Left → Result Sight ScriptRule
dump_sight left = do
  level ← level_at left
  ended level.1 (sights.Dump level.0)

-- TARGET CONCERN
unfoldable pub ack_sight : Left → Result Sight ScriptRule
ack_sight left = do
  target ← target_at left
  concern ← concern_at target.1
  ended concern.1 (sights.Ack target.0 concern.0)

-- what stands before the last space, and what follows it
abbrev pub before_last_word : Option (List ℕ × List ℕ) → Result (List ℕ × List ℕ) ScriptRule
before_last_word None = Err WordCount
before_last_word (Some parts) = Ok parts

-- COLLECTION ID CONCERN; the concern is the last word
unfoldable pub ack_last_sight : Left → Result Sight ScriptRule
ack_last_sight left = do
  ns ← collection_at left
  text ← text_at ns.1
  parts ← before_last_word (cut_at_last (codes " ") text)
  id ← last_value parts.0
  concern ← concern_at (Some parts.1)
  Ok (sights.AckLast ns.0 (value_of id) concern.0)

abbrev pub sight_at : SightVerb → Left → Result Sight ScriptRule
sight_at seen.Read left = read_sight left
sight_at seen.Dump left = dump_sight left
sight_at seen.Log left = ended left sights.Log
sight_at seen.State left = ended left sights.State
sight_at seen.Rolled left = ended left sights.Rolled
sight_at seen.Ack left = if is_of left then ack_last_sight (rest_after left) else ack_sight left

-- ---- the command of a want

-- `ack NODE of COLLECTION ID CONCERN`
abbrev pub acks_last : Verb → Left → Bool
acks_last (verbs.Node asks.Ack) left = is_of (rest_after left)
acks_last _ left = false

abbrev pub wanted_shape : Verb → Left → Shape
wanted_shape verb left = if acks_last verb left then Words 5 4294967295 else shape_of verb

-- the first word of a want's command that has as many words as it asks for
unfoldable pub wanted_verb_at : List ℕ → Read Verb
wanted_verb_at text = do
  first ← word_at (Some text)
  verb ← known (asked first.0)
  if has_shape (wanted_shape verb first.1) first.1 then Ok (verb, first.1) else Err WordCount
