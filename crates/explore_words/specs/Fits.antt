-- What is true of each question that is read.
use Rattle.std.specs.Prelude.{ℕ, Bool, true, false, not, ◌&&◌, ◌||◌, nat_le, nat_lt, List, length, Option, None, Some}
use Rattle.std.specs.List.{list_all}
use Rattle.set_model.specs.declared.command.Command.{Command}
use Rattle.set_model.specs.declared.command.Command.TheVariants as commands
use Rattle.set_model.specs.Limits.{is_collection, is_for, is_within_concern, is_within_target}
use Rattle.set_model.specs.Run.{Sizes}
use Rattle.set_model.specs.World.{is_delivery}
use Rattle.explore_words.specs.declared.question.Act.{Act}
use Rattle.explore_words.specs.declared.question.Look.{Look}
use Rattle.explore_words.specs.declared.question.Question.{Question}
use Rattle.explore_words.specs.declared.question.Sight.{Sight}
use Rattle.explore_words.specs.declared.question.Sight.TheVariants.{Read, Dump, Log, State, Rolled, Ack, AckLast}
use Rattle.explore_words.specs.declared.question.Want.{Want}
use Rattle.explore_words.specs.declared.question.Want.TheVariants.{Event, Seen}
use Rattle.explore_words.specs.declared.question.WantedEvent.{WantedEvent}
use Rattle.explore_words.specs.declared.question.WantedEvent.TheVariants as wanted
use Rattle.explore_words.specs.Question.{line_count}
use Rattle.explore_words.specs.Wants.{may_have, sends}

-- the sizes of a question's set
abbrev pub sizes_of : Question → Sizes
sizes_of question =
    record { nodes = question.sizes.nodes; voters = question.sizes.voters; members = question.sizes.members }

-- ---- acts

-- a limit from 1 to 1,000, or none
abbrev pub is_limit : Option ℕ → Bool
is_limit None = true
is_limit (Some limit) = nat_le 1 limit && nat_le limit 1000

-- it delivers a message by its number
abbrev pub is_numbered : Command → Bool
is_numbered (commands.Deliver message) = true
is_numbered _ = false

-- a command of the set that may stand in an act
abbrev pub is_line_for : ℕ → Command → Bool
is_line_for nodes command = is_for nodes command && not (is_numbered command)

-- the commands are the set's, and there are 1 to 1,000 lines
abbrev pub is_act_for : ℕ → Act → Bool
is_act_for nodes act =
    is_limit act.limit && (nat_lt 0 (line_count act) && nat_le (line_count act) 1000)
    && list_all (is_line_for nodes) act.commands

-- ---- wants

-- a node of the set, or any one
abbrev pub is_node_or_any : ℕ → Option ℕ → Bool
is_node_or_any nodes None = true
is_node_or_any nodes (Some node) = nat_lt node nodes

-- names of collections, writers up to 999, and a concern up to 50 members
abbrev pub is_within_sight : Sight → Bool
is_within_sight (Read level collection id) = is_collection collection
is_within_sight (Dump level) = true
is_within_sight Log = true
is_within_sight State = true
is_within_sight Rolled = true
is_within_sight (Ack target concern) = is_within_target target && is_within_concern concern
is_within_sight (AckLast collection id concern) = is_collection collection && is_within_concern concern

abbrev pub is_look_for : ℕ → Look → Bool
is_look_for nodes look = is_node_or_any nodes look.node && is_within_sight look.sight

-- the reply may name a message
abbrev pub may_name : Command → Bool
may_name (commands.Campaign node) = true
may_name (commands.DryRun node) = true
may_name (commands.Heartbeat node to) = true
may_name (commands.Report node to) = true
may_name (commands.Common node to) = true
may_name (commands.Fetch node) = true
may_name (commands.Deliver message) = true
may_name (commands.DeliverLatest from to) = true
may_name _ = false

-- its command, where it has one, is a node's own, and no reply to it names a message unless it sends one
abbrev pub has_own : WantedEvent → Bool
has_own (wanted.Command _ command) =
    not (is_delivery command) && (not (may_name command) || sends command)
has_own _ = true

-- An event has a text that it may have. What is seen has a look.
abbrev pub is_want_for : ℕ → Want → Bool
is_want_for nodes (Event event text) = may_have event text && has_own event
is_want_for nodes (Seen looks) = nat_lt 0 (length looks) && list_all (is_look_for nodes) looks

-- ---- questions

-- there is one at least, and so many at most
abbrev pub has_up_to : {A : Type 0} → ℕ → List A → Bool
has_up_to most items = nat_lt 0 (length items) && nat_le (length items) most

-- the beginning, the acts and the wants are the set's, and neither too few nor too many
abbrev pub fits_set : Question → Bool
fits_set question =
    list_all (is_for question.sizes.nodes) question.beginning
    && (has_up_to 1000 question.acts && list_all (is_act_for question.sizes.nodes) question.acts)
    && (has_up_to 100 question.wants && list_all (is_want_for question.sizes.nodes) question.wants)
