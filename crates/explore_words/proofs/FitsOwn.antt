-- Which commands that are read deliver a message.
use Rattle.std.proofs.Common.{◌≡◌, ◌∙◌, ap, ℕ, ◌+◌, Bool, true, false, ◌&&◌, ◌||◌, cond, List, [], ◌∷◌, None, Option, Some, refl, arith}
use Rattle.std.specs.Prelude.{fold, nat_le, not}
use Rattle.std.specs.List.{after_first, count_by, list_any}
use Rattle.doc_update.specs.declared.write.WriteOp.{WriteOp}
use Rattle.doc_update.specs.declared.write.WriteOp.TheVariants as ops
use Rattle.oplog_entry.specs.declared.entry.Session.{Session}
use Rattle.bson_doc.proofs.BindLemmas.{Gets, bind_gets, gets_more}
use Rattle.set_model.specs.declared.command.Command.{Command}
use Rattle.set_model.specs.World.{is_delivery}
use Rattle.script_words.specs.declared.verb.NodeVerb.{NodeVerb}
use Rattle.script_words.specs.declared.verb.NodeVerb.TheVariants as asks
use Rattle.script_words.specs.declared.verb.Verb.{Verb}
use Rattle.script_words.specs.declared.verb.Verb.TheVariants as verbs
use Rattle.script_words.specs.declared.verb.WriteKind.{WriteKind}
use Rattle.script_words.specs.Words.{Left, collection_at, concern_at, disk_at, is_space, level_at, message_at, node_at, number_at, optional_at, other_node_at, pick_at, target_at, word_at, writer_at}
use Rattle.script_words.specs.Configs.{config_of}
use Rattle.script_words.specs.Values.{last_value, text_at}
use Rattle.script_words.specs.Commands.{abort_at, ack_at, apply_at, begin_at, begin_kind, clock_at, commit_at, common_at, crash_at, deliver_at, deliver_latest, deliver_one, disk_fail_at, dump_at, heartbeat_at, of_node, read_at, reconfig_at, report_at, retry_at, retry_kind, words_at, write_at, write_command, write_kind}
use Rattle.script_words.proofs.Gets.{bind_any, ended_gets}
use Rattle.explore_words.specs.declared.question.WantedEvent.{WantedEvent}
use Rattle.explore_words.specs.Commands.{any_node_at, command_event, delivered_route, event_at, names_one, node_or_first, route_at}
use Rattle.explore_words.specs.Fits.{has_own, is_numbered, may_name}
use Rattle.explore_words.specs.Wants.{sends}

-- ---- a node's own

-- whether all its messages are named by one that sends
abbrev is_plain : Command → Bool
is_plain command = not (may_name command) || sends command

-- it delivers no message, nor one by its number
pub record IsOwn (plain : Bool) (command : Command) : Type 0 where
  pub own : is_delivery command ≡ false
  pub unnumbered : is_numbered command ≡ false
  pub plain_is : is_plain command ≡ plain

-- a node names another one in it
abbrev to_another : NodeVerb → Bool
to_another asks.Heartbeat = true
to_another asks.Report = true
to_another asks.Common = true
to_another _ = false

own_write : (node : ℕ) (op : WriteOp) → IsOwn true (write_command node op)
own_write node (ops.Insert ns document) = record { own = refl; unnumbered = refl; plain_is = refl }
own_write node (ops.Replace ns id document) = record { own = refl; unnumbered = refl; plain_is = refl }
own_write node (ops.Update ns id operators) = record { own = refl; unnumbered = refl; plain_is = refl }
own_write node (ops.Delete ns id) = record { own = refl; unnumbered = refl; plain_is = refl }

own_kind : (node writer : ℕ) (kind : Option WriteKind) (left : Left) → Gets (begin_kind node writer kind left) (IsOwn true)
own_kind node writer None left = tt
own_kind node writer (Some kind) left = bind_any (write_at kind left) _ (IsOwn true) (λ op. record { own = refl; unnumbered = refl; plain_is = refl })

own_retried : (node : ℕ) (session : Session) (kind : Option WriteKind) (left : Left) → Gets (retry_kind node session kind left) (IsOwn true)
own_retried node session None left = tt
own_retried node session (Some kind) left = bind_any (write_at kind left) _ (IsOwn true) (λ op. record { own = refl; unnumbered = refl; plain_is = refl })

pub own_words : (nodes : ℕ) (verb : NodeVerb) (node : ℕ) (left : Left) → Gets (of_node nodes verb node left) (IsOwn (not (to_another verb)))
unfolding retry_at begin_at commit_at abort_at ack_at read_at dump_at heartbeat_at report_at common_at apply_at reconfig_at crash_at disk_fail_at clock_at
own_words nodes (asks.Write kind) node left = bind_any (write_at kind left) _ (IsOwn true) (λ op. own_write node op)
own_words nodes asks.Retry node left =
    bind_any (number_at 0 4294967295 left) _ (IsOwn true) (λ id. bind_any (number_at 1 2147483647 id.1) _ (IsOwn true) (λ number. bind_any (word_at number.1) _ (IsOwn true) (λ kind.
    own_retried node (record { id = id.0; number = number.0 }) (write_kind kind.0) kind.1)))
own_words nodes asks.Note node left = ended_gets left _ (IsOwn true) (record { own = refl; unnumbered = refl; plain_is = refl })
own_words nodes asks.Begin node left = bind_any (writer_at left) _ (IsOwn true) (λ writer. bind_any (word_at writer.1) _ (IsOwn true) (λ kind. own_kind node writer.0 (write_kind kind.0) kind.1))
own_words nodes asks.Commit node left = bind_any (writer_at left) _ (IsOwn true) (λ writer. ended_gets writer.1 _ (IsOwn true) (record { own = refl; unnumbered = refl; plain_is = refl }))
own_words nodes asks.Abort node left = bind_any (writer_at left) _ (IsOwn true) (λ writer. ended_gets writer.1 _ (IsOwn true) (record { own = refl; unnumbered = refl; plain_is = refl }))
own_words nodes asks.Ack node left = bind_any (target_at left) _ (IsOwn true) (λ target. bind_any (concern_at target.1) _ (IsOwn true) (λ concern. ended_gets concern.1 _ (IsOwn true) (record { own = refl; unnumbered = refl; plain_is = refl })))
own_words nodes asks.Read node left =
    bind_any (level_at left) _ (IsOwn true) (λ level. bind_any (collection_at level.1) _ (IsOwn true) (λ ns. bind_any (text_at ns.1) _ (IsOwn true) (λ text. bind_any (last_value text) _ (IsOwn true) (λ id. record { own = refl; unnumbered = refl; plain_is = refl }))))
own_words nodes asks.Dump node left = bind_any (level_at left) _ (IsOwn true) (λ level. ended_gets level.1 _ (IsOwn true) (record { own = refl; unnumbered = refl; plain_is = refl }))
own_words nodes asks.Heartbeat node left = bind_any (other_node_at nodes node left) _ (IsOwn false) (λ other. ended_gets other.1 _ (IsOwn false) (record { own = refl; unnumbered = refl; plain_is = refl }))
own_words nodes asks.Report node left = bind_any (other_node_at nodes node left) _ (IsOwn false) (λ other. ended_gets other.1 _ (IsOwn false) (record { own = refl; unnumbered = refl; plain_is = refl }))
own_words nodes asks.Common node left = bind_any (other_node_at nodes node left) _ (IsOwn false) (λ other. ended_gets other.1 _ (IsOwn false) (record { own = refl; unnumbered = refl; plain_is = refl }))
own_words nodes asks.Apply node left = bind_any (optional_at 4 1 16 left) _ (IsOwn true) (λ workers. ended_gets workers.1 _ (IsOwn true) (record { own = refl; unnumbered = refl; plain_is = refl }))
own_words nodes asks.Reconfig node left = bind_any (text_at left) _ (IsOwn true) (λ text. bind_any (config_of text) _ (IsOwn true) (λ config. record { own = refl; unnumbered = refl; plain_is = refl }))
own_words nodes asks.Crash node left = bind_any (pick_at left) _ (IsOwn true) (λ pick. ended_gets pick.1 _ (IsOwn true) (record { own = refl; unnumbered = refl; plain_is = refl }))
own_words nodes asks.DiskFail node left =
    bind_any (disk_at left) _ (IsOwn true) (λ disk. bind_any (number_at 1 1000 disk.1) _ (IsOwn true) (λ call. bind_any (pick_at call.1) _ (IsOwn true) (λ pick. ended_gets pick.1 _ (IsOwn true) (record { own = refl; unnumbered = refl; plain_is = refl }))))
own_words nodes asks.Clock node left = bind_any (number_at 0 2147483647 left) _ (IsOwn true) (λ seconds. ended_gets seconds.1 _ (IsOwn true) (record { own = refl; unnumbered = refl; plain_is = refl }))
own_words nodes asks.Log node left = ended_gets left _ (IsOwn true) (record { own = refl; unnumbered = refl; plain_is = refl })
own_words nodes asks.State node left = ended_gets left _ (IsOwn true) (record { own = refl; unnumbered = refl; plain_is = refl })
own_words nodes asks.Rolled node left = ended_gets left _ (IsOwn true) (record { own = refl; unnumbered = refl; plain_is = refl })
own_words nodes asks.Campaign node left = ended_gets left _ (IsOwn true) (record { own = refl; unnumbered = refl; plain_is = refl })
own_words nodes asks.DryRun node left = ended_gets left _ (IsOwn true) (record { own = refl; unnumbered = refl; plain_is = refl })
own_words nodes asks.Drain node left = ended_gets left _ (IsOwn true) (record { own = refl; unnumbered = refl; plain_is = refl })
own_words nodes asks.StepDown node left = ended_gets left _ (IsOwn true) (record { own = refl; unnumbered = refl; plain_is = refl })
own_words nodes asks.Fetch node left = ended_gets left _ (IsOwn true) (record { own = refl; unnumbered = refl; plain_is = refl })
own_words nodes asks.Flush node left = ended_gets left _ (IsOwn true) (record { own = refl; unnumbered = refl; plain_is = refl })
own_words nodes asks.Checkpoint node left = ended_gets left _ (IsOwn true) (record { own = refl; unnumbered = refl; plain_is = refl })
own_words nodes asks.Restart node left = ended_gets left _ (IsOwn true) (record { own = refl; unnumbered = refl; plain_is = refl })

-- ---- the command of an act

abbrev pub IsUnnumbered : Command → Type 0
IsUnnumbered command = is_numbered command ≡ false

with_none : (n : ℕ) → n + 0 ≡ n
with_none n = grind arith

-- without a space none is counted
no_space_from : (n : ℕ) (text : List ℕ) → list_any is_space text ≡ false → fold (λ count x. count + cond (is_space x) 1 0) n text ≡ n
no_space_from n [] none = refl
no_space_from n (c ∷ text) none = by (is_space c) (λ m. no_space_from m text) none
  where
    by : (b : Bool) → ((m : ℕ) → list_any is_space text ≡ false → fold (λ count x. count + cond (is_space x) 1 0) m text ≡ m)
        → (b || list_any is_space text) ≡ false → fold (λ count x. count + cond (is_space x) 1 0) (n + cond b 1 0) text ≡ n
    by true rest none = absurd (cc none)
    by false rest none = rest (n + 0) none ∙ with_none n

one_word : (count : ℕ) → count ≡ 0 → (nat_le 1 (count + 1) && nat_le (count + 1) 1) ≡ false → ⊥
one_word count none other = grind arith

latest_unnumbered : (nodes : ℕ) (left : Left) → Gets (deliver_latest nodes left) IsUnnumbered
unfolding deliver_latest
latest_unnumbered nodes left =
    bind_any (node_at nodes left) _ IsUnnumbered (λ from. bind_any (other_node_at nodes from.0 from.1) _ IsUnnumbered (λ to. ended_gets to.1 _ IsUnnumbered refl))

delivery_unnumbered : (nodes : ℕ) (text : List ℕ) (spaced : Bool) → list_any is_space text ≡ spaced → names_one verbs.Deliver (Some text) ≡ false
    → Gets (deliver_at nodes (cond spaced (Some (after_first is_space text)) None) (Some text)) IsUnnumbered
delivery_unnumbered nodes text true is other = latest_unnumbered nodes (Some text)
delivery_unnumbered nodes text false is other = absurd (one_word (count_by is_space text) (no_space_from 0 text is) other)

pub words_unnumbered : (nodes : ℕ) (verb : Verb) (left : Left) → names_one verb left ≡ false → Gets (words_at nodes verb left) IsUnnumbered
unfolding deliver_one message_at word_at
words_unnumbered nodes verbs.Deliver None other = tt
words_unnumbered nodes verbs.Deliver (Some text) other = delivery_unnumbered nodes text (list_any is_space text) refl other
words_unnumbered nodes (verbs.Node verb) left other =
    bind_any (node_at nodes left) _ IsUnnumbered (λ node. gets_more (of_node nodes verb node.0 node.1) (IsOwn (not (to_another verb))) IsUnnumbered (own_words nodes verb node.0 node.1) (λ command own. own.unnumbered))

-- ---- the event of a want

abbrev HasOwn : WantedEvent → Type 0
HasOwn event = has_own event ≡ true

is_own : (d p : Bool) → d ≡ false → p ≡ true → (not d && p) ≡ true
is_own d p one two = rw (one, two) refl

own_command : (nodes : ℕ) (verb : NodeVerb) (left : Left) → to_another verb ≡ false → Gets (command_event nodes verb left) HasOwn
unfolding command_event
own_command nodes verb left alone =
    bind_any (any_node_at nodes left) _ HasOwn (λ node.
    bind_gets (of_node nodes verb (node_or_first node.0) node.1) _ (IsOwn (not (to_another verb))) HasOwn (own_words nodes verb (node_or_first node.0) node.1)
    (λ command own. is_own (is_delivery command) (is_plain command) own.own (own.plain_is ∙ ap not alone)))

pub event_own : (nodes : ℕ) (verb : Verb) (left : Left) → Gets (event_at nodes verb left) HasOwn
event_own nodes verbs.Deliver left = bind_any (delivered_route nodes left) _ HasOwn (λ route. refl)
event_own nodes (verbs.Node asks.Heartbeat) left = bind_any (route_at nodes left) _ HasOwn (λ route. refl)
event_own nodes (verbs.Node asks.Report) left = bind_any (route_at nodes left) _ HasOwn (λ route. refl)
event_own nodes (verbs.Node asks.Common) left = bind_any (route_at nodes left) _ HasOwn (λ route. refl)
event_own nodes (verbs.Node (asks.Write kind)) left = own_command nodes (asks.Write kind) left refl
event_own nodes (verbs.Node asks.Retry) left = own_command nodes asks.Retry left refl
event_own nodes (verbs.Node asks.Note) left = own_command nodes asks.Note left refl
event_own nodes (verbs.Node asks.Begin) left = own_command nodes asks.Begin left refl
event_own nodes (verbs.Node asks.Commit) left = own_command nodes asks.Commit left refl
event_own nodes (verbs.Node asks.Abort) left = own_command nodes asks.Abort left refl
event_own nodes (verbs.Node asks.Ack) left = own_command nodes asks.Ack left refl
event_own nodes (verbs.Node asks.Read) left = own_command nodes asks.Read left refl
event_own nodes (verbs.Node asks.Dump) left = own_command nodes asks.Dump left refl
event_own nodes (verbs.Node asks.Log) left = own_command nodes asks.Log left refl
event_own nodes (verbs.Node asks.State) left = own_command nodes asks.State left refl
event_own nodes (verbs.Node asks.Rolled) left = own_command nodes asks.Rolled left refl
event_own nodes (verbs.Node asks.Campaign) left = own_command nodes asks.Campaign left refl
event_own nodes (verbs.Node asks.DryRun) left = own_command nodes asks.DryRun left refl
event_own nodes (verbs.Node asks.Drain) left = own_command nodes asks.Drain left refl
event_own nodes (verbs.Node asks.StepDown) left = own_command nodes asks.StepDown left refl
event_own nodes (verbs.Node asks.Fetch) left = own_command nodes asks.Fetch left refl
event_own nodes (verbs.Node asks.Apply) left = own_command nodes asks.Apply left refl
event_own nodes (verbs.Node asks.Flush) left = own_command nodes asks.Flush left refl
event_own nodes (verbs.Node asks.Checkpoint) left = own_command nodes asks.Checkpoint left refl
event_own nodes (verbs.Node asks.Reconfig) left = own_command nodes asks.Reconfig left refl
event_own nodes (verbs.Node asks.Crash) left = own_command nodes asks.Crash left refl
event_own nodes (verbs.Node asks.Restart) left = own_command nodes asks.Restart left refl
event_own nodes (verbs.Node asks.DiskFail) left = own_command nodes asks.DiskFail left refl
event_own nodes (verbs.Node asks.Clock) left = own_command nodes asks.Clock left refl
