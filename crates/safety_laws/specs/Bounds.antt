-- Bounds of every run: how large terms, timestamps and counts can get after n events, and that no node ever
-- has or is sent a configuration that breaks a rule.
use Rattle.std.specs.Prelude.{◌≡◌, ◌<◌, ◌≤◌, ◌+◌, ◌*◌, ℕ, suc, List, length, None, Some, IfSome, All, Contains, slice_get}
use Rattle.oplog_entry.specs.declared.entry.Entry.{Entry}
use Rattle.member_config.specs.declared.config.Config.{Config}
use Rattle.member_config.specs.Rule.{rule}
use Rattle.member_config.specs.Voters.{unknown_member}
use Rattle.repl_msg.specs.Parts.{config_carried, config_kept, entries_carried, entries_kept, term_asked}
use Rattle.repl_msg.specs.declared.message.Message.{Message}
use Rattle.set_model.specs.declared.command.Event.{Event}
use Rattle.set_model.specs.Node.{Node}
use Rattle.set_model.specs.Run.{Sizes, world_at}

-- ---- numbers

-- No timestamp is past this: a clock shows less than 2^31 seconds, and each event makes at most one
-- timestamp.
abbrev pub last_timestamp : ℕ → ℕ
last_timestamp events = 9223372032559808513 + events

abbrev pub AreTimed : ℕ → List Entry → Type 0
AreTimed events entries = All (λ entry. entry.optime.ts ≤ last_timestamp events) entries

-- The node with the number `place`, in a set of `nodes` nodes, after `events` events.
pub record IsSmallNode (nodes events place : ℕ) (node : Node) : Type 0 where
  pub number : node.number ≡ place
  pub known : place < nodes
  pub term : node.term ≤ events
  pub vote : IfSome node.vote (λ candidate. candidate < nodes)
  pub rollback : node.rollback ≤ events
  pub clock : node.clock < 2147483648
  pub seen : node.seen ≤ last_timestamp events
  pub log : AreTimed events node.log
  pub records : length node.records ≤ 2 * events + 1
  pub kept : All (λ record_. AreTimed events (entries_kept record_)) node.records

pub record IsSmallMessage (nodes events : ℕ) (message : Message) : Type 0 where
  pub sender : message.from < nodes
  pub receiver : message.to < nodes
  pub term : message.term ≤ events
  pub asked : IfSome (term_asked message.body) (λ asked. asked ≤ events)
  pub entries : AreTimed events (entries_carried message.body)

-- After n events terms and rollback ids are at most n, a journal has at most 2n + 1 records, there are at
-- most 7n messages, and no timestamp is later than clocks and n events can make it.
pub record NumbersStaySmall (sizes : Sizes) (events : List Event) : Type 0 where
  pub count : (place : ℕ) → length (world_at sizes events place).nodes ≡ sizes.nodes
  pub nodes :
      (place number : ℕ) (node : Node) → slice_get (world_at sizes events place).nodes number ≡ Some node
      → IsSmallNode sizes.nodes place number node
  pub messages :
      (place : ℕ) (message : Message) → Contains (world_at sizes events place).messages message
      → IsSmallMessage sizes.nodes place message
  pub sent : (place : ℕ) → length (world_at sizes events place).messages ≤ 7 * place
  pub each : (place : ℕ) → length (world_at sizes events (suc place)).messages
      ≤ length (world_at sizes events place).messages + 7

-- ---- configurations

-- A configuration that breaks no rule, and all of whose members are nodes of a set of `nodes` nodes.
pub record IsLawfulConfig (nodes : ℕ) (config : Config) : Type 0 where
  pub rules : rule config ≡ None
  pub members : unknown_member nodes config ≡ None

pub record HasLawfulConfigs (nodes : ℕ) (node : Node) : Type 0 where
  pub first : IsLawfulConfig nodes node.first
  pub config : IsLawfulConfig nodes node.config
  pub kept : All (λ record_. IfSome (config_kept record_) (IsLawfulConfig nodes)) node.records

-- Each configuration that a node has, has stored or is sent is lawful.
pub record ConfigsAreLawful (sizes : Sizes) (events : List Event) : Type 0 where
  pub nodes :
      (place number : ℕ) (node : Node) → slice_get (world_at sizes events place).nodes number ≡ Some node
      → HasLawfulConfigs sizes.nodes node
  pub messages :
      (place : ℕ) (message : Message) → Contains (world_at sizes events place).messages message
      → IfSome (config_carried message.body) (IsLawfulConfig sizes.nodes)
