-- A set's runs as behaviours of `Reconfig`.
use Rattle.std.specs.Prelude.{◌≡◌, ℕ, true, false, List, [], ◌∷◌, Some, slice_get, unwrap_or, ⊤}
use Rattle.oplog_entry.specs.Visible.{log_up_to}
use Rattle.member_config.specs.Config.{first_config}
use Rattle.member_config.specs.Voters.{voters}
use Rattle.member_config.specs.declared.config.Config.{Config}
use Rattle.repl_msg.specs.Kept.{kept}
use Rattle.set_model.specs.declared.command.Event.{Event}
use Rattle.set_model.specs.declared.role.Role as set
use Rattle.set_model.specs.declared.role.Role.TheVariants as roles
use Rattle.set_model.specs.Node.{Node}
use Rattle.set_model.specs.Points.{visible_log}
use Rattle.set_model.specs.Run.{Sizes, opening}
use Rattle.set_model.specs.World.{World, step}
use Rattle.published_laws.specs.Histories.{History, Path}
use Rattle.published_laws.specs.Reconfig.{Next, Primary, Role, Secondary, Server, Variables}
use Rattle.published_laws.specs.ReconfigNames.{Name}
use Rattle.published_laws.specs.ReconfigShown.{start}

-- who is draining doesn't write yet
abbrev pub state_of : set.Role → Role
state_of roles.Primary = Primary
state_of _ = Secondary

-- A node as the paper has it. Its log is what can be read of it: the entries before the first open slot.
abbrev pub server_of : Node → Server
server_of node = record {
  currentTerm = node.term;
  state = state_of node.role;
  log = visible_log node;
  config = voters node.config;
  configVersion = node.config.version;
  configTerm = node.config.term;
  votedFor = node.vote;
  durable = node.durable;
}

-- the configuration that a node's records come to
abbrev pub config_kept : Node → Config
config_kept node = unwrap_or (kept node.records).config node.first

-- what a node's records come to is what a server has, its log as far as it is durable
pub record IsOnDisk (node : Node) (server : Server) : Type 0 where
  pub currentTerm : (kept node.records).vote.term ≡ server.currentTerm
  pub votedFor : (kept node.records).vote.candidate ≡ server.votedFor
  pub config : voters (config_kept node) ≡ server.config
  pub configVersion : (config_kept node).version ≡ server.configVersion
  pub configTerm : (config_kept node).term ≡ server.configTerm
  pub durable : (kept node.records).point ≡ server.durable
  pub log : log_up_to server.durable (kept node.records).entries ≡ log_up_to server.durable server.log

-- Each node is as the server of its number: one that is up itself, one that is down by its records.
pub record AreServers (world : World) (variables : Variables) : Type 0 where
  pub up : (number : ℕ) (node : Node) → slice_get world.nodes number ≡ Some node → node.up ≡ true
      → variables.servers number ≡ server_of node
  pub down : (number : ℕ) (node : Node) → slice_get world.nodes number ≡ Some node → node.up ≡ false
      → IsOnDisk node (variables.servers number)

-- with each event the behaviour goes on by some steps, which lead to what the nodes then are
abbrev pub GoesOnWith : World → List Event → History Variables → Type 0
GoesOnWith world [] history = ⊤
GoesOnWith world (event ∷ events) history =
    (names : List Name) × (next : History Variables) × Path Next names history next
    × AreServers (step world event).world next.now × GoesOnWith (step world event).world events next

-- the voters that a set begins with
abbrev pub first_voters : Sizes → List ℕ
first_voters sizes = voters (first_config sizes.voters sizes.members)

-- Each run of a set is a behaviour of MongoRaftReconfig, from its first state on.
abbrev pub SetsAreReconfigs : Sizes → List Event → Type 0
SetsAreReconfigs sizes events =
    AreServers (opening sizes).world (start (first_voters sizes)).now
    × GoesOnWith (opening sizes).world events (start (first_voters sizes))
