-- What holds of a node in memory after each step.
use Rattle.std.specs.Prelude.{◌≡◌, ◌≢◌, ◌<◌, ◌≤◌, ◌^◌, ◌⊎◌, ℕ, Bool, true, false, All, IsTrue, List, Option, None, IfSome, map, filter, unwrap_or}
use Rattle.std.specs.FinSet as sets
use Rattle.rs_optime.specs.Order.{is_before, optime_cmp}
use Rattle.rs_optime.specs.declared.optime.OpTime.{OpTime}
use Rattle.oplog_entry.specs.Visible.{ZERO}
use Rattle.oplog_entry.specs.declared.entry.Entry.{Entry}
use Rattle.member_config.specs.Rule.{rule}
use Rattle.member_config.specs.Voters.{voters}
use Rattle.election_core.specs.Counting.{Tallied}
use Rattle.repl_msg.specs.Kept.{kept}
use Rattle.set_model.specs.declared.role.Role.TheVariants.{Candidate}
use Rattle.set_model.specs.Node.{Node}
use Rattle.set_model.specs.Disk.{unjournaled}
use Rattle.set_model.specs.Points.{has_entry, visible_point}
use Rattle.set_model.specs.Roles.{is_primary}
use Rattle.set_model.specs.Safety.{AtMost, Has}
use Rattle.node_data.specs.NodeData.{data_role}
use Rattle.node_state.specs.Seen.{BesideData, seen_node}

-- each point is at or before the next one, and the log is durable up to an entry
pub record ArePoints (node : Node) : Type 0 where
  pub stable : AtMost node.stable node.commit
  pub commit : AtMost node.commit node.durable
  pub durable : AtMost node.durable (visible_point node)
  pub there : (node.durable ≡ ZERO) ⊎ Has node.log node.durable

-- an entry is among those in the records
abbrev pub is_kept : Node → Entry → Bool
is_kept node entry = has_entry (kept node.records).entries entry.optime

-- The records have the node's term and vote, its configuration, entries of its log including all up to the
-- durable point, and that point.
pub record IsRecorded (node : Node) : Type 0 where
  pub vote : (kept node.records).vote ≡ record { term = node.term; candidate = node.vote }
  pub config : unwrap_or (kept node.records).config node.first ≡ node.config
  pub entries : (kept node.records).entries ≡ filter (is_kept node) node.log
  pub early : All (λ entry. is_before node.durable entry.optime ≡ false → is_kept node entry ≡ true) node.log
  pub point : (kept node.records).point ≡ node.durable

-- a candidate counts the votes of its configuration's voters
abbrev pub CountsVoters : Node → Option Tallied → Type 0
CountsVoters node tally =
    node.role ≡ Candidate → IfSome tally (λ t. t.voters ≡ voters node.config) × (tally ≢ None)

pub record IsCoherent (node : Node) (tally : Option Tallied) (optimes : List OpTime) : Type 0 where
  pub number : node.number < 50
  pub vote : IfSome node.vote (λ voter. voter < 50)
  pub config : rule node.config ≡ None
  pub first : rule node.first ≡ None
  pub points : ArePoints node
  pub recorded : IsRecorded node
  -- the entries that aren't in the records
  pub unjournaled : optimes ≡ map (λ entry. entry.optime) (unjournaled node)
  pub counts : CountsVoters node tally

-- the term is within its bound, no entry is of a later one, and each open slot is of this one
pub record IsOfTerm (term : ℕ) (log : List Entry) (slots : sets.FinSet optime_cmp) : Type 0 where
  pub bound : term < 2 ^ 63
  pub entries : All (λ entry. entry.optime.term ≤ term) log
  pub open_slots : (slot : OpTime) → IsTrue (sets.contains slots slot) → slot.term ≡ term

-- A node with this data, and with what it has besides, is coherent. Writers may write where it is primary,
-- and only there, and its log is of its term.
pub record IsState (node : Node) (rest : BesideData) (optimes : List OpTime) : Type 0 where
  pub writable : node.role ≡ data_role (is_primary rest.role)
  pub of_term : IsOfTerm rest.term node.log node.slots
  pub coherent : IsCoherent (seen_node node rest) rest.tally optimes
