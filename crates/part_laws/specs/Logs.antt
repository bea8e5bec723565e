-- Sources, fetching and rollback: what the crates that decide them answer for a node's values, and what
-- the node answers.
use Rattle.std.specs.Prelude.{◌≡◌, ℕ, true, not, nat_lt, List, filter, length, Result, Ok, Err, if◌then◌else◌}
use Rattle.std.specs.List.{All}
use Rattle.std.specs.FinMap as maps
use Rattle.rs_optime.specs.Order.{is_before}
use Rattle.rs_optime.specs.declared.optime.OpTime.{OpTime}
use Rattle.oplog_entry.specs.declared.entry.Entry.{Entry}
use Rattle.oplog_entry.specs.Visible.{ZERO, last_of, log_up_to}
use Rattle.oplog_store.specs.Log.{IsOplog}
use Rattle.member_config.specs.Numbers.{lowest}
use Rattle.repl_msg.specs.declared.message.FetchReply.{FetchReply}
use Rattle.repl_msg.specs.Fetching.{continues}
use Rattle.repl_msg.specs.Logs.{has_entry, log_after}
use Rattle.repl_msg.specs.Rollback.{common_point}
use Rattle.repl_msg.specs.Sources.{sources_of}
use Rattle.sync_source.specs.declared.source.Known.{Known}
use Rattle.sync_source.specs.Known.{heard_of}
use Rattle.oplog_fetcher.specs.Fetch.{reply_to}
use Rattle.rollback_core.specs.declared.point.RollbackRefusal.{RollbackRefusal}
use Rattle.rollback_core.specs.declared.point.RollbackRefusal.TheVariants as part
use Rattle.rollback_core.specs.Plan.{plan}
use Rattle.set_model.specs.declared.reply.Ignored.TheVariants as row
use Rattle.set_model.specs.declared.reply.Reply.TheVariants.{Took}
use Rattle.set_model.specs.Node.{Node}
use Rattle.set_model.specs.Roles.{is_primary, is_secondary}
use Rattle.set_model.specs.Points.{last_point, visible_point}
use Rattle.set_model.specs.Outcome.{replied, ignored}
use Rattle.set_model.specs.Stores.{Plan, finished}
use Rattle.set_model.specs.Fetching as fetching
use Rattle.set_model.specs.Rollback as rollback

-- ---- sources

-- a list says about each member what a node has heard of it
abbrev pub AreKnown : Node → List Known → Type 0
AreKnown node known = (member : ℕ) → heard_of known member ≡ maps.get node.known member

-- `choose` picks the source that a node picks
abbrev pub SourcesAgree : Type 0
SourcesAgree =
    (node : Node) (known : List Known) → AreKnown node known
    → lowest (sources_of node.config node.number (last_point node) (heard_of known))
    ≡ lowest (fetching.sources node)

-- ---- fetching

-- no entry has the optime that comes before every log
abbrev pub AreAfterZero : List Entry → Type 0
AreAfterZero log = All (λ entry. is_before ZERO entry.optime ≡ true) log

-- `reply_to` is what a node answers
abbrev pub FetchesAgree : Type 0
FetchesAgree =
    (node : Node) (base : OpTime) → IsOplog node.log → AreAfterZero node.log
    → reply_to node.log (visible_point node) base node.commit (is_primary node.role)
    ≡ fetching.reply_to node base

-- a secondary accepts what `accept` does
abbrev pub AcceptsAgree : Type 0
AcceptsAgree =
    (node : Node) (from : ℕ) (reply : FetchReply)
    → fetching.entries_told node from reply
    ≡ (if not (is_secondary node.role) then ignored row.NotSecondary node
    else if not (continues (last_point node) reply) then ignored row.OtherPlace node
    else replied (Took (length reply.entries) (last_point (fetching.taken node from reply)))
    (fetching.taken node from reply))

-- ---- rollback

-- what a node does with a plan
abbrev pub planned : Node → Result OpTime RollbackRefusal → Plan
planned node (Ok point) = rollback.rolled_back node point
planned node (Err part.NotOlder) = finished (ignored row.NotOlder node)
planned node (Err part.SameBranch) = finished (ignored row.SameBranch node)

-- a secondary rolls back as `plan` says, if the message isn't of an earlier term
abbrev pub RollbacksAgree : Type 0
RollbacksAgree =
    (node : Node) (term : ℕ) (after : OpTime) (optimes : List OpTime) (visible : OpTime)
    → (if not (is_secondary node.role) then finished (ignored row.NotSecondary node)
    else if nat_lt term node.term then finished (ignored row.OldTerm node)
    else planned node (plan node.term node.log (last_point node) visible after optimes))
    ≡ rollback.common_told node term after optimes visible

-- Where a source shows the same log as the node up to the optime that was asked for, the common point is the
-- last entry that both have.
abbrev pub CommonPointsAreLast : Type 0
CommonPointsAreLast =
    (log shown : List Entry) (after : OpTime) → log_up_to after log ≡ log_up_to after shown
    → common_point log after (rollback.optimes_of (log_after after shown))
    ≡ last_of (filter (λ entry. has_entry shown entry.optime) log)
