-- What the calls of a change stream give, over a whole run (MongoDB manual, change streams: a stream shows
-- changes that a majority has, and goes on after a resume token).
use Rattle.std.specs.Prelude.{◌≡◌, ◌≢◌, ◌⊎◌, ◌<◌, ℕ, List, [], Err}
use Rattle.std.specs.List.{All, AllPairs}
use Rattle.rs_optime.specs.declared.optime.OpTime.{OpTime}
use Rattle.oplog_entry.specs.Log.{StandsBefore}
use Rattle.oplog_entry.specs.Visible.{ZERO, log_up_to}
use Rattle.set_model.specs.declared.command.Event.{Event}
use Rattle.set_model.specs.Node.{Node}
use Rattle.set_model.specs.Run.{Sizes}
use Rattle.set_model.specs.Safety.{AtMost, Has, IsAt, Leads}
use Rattle.change_stream.specs.declared.error.WatchError.TheVariants.{UnknownToken}
use Rattle.change_stream.specs.Calls.{Call, answer, joined, part, token_after}
use Rattle.change_stream.specs.Shown.{Shows}

module _ (sizes : Sizes) (events : List Event) where
  -- ZERO, or in a node's log at or before its commit point
  abbrev pub IsCommittedPoint : OpTime → Type 0
  IsCommittedPoint at =
      (at ≡ ZERO)
      ⊎ ((place number : ℕ) × (node : Node) × IsAt sizes events place number node × Has node.log at
      × AtMost at node.commit)

  -- What the calls gave is a part of every log that is committed that far, at any node and any time. It is
  -- also a part of the log of each node that leads in a later term than all nodes that were asked. Timestamps
  -- rise along it, so it has each entry once. A token that was given, or that was committed, is known to each
  -- call.
  pub record Streams (start : OpTime) (calls : List Call) : Type 0 where
    pub committed :
        (place number : ℕ) (node : Node) → IsAt sizes events place number node
        → AtMost (token_after start calls) node.commit
        → joined start calls ≡ part start (token_after start calls) (log_up_to node.commit node.log)
    pub leaders :
        (place number term : ℕ) (leader : Node) → Leads sizes events place number term leader
        → All (λ (call : Call). call.term < term) calls
        → joined start calls ≡ part start (token_after start calls) leader.log
    pub once : AllPairs StandsBefore (joined start calls)
    pub known :
        (IsCommittedPoint start ⊎ (joined start calls ≢ [])) → (call : Call) → Shows sizes events call
        → answer (token_after start calls) call ≢ Err UnknownToken

  -- this holds of each stream, whatever token it was opened with, and whichever calls it made
  abbrev pub StreamLaw : Type 0
  StreamLaw =
      (start : OpTime) (calls : List Call) → All (Shows sizes events) calls → Streams start calls
