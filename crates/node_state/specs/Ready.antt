-- What a node needs to go on after a store: no memory runs out between two stores, and what was prepared is
-- what the remaining steps have to leave.
use Rattle.std.specs.Prelude.{◌≡◌, ◌<◌, ◌≤◌, ◌-◌, ◌^◌, ◌+◌, ℕ, false, List, [], ◌∷◌, All, Option, None, Some, IfSome, length, ⊤, ◌⊎◌}
use Rattle.rs_optime.specs.declared.optime.OpTime.{OpTime}
use Rattle.oplog_entry.specs.Visible.{ZERO}
use Rattle.entry_bytes.specs.Sizes.{IsWithinEntry}
use Rattle.member_config.specs.declared.config.Config.{Config}
use Rattle.member_config.specs.Config.{in_term}
use Rattle.member_config.specs.Rule.{rule}
use Rattle.member_config.specs.Voters.{voters}
use Rattle.election_core.specs.Counting.{Tallied}
use Rattle.repl_msg.specs.declared.message.Body.TheVariants as bodies
use Rattle.repl_msg.specs.declared.message.FetchReply.{FetchReply}
use Rattle.repl_msg.specs.declared.message.Message.{Message}
use Rattle.repl_msg.specs.declared.message.VoteAsk.{VoteAsk}
use Rattle.repl_msg.specs.declared.message.VoteRefusal.{VoteRefusal}
use Rattle.repl_msg.specs.declared.record.Record.TheVariants as records
use Rattle.set_model.specs.declared.role.Role.TheVariants.{Draining, Primary, Secondary}
use Rattle.set_model.specs.declared.store.Store.{Store}
use Rattle.set_model.specs.declared.store.Store.TheVariants as stores
use Rattle.set_model.specs.Beats.{given_way}
use Rattle.set_model.specs.Changes.{in_new_term}
use Rattle.set_model.specs.Disk.{next_entries, next_durable, next_stable}
use Rattle.set_model.specs.Elections.{candidate}
use Rattle.set_model.specs.Node.{Node}
use Rattle.set_model.specs.Outcome.{message_to}
use Rattle.set_model.specs.Points.{last_point}
use Rattle.set_model.specs.Rollback.{cut_record}
use Rattle.set_model.specs.Safety.{AtMost, Has}
use Rattle.set_model.specs.Stores.{vote_record, config_record}
use Rattle.set_model.specs.Votes.{asks, vote_for}
use Rattle.node_state.specs.StateView.{StateView}
use Rattle.set_model.specs.Taking.{CanTakeEntries}
use Rattle.node_state.specs.MessageContinuation.{beat_in}
use Rattle.node_state.specs.declared.turn.HeardBeat.{HeardBeat}
use Rattle.node_state.specs.declared.turn.Continuation.{Continuation}
use Rattle.node_state.specs.declared.turn.Continuation.TheVariants.{Campaign, Drain, Flush, Checkpoint, Reconfig, VoteInTerm, VoteGiven, TookTerm, Installed, Cut}
use Rattle.node_state.specs.declared.turn.MessageContinuation.{MessageContinuation}
use Rattle.node_state.specs.declared.turn.MessageContinuation.TheVariants.{Answered, Fetched, Heard, RolledBack, Ignored}
use Rattle.node_state.specs.declared.turn.NewConfig.{NewConfig}
use Rattle.node_state.specs.declared.turn.Turn.{Turn}
use Rattle.node_state.specs.declared.turn.Turn.TheVariants.{Finished, Storing}

-- ---- each way of continuing

pub record IsCandidacy (item : Store) (tally : Tallied) (sent : List Message) (node : Node) : Type 0 where
  pub item_is : item ≡ vote_record (node.term + 1) (Some node.number)
  pub term : node.term < 2 ^ 63 - 1
  pub tally_is : tally ≡ record { voters = voters node.config; yes = node.number ∷ [] }
  pub sent_is : sent ≡ asks (candidate node) false

-- the log is applied, and there is room for the no-op
pub record IsDrained (item : Store) (config : Config) (standing : StateView) : Type 0 where
  pub item_is : item ≡ config_record config
  pub config_is : config ≡ in_term standing.node.config standing.node.term
  pub role : standing.node.role ≡ Draining
  pub applied : standing.node.applied ≡ last_point standing.node
  pub room : 0 < standing.spare
  pub seen : standing.node.seen < 2 ^ 64 - 1

pub record IsFlush (item : Store) (count : ℕ) (point : OpTime) (node : Node) : Type 0 where
  pub item_is : item ≡ stores.Record (records.Entries (next_entries node) (next_durable node))
  pub count_is : count ≡ length (next_entries node)
  pub point_is : point ≡ next_durable node

pub record IsCheckpoint (item : Store) (at : OpTime) (node : Node) : Type 0 where
  pub item_is : item ≡ stores.Checkpoint at
  pub at_is : at ≡ next_stable node

pub record IsNewConfig (item : Store) (config : Config) (node : Node) : Type 0 where
  pub item_is : item ≡ config_record config
  pub term : config.term ≡ node.term
  pub lawful : rule config ≡ None
  pub role : node.role ≡ Primary

-- a vote, or none, in a higher term
pub record IsVoteInTerm (item : Store) (next from : ℕ) (ask : VoteAsk) (why : Option VoteRefusal)
    (sent : List Message) (node : Node) : Type 0 where
  pub item_is : item ≡ vote_record ask.asked (vote_for from why)
  pub above : node.term < ask.asked
  pub term : ask.asked < 2 ^ 63
  pub from_is : from < 50
  pub sent_is : sent ≡ message_to (in_new_term node ask.asked (vote_for from why)) from
      (bodies.VoteReply ask.asked ask.dry why) ∷ []

-- a vote in the node's own term
pub record IsVoteGiven (item : Store) (from : ℕ) (ask : VoteAsk) (why : Option VoteRefusal)
    (sent : List Message) (node : Node) : Type 0 where
  pub item_is : item ≡ vote_record node.term (Some from)
  pub from_is : from < 50
  pub sent_is : sent ≡ message_to node from (bodies.VoteReply ask.asked ask.dry why) ∷ []

pub record IsInstall (item : Store) (config : Config) (standing : StateView) : Type 0 where
  pub item_is : item ≡ config_record config
  pub lawful : rule config ≡ None
  pub role : standing.node.role ≡ Secondary
  pub place : 0 < standing.places

-- a point up to which the log is applied, no earlier than the commit point
pub record IsCut (point : OpTime) (node : Node) : Type 0 where
  pub role : node.role ≡ Secondary
  pub commit : AtMost node.commit point
  pub applied : AtMost point node.applied
  pub there : (point ≡ ZERO) ⊎ Has node.log point
  pub rollback : node.rollback < 2 ^ 64 - 1

-- ---- once a message's term is taken

pub record IsFetched (fetched : FetchReply) (standing : StateView) : Type 0 where
  pub place : 0 < standing.places
  pub lawful : CanTakeEntries standing.node standing.node.term fetched
  pub room : length fetched.entries ≤ standing.spare

-- the same configuration is stored and installed
abbrev pub IsHeard : Option NewConfig → HeardBeat → StateView → Type 0
IsHeard newer hearing standing =
    (0 < standing.places)
    × IfSome newer (λ new. (new.journaled ≡ new.installed) × (rule new.installed ≡ None)
    × ((given_way standing.node (beat_in hearing standing.node)).role ≡ Secondary))

abbrev pub IsReadyMessage : MessageContinuation → StateView → Type 0
IsReadyMessage (Answered next sent) standing = ⊤
IsReadyMessage (Fetched from fetched) standing = IsFetched fetched standing
IsReadyMessage (Heard newer hearing) standing = IsHeard newer hearing standing
IsReadyMessage (RolledBack point removed lost) standing = IsCut point standing.node
IsReadyMessage (Ignored why) standing = ⊤

-- a node that took a term
abbrev pub in_term_of : ℕ → StateView → StateView
in_term_of term standing = record standing { node = in_new_term standing.node term None }

pub record IsTerm (item : Store) (term : ℕ) (told : MessageContinuation) (standing : StateView) : Type 0 where
  pub item_is : item ≡ vote_record term None
  pub above : standing.node.term < term
  pub bound : term < 2 ^ 63
  pub ready : IsReadyMessage told (in_term_of term standing)

-- ---- all of them

abbrev pub IsReady : Store → Continuation → StateView → Type 0
IsReady item (Campaign next tally sent) standing = IsCandidacy item tally sent.items standing.node
IsReady item (Drain config) standing = IsDrained item config standing
IsReady item (Flush count point) standing = IsFlush item count point standing.node
IsReady item (Checkpoint at) standing = IsCheckpoint item at standing.node
IsReady item (Reconfig config) standing = IsNewConfig item config standing.node
IsReady item (VoteInTerm next from ask why sent) standing =
    IsVoteInTerm item next from ask why sent.items standing.node
IsReady item (VoteGiven next from ask why sent) standing =
    IsVoteGiven item from ask why sent.items standing.node
IsReady item (TookTerm term told) standing = IsTerm item term told standing
IsReady item (Installed config hearing) standing = IsInstall item config standing
IsReady item (Cut point removed lost) standing = (item ≡ cut_record point) × IsCut point standing.node

-- what a node stores fits into a record: a vote for a member, a configuration that breaks no rule, and at
-- most 2,000 entries, each of which fits too
abbrev pub CanBeStored : Store → Type 0
CanBeStored (stores.Record (records.Vote vote)) = IfSome vote.candidate (λ c. c < 50)
CanBeStored (stores.Record (records.Config config)) = rule config ≡ None
CanBeStored (stores.Record (records.Entries list point)) = (length list ≤ 2000) × All IsWithinEntry list
CanBeStored (stores.Record (records.Cut at)) = ⊤
CanBeStored (stores.Record (records.Form form)) = ⊤
CanBeStored (stores.Checkpoint at) = ⊤

abbrev pub IsReadyTurn : Turn → StateView → Type 0
IsReadyTurn (Finished answer sent) standing = ⊤
IsReadyTurn (Storing item then) standing = IsReady item then standing × CanBeStored item
