-- When two nodes, two replies and two worlds are alike: whatever may happen to one may happen to the other.
use Rattle.std.specs.Prelude.{◌≡◌, ℕ, true, false, length, Some, slice_get}
use Rattle.rs_optime.specs.Membership.{In}
use Rattle.repl_msg.specs.Kept.{kept}
use Rattle.repl_msg.specs.declared.message.Message.{Message}
use Rattle.repl_msg.specs.declared.record.Kept.{Kept}
use Rattle.set_model.specs.declared.reply.Reply.{Reply}
use Rattle.set_model.specs.declared.reply.Reply.TheVariants.{Candidate, DryRun, Sent, SentTo, Replied}
use Rattle.set_model.specs.Node.{Node}
use Rattle.set_model.specs.Roles.{is_candidate}
use Rattle.set_model.specs.World.{World}
use Rattle.explore_laws.specs.Dead.{is_dead_in}

-- what records come to, as far as a node looks at it: not the form of the journal, nor how many they are
pub record ComeToOne (one two : Kept) : Type 0 where
  pub vote : one.vote ≡ two.vote
  pub config : one.config ≡ two.config
  pub entries : one.entries ≡ two.entries
  pub point : one.point ≡ two.point

-- the same but for their records, which come to the same, and for votes, which count at a candidate alone
pub record AlikeNodes (one two : Node) : Type 0 where
  pub others : record one { records = two.records; tally = two.tally } ≡ two
  pub records : ComeToOne (kept one.records) (kept two.records)
  pub tally : is_candidate one.role ≡ true → one.tally ≡ two.tally

-- the reply with 0 in place of the number of a message
abbrev pub unnumbered : Reply → Reply
unnumbered (Candidate term first count) = Candidate term 0 count
unnumbered (DryRun term first count) = DryRun term 0 count
unnumbered (Sent message) = Sent 0
unnumbered (SentTo message source) = SentTo 0 source
unnumbered (Replied message) = Replied 0
unnumbered reply = reply

-- they differ in numbers of messages alone
abbrev pub AlikeReplies : Reply → Reply → Type 0
AlikeReplies one two = unnumbered one ≡ unnumbered two

-- what was sent in the one world and isn't dead was sent in the other too
abbrev pub HasLive : World → World → Type 0
HasLive one two =
    (message : Message) → In message one.messages → is_dead_in one message ≡ false
    → In message two.messages

-- Node by node they are alike, and the same messages that aren't dead were sent in both: whatever their
-- order, and how often.
pub record AlikeWorlds (one two : World) : Type 0 where
  pub count : length one.nodes ≡ length two.nodes
  pub nodes :
      (number : ℕ) (a b : Node) → slice_get one.nodes number ≡ Some a → slice_get two.nodes number ≡ Some b
      → AlikeNodes a b
  pub there : HasLive one two
  pub back : HasLive two one
