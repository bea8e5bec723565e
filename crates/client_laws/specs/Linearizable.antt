-- Linearizability (Herlihy and Wing) of what a majority acknowledged and of linear reads, in its strong form:
-- each write takes effect where it was written, and each linear read where it read. A log has its entries in
-- the order of optimes; those of one document were written in this order, since an open writer holds it.
use Rattle.std.specs.Prelude.{◌≡◌, ◌≤◌, ℕ, false, List}
use Rattle.rs_optime.specs.Membership.{In}
use Rattle.bson_doc.specs.View.{tree_of}
use Rattle.bson_doc.specs.declared.doc.Value.{Value}
use Rattle.oplog_entry.specs.Log.{Begins}
use Rattle.oplog_entry.specs.declared.entry.Entry.{Entry}
use Rattle.set_model.specs.declared.command.Event.{Event}
use Rattle.set_model.specs.declared.command.ReadLevel.TheVariants.{Majority}
use Rattle.set_model.specs.declared.reply.Reply.{Reply}
use Rattle.set_model.specs.Node.{Node}
use Rattle.set_model.specs.Reads.{shown_log}
use Rattle.set_model.specs.Run.{Sizes}
use Rattle.set_model.specs.Safety.{IsAt, is_refusal}
use Rattle.linear_read.specs.Linear.{IsConfirmed, IsLinear, ShowsOf}
use Rattle.linear_read.specs.Written.{WasWritten}
use Rattle.client_laws.specs.Acknowledged.{WasAcknowledged}

module _ (sizes : Sizes) (events : List Event) where
  -- of the entries that are ever acknowledged, a log has exactly those written before a place
  pub record IsExact (place : ℕ) (log : List Entry) : Type 0 where
    pub no_more : (entry : Entry) → In entry log
        → WasAcknowledged sizes events entry × WasWritten sizes events place entry
    pub no_less : (entry : Entry) → WasAcknowledged sizes events entry → WasWritten sizes events place entry
        → In entry log

  -- The log of a confirmed primary is exact.
  abbrev pub ConfirmedLogsAreExact : Type 0
  ConfirmedLogsAreExact =
      (place number : ℕ) (node : Node) → IsConfirmed sizes events place number node → IsExact place node.log

  -- A linear read shows a document, or that there is none, as an exact log leaves it.
  abbrev pub LinearReadsAreExact : Type 0
  LinearReadsAreExact =
      (place number : ℕ) (node : Node) (collection : List ℕ) (id : Value) (shown : Reply)
      → IsLinear sizes events place number node collection id shown
      → IsExact place node.log × (is_refusal shown ≡ false → ShowsOf node.log collection (tree_of id) shown)

  -- Each linear read, at any node, shows what earlier ones showed.
  abbrev pub LinearReadsGrow : Type 0
  LinearReadsGrow =
      (i j n m : ℕ) (one two : Node) → i ≤ j → IsConfirmed sizes events i n one
      → IsConfirmed sizes events j m two → (entry : Entry) → In entry one.log → In entry two.log

  -- Each linear read shows what earlier majority reads, at any node, showed.
  abbrev pub MajorityReadsAreShown : Type 0
  MajorityReadsAreShown =
      (i j n m : ℕ) (reader node : Node) → i ≤ j → IsAt sizes events i n reader
      → IsConfirmed sizes events j m node → Begins (shown_log reader Majority) node.log
