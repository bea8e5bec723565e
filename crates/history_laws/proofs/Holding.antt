-- Each open writer holds its document: no other one, and no entry after its slot, touches that.
use Rattle.std.proofs.Common.{◌≡◌, ◌∙◌, ◌⊎◌, inl, inr, sym, refl, ℕ, false, Some, List, []}
use Rattle.std.specs.FinMap as maps
use Rattle.std.specs.Ordering.{nat_cmp}
use Rattle.bson_doc.specs.Place.{Place}
use Rattle.rs_optime.specs.Membership.{In}
use Rattle.rs_optime.specs.Order.{Before}
use Rattle.rs_optime.specs.declared.optime.OpTime.{OpTime}
use Rattle.oplog_entry.specs.Step.{place_of}
use Rattle.oplog_entry.specs.declared.entry.Entry.{Entry}
use Rattle.oplog_entry.specs.declared.entry.Op.{Op}
use Rattle.oplog_store.specs.Log.{with_entry}
use Rattle.set_model.specs.declared.role.Role.{Role}
use Rattle.set_model.specs.declared.role.Role.TheVariants as roles
use Rattle.set_model.specs.declared.store.Store.{Store}
use Rattle.set_model.specs.declared.writer.Writer.{Writer}
use Rattle.set_model.specs.declared.writer.Writer.TheVariants as writers
use Rattle.set_model.specs.Node.{Node}
use Rattle.set_model.specs.Outcome.{Outcome}
use Rattle.set_model.specs.Roles.{is_leading}
use Rattle.set_model.specs.Stores.{Plan, in_doubt}
use Rattle.set_model.proofs.HoldLemmas.{held_by_none}
use Rattle.safety_laws.proofs.Opening.{no_writer}
use Rattle.history_laws.proofs.Places.{IsFree}
use Rattle.history_laws.proofs.Plans.{PlanEnds}

abbrev pub Writers : Type 0
Writers = maps.FinMap nat_cmp Writer

-- no document is touched by both
abbrev pub AreApart : Op → Op → Type 0
AreApart one two = (place : Place) → place_of one ≡ Some place → place_of two ≡ Some place → ⊥

abbrev pub IsOpen : Writers → ℕ → OpTime → Op → Type 0
IsOpen open_ones number at op = maps.get open_ones number ≡ Some (writers.Open at op)

pub record HasHolds (role : Role) (log : List Entry) (open_ones : Writers) : Type 0 where
  pub primary : (number : ℕ) (at : OpTime) (op : Op) → IsOpen open_ones number at op → role ≡ roles.Primary
  pub alone : (one two : ℕ) (at other : OpTime) (op another : Op) → IsOpen open_ones one at op → IsOpen open_ones two other another → (one ≡ two → ⊥) → AreApart op another
  pub later : (number : ℕ) (at : OpTime) (op : Op) → IsOpen open_ones number at op → (entry : Entry) → In entry log → Before at entry.optime → AreApart op entry.op

abbrev pub Holding : Node → Type 0
Holding node = HasHolds node.role node.log node.writers

-- no writer is open
abbrev pub AreClosed : Writers → Type 0
AreClosed open_ones = (number : ℕ) (at : OpTime) (op : Op) → IsOpen open_ones number at op → ⊥

pub closed_holds : (role : Role) (log : List Entry) (open_ones : Writers) → AreClosed open_ones → HasHolds role log open_ones
closed_holds role log open_ones closed = record {
  primary = λ number at op is. absurd (closed number at op is);
  alone = λ one two at other op another is. absurd (closed one at op is);
  later = λ number at op is. absurd (closed number at op is);
}

pub none_closed : AreClosed maps.empty
none_closed number at op is = no_writer number _ is

-- only a primary has open writers
pub closed_by : (node : Node) → Holding node → (node.role ≡ roles.Primary → ⊥) → AreClosed node.writers
closed_by node holds other number at op is = other (holds.primary number at op is)

-- where nobody holds what an op touches, no open writer's op touches it
pub free_apart : (node : Node) (op : Op) → IsFree node op → (number : ℕ) (at : OpTime) (own : Op) → IsOpen node.writers number at own → AreApart own op
free_apart node op free number at own is place touches touches_too =
    held_by_none node.writers free.place free.free number at own is (touches ∙ sym touches_too ∙ free.touches)

-- ---- what a step does to a log

-- an entry is written, and none after it in the log touches its document
pub record Adds (old new : List Entry) : Type 0 where
  pub entry : Entry
  pub more : new ≡ with_entry old entry
  pub apart : (other : Entry) → In other old → Before entry.optime other.optime → AreApart entry.op other.op

abbrev pub Changes : Node → Node → Type 0
Changes old new = (new.log ≡ old.log) ⊎ ((is_leading new.role ≡ false) ⊎ Adds old.log new.log)

abbrev pub Goes : Node → Node → Type 0
Goes old new = Holding new × Changes old new

abbrev pub Ends : Node → Outcome → Type 0
Ends old outcome = Goes old outcome.node

abbrev pub PlanGoes : Node → Plan → Type 0
PlanGoes old plan = PlanEnds (Goes old) plan

-- a node on the way: its log is as it was
abbrev pub Still : Node → Node → Type 0
Still old node = Holding node × (node.log ≡ old.log)

pub still_goes : (old node : Node) → Still old node → Goes old node
still_goes old node still = (still.0, inl still.1)

pub broken_goes : (old node : Node) (store : Store) → Goes old (in_doubt node store)
broken_goes old node store = (closed_holds roles.Secondary [] maps.empty none_closed, inr (inl refl))
