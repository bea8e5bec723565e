-- Writers by their numbers: which are open, and what each holds.
use Rattle.std.specs.Prelude.{◌≡◌, ℕ, Bool, true, false, Option, Some, None}
use Rattle.std.specs.Coded.{Coded, coded_ℕ}
use Rattle.std.specs.Ordering.{nat_cmp}
use Rattle.std.specs.FinMap as maps
use Rattle.bson_doc.specs.Place.{Place}
use Rattle.rs_optime.specs.declared.optime.OpTime.{OpTime}
use Rattle.oplog_entry.specs.declared.entry.Op.{Op}
use Rattle.oplog_entry.specs.Step.{place_of}
use Rattle.set_model.specs.declared.writer.Writer.{Writer}
use Rattle.set_model.specs.declared.writer.Writer.TheVariants.{Open, Done, Lost}
use Rattle.set_model.specs.contracts.writer.Writer.{the_row as writer_row}

abbrev pub Writers : Type 0
Writers = maps.FinMap nat_cmp Writer

abbrev pub writers_code : Coded Writers
writers_code = maps.code coded_ℕ writer_row.coded

-- a writer's slot is open at an optime, for an op
abbrev pub HasOpen : Writers → ℕ → OpTime → Op → Type 0
HasOpen writers writer at op = maps.get writers writer ≡ Some (Open at op)

-- the writer has a slot
abbrev pub IsWriting : Writers → ℕ → Type 0
IsWriting writers writer = (at : OpTime) × (op : Op) × HasOpen writers writer at op

-- whether a writer, if there is one, has a slot
abbrev pub is_open : Option Writer → Bool
is_open (Some (Open at op)) = true
is_open (Some (Done at)) = false
is_open (Some (Lost term)) = false
is_open None = false

-- the place of the document that a writer holds
abbrev pub held_place : Writer → Option Place
held_place (Open at op) = place_of op
held_place (Done at) = None
held_place (Lost term) = None

-- the writers, with one of them put back to what it was
abbrev pub put_back : Writers → ℕ → Option Writer → Writers
put_back writers number None = maps.remove writers number
put_back writers number (Some writer) = maps.insert writers number writer
