-- Writes by reference.
use Rattle.doc_update.specs.declared.borrowed.BorrowedWrite.{BorrowedWrite}
use Rattle.doc_update.specs.declared.borrowed.BorrowedWrite.TheVariants as borrowed
use Rattle.doc_update.specs.declared.write.WriteOp.{WriteOp}
use Rattle.doc_update.specs.declared.write.WriteOp.TheVariants.{Insert, Replace, Update, Delete}

-- the write that a reference refers to
abbrev pub shown : BorrowedWrite → WriteOp
shown (borrowed.Insert ns doc) = Insert ns.now doc.now
shown (borrowed.Replace ns id doc) = Replace ns.now id.now doc.now
shown (borrowed.Update ns id operators) = Update ns.now id.now operators.now
shown (borrowed.Delete ns id) = Delete ns.now id.now
