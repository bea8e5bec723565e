-- What a write brings.
use Rattle.bson_doc.specs.Sound.{IsSound, IsSoundValue}
use Rattle.bson_doc.specs.View.{tree_of}
use Rattle.doc_update.specs.declared.write.WriteOp.{WriteOp}
use Rattle.doc_update.specs.declared.write.WriteOp.TheVariants.{Insert, Replace, Update, Delete}

-- it is sound at every level: names are distinct and without a zero byte, strings are UTF-8, numbers fit
abbrev pub IsSoundWrite : WriteOp → Type 0
IsSoundWrite (Insert ns document) = IsSound document
IsSoundWrite (Replace ns id document) = IsSoundValue (tree_of id) × IsSound document
IsSoundWrite (Update ns id operators) = IsSoundValue (tree_of id) × IsSound operators
IsSoundWrite (Delete ns id) = IsSoundValue (tree_of id)
