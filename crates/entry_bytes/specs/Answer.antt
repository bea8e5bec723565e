-- What a reader returns.
use Rattle.std.specs.Prelude.{◌≡◌, ◌≢◌, ⊤, Result, Ok, Err}
use Rattle.bson_doc.specs.Tree.{Fields}
use Rattle.bson_doc.specs.declared.key.KeyError.{KeyError}
use Rattle.bson_doc.specs.declared.key.KeyError.TheVariants.{Kind, Memory as NoKeyMemory}
use Rattle.bson_codec.specs.declared.error.DecodeError.{DecodeError}
use Rattle.bson_codec.specs.declared.error.DecodeError.TheVariants.{Memory as NoDecodeMemory}
use Rattle.oplog_entry.specs.Lawful.{IsLawful}
use Rattle.oplog_entry.specs.declared.entry.Entry.{Entry}
use Rattle.entry_bytes.specs.Layout.{document_of}
use Rattle.entry_bytes.specs.declared.error.EntryError.{EntryError}
use Rattle.entry_bytes.specs.declared.error.EntryError.TheVariants.{Codec, Shape, Memory}

-- a value of this kind, or Shape where there is none, unless memory ran out
abbrev pub Reads : {X : Type 0} → (X → Type 0) → Type 0 → Result X EntryError → Type 0
Reads IsSuch ThereIsNone (Ok x) = IsSuch x
Reads IsSuch ThereIsNone (Err Shape) = ThereIsNone
Reads IsSuch ThereIsNone (Err Memory) = ⊤
Reads IsSuch ThereIsNone (Err (Codec rule)) = ⊥

-- the entry of a decoded document, or why there is none, unless memory ran out
abbrev pub Answers : Result Fields DecodeError → Result Entry EntryError → Type 0
Answers decoded (Ok entry) = IsLawful entry × (decoded ≡ Ok (document_of entry))
Answers decoded (Err (Codec rule)) = (rule ≢ NoDecodeMemory) × (decoded ≡ Err rule)
Answers decoded (Err Shape) =
    (d : Fields) × (decoded ≡ Ok d) × ((entry : Entry) → IsLawful entry → document_of entry ≢ d)
Answers decoded (Err Memory) = ⊤

-- this entry, unless memory ran out
abbrev pub IsReadAs : Entry → Result Entry EntryError → Type 0
IsReadAs entry (Ok read) = read ≡ entry
IsReadAs entry (Err Memory) = ⊤
IsReadAs entry (Err _) = ⊥

abbrev pub error_of_key : KeyError → EntryError
error_of_key (Kind byte) = Shape
error_of_key NoKeyMemory = Memory

abbrev pub error_of_decode : DecodeError → EntryError
error_of_decode NoDecodeMemory = Memory
error_of_decode rule = Codec rule
