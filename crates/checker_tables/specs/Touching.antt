-- How late the documents of a log are touched.
use Rattle.std.specs.Prelude.{◌≡◌, true, Bool, List, All, Option, None, Some, ⊤}
use Rattle.std.specs.BTreeMap.{BTreeMap, get}
use Rattle.rs_optime.specs.Order.{AtMost, is_before}
use Rattle.rs_optime.specs.declared.optime.OpTime.{OpTime}
use Rattle.bson_doc.specs.Place.{Place, place_cmp}
use Rattle.oplog_entry.specs.Step.{place_of}
use Rattle.oplog_entry.specs.declared.entry.Entry.{Entry}

-- an optime for each place of a document, or nothing that is known of them
abbrev pub Ends : Type 0
Ends = Option (BTreeMap Place OpTime)

-- the end of the document that an entry touches isn't before the entry
abbrev pub IsByEnd : BTreeMap Place OpTime → Entry → Type 0
IsByEnd ends entry = (place : Place) → place_of entry.op ≡ Some place
    → (end : OpTime) × (get place_cmp ends place ≡ Some end) × AtMost entry.optime end

-- so it is for each entry of a log
abbrev pub EndAll : List Entry → Ends → Type 0
EndAll log None = ⊤
EndAll log (Some ends) = All (IsByEnd ends) log

-- there is no end, or it is before an optime
abbrev pub ends_before : Option OpTime → OpTime → Bool
ends_before None at = true
ends_before (Some end) at = is_before end at

-- no end comes earlier, and that of a place isn't before an optime
pub record EndAlso (place : Place) (at : OpTime) (old new : BTreeMap Place OpTime) : Type 0 where
  pub same : (other : Place) (end : OpTime) → get place_cmp old other ≡ Some end
      → (later : OpTime) × (get place_cmp new other ≡ Some later) × AtMost end later
  pub own : (end : OpTime) × (get place_cmp new place ≡ Some end) × AtMost at end
