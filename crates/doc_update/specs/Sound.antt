-- What a write needs of the existing document, and what its op has to satisfy.
use Rattle.std.specs.Prelude.{◌≡◌, ⊤, [], ◌∷◌, ◌++◌, true, false, List, Option, None, Some, Result, Ok, Err, codes}
use Rattle.std.specs.FinMap as maps
use Rattle.bson_doc.specs.Tree.{Fields}
use Rattle.bson_doc.specs.Place.{Place}
use Rattle.oplog_entry.specs.declared.entry.Entry as entries
use Rattle.oplog_entry.specs.Docs.{docs}
use Rattle.oplog_entry.specs.Lawful.{BeginsWithId, IsLawfulOp}
use Rattle.oplog_entry.specs.Step.{id_key, place_of, document_after}
use Rattle.oplog_entry.specs.Walk.{join}
use Rattle.doc_update.specs.Effect.{under}
use Rattle.doc_update.specs.Increment.{has_wrong_side, has_overflow, sums}
use Rattle.doc_update.specs.Ordered.{in_byte_order}
use Rattle.doc_update.specs.declared.write.Prepared.{Prepared}
use Rattle.doc_update.specs.declared.write.Prepared.TheVariants.{Entry, NoMatch, Unchanged}
use Rattle.doc_update.specs.Refusal.{Reason}
use Rattle.doc_update.specs.declared.write.WriteRefusal.{WriteRefusal}
use Rattle.doc_update.specs.declared.write.WriteRefusal.TheVariants.{IncType, IncOverflow, Memory}

-- the document begins with an `_id` whose key the write names
abbrev pub IsNamed : Result Place Reason → Fields → Type 0
IsNamed (Ok place) doc = BeginsWithId doc × (id_key doc ≡ Some place.1)
IsNamed (Err why) doc = ⊥

abbrev pub named_place : Result Place Reason → Option Place
named_place (Ok place) = Some place
named_place (Err why) = None

-- a logged op is lawful, touches the document that the write names, and leaves the document given with it
abbrev pub IsSound : Result Place Reason → Option Fields → Prepared → Type 0
IsSound place before (Entry op after) =
    IsLawfulOp op × (place_of op ≡ named_place place) × (after ≡ document_after op before)
IsSound place before NoMatch = ⊤
IsSound place before Unchanged = ⊤

-- once it is logged after entries that leave this document at the place, the document given with it is there
abbrev pub IsStored : Result Place Reason → Option Fields → Prepared → Type 0
IsStored (Ok place) before (Entry op after) =
    (log : List entries.Entry) (entry : entries.Entry) → entry.op ≡ op → maps.get (docs log) place ≡ before
    → maps.get (docs (log ++ entry ∷ [])) place ≡ after
IsStored (Ok place) before NoMatch = ⊤
IsStored (Ok place) before Unchanged = ⊤
IsStored (Err why) before p = ⊤

-- what is set by an update, or why it can't be
abbrev pub SetsAre : Fields → Fields → Result Fields WriteRefusal → Type 0
SetsAre operators doc (Ok sets) =
    (has_wrong_side doc (under (codes "$inc") operators) ≡ false)
    × (has_overflow doc (under (codes "$inc") operators) ≡ false)
    × (sets
    ≡ in_byte_order (join (under (codes "$set") operators) (sums doc (under (codes "$inc") operators))))
SetsAre operators doc (Err IncType) = has_wrong_side doc (under (codes "$inc") operators) ≡ true
SetsAre operators doc (Err IncOverflow) =
    (has_wrong_side doc (under (codes "$inc") operators) ≡ false)
    × (has_overflow doc (under (codes "$inc") operators) ≡ true)
SetsAre operators doc (Err Memory) = ⊤
SetsAre operators doc (Err _) = ⊥
