-- The documents that result from a prefix of a log, with what was there before each of its entries.
use Rattle.std.specs.Prelude.{◌≡◌, ◌≢◌, ◌≤◌, List, [], ◌∷◌, ◌++◌, Option, None, Some, fold, length, take}
use Rattle.std.specs.FinMap as maps
use Rattle.bson_doc.specs.Place.{Place}
use Rattle.bson_doc.specs.Tree.{Fields}
use Rattle.oplog_entry.specs.Docs.{Documents, applied}
use Rattle.oplog_entry.specs.Step.{place_of}
use Rattle.oplog_entry.specs.declared.entry.Entry.{Entry}

-- the place that an entry touches, with what was there before; none, where the entry touches no document
abbrev pub Before : Type 0
Before = Option (Place × Option Fields)

pub record Shelf : Type 0 where
  pub documents : Documents
  pub before : List Before

-- no entry is applied
abbrev pub empty_shelf : Shelf
empty_shelf = record { documents = maps.empty; before = [] }

abbrev pub stood_at : Documents → Option Place → Before
stood_at documents None = None
stood_at documents (Some place) = Some (place, maps.get documents place)

-- what was at an entry's place
abbrev pub stood_before : Documents → Entry → Before
stood_before documents entry = stood_at documents (place_of entry.op)

-- with one more entry
abbrev pub with_applied : Shelf → Entry → Shelf
with_applied shelf entry =
    record {
      documents = applied shelf.documents entry;
      before = shelf.before ++ stood_before shelf.documents entry ∷ [];
    }

-- the shelf of a log
abbrev pub shelf_of : List Entry → Shelf
shelf_of log = fold with_applied empty_shelf log

-- it is the shelf of a prefix of this log
pub record IsOfFront (log : List Entry) (shelf : Shelf) : Type 0 where
  pub within : length shelf.before ≤ length log
  pub is : shelf ≡ shelf_of (take (length shelf.before) log)

-- ---- an entry in the middle

-- two entries don't both touch one document
abbrev pub AreApart : Entry → Entry → Type 0
AreApart one other = (place : Place) → place_of one.op ≡ Some place → place_of other.op ≢ Some place
