-- What becomes of the documents of a store when entries of an oplog are applied one after another.
use Rattle.std.specs.Prelude.{◌≡◌, Bool, true, List, fold, if◌then◌else◌}
use Rattle.std.specs.List.{All, AllPairs}
use Rattle.bson_doc.specs.Place.{Place}
use Rattle.oplog_entry.specs.declared.entry.Entry.{Entry}
use Rattle.oplog_entry.specs.Lawful.{IsLawful}
use Rattle.oplog_entry.specs.Step.{place_of, is_at, document_after}
use Rattle.version_store.specs.Past.{Past, is_before, latest_of, with_version}
use Rattle.version_store.specs.Store.{Store, past_at, versions_at}

-- whether an entry touches the document at a place
abbrev pub touches : Entry → Place → Bool
touches entry place = is_at (place_of entry.op) place

-- the past of a place after one more entry: what the entry leaves is a version, from the entry's optime on
abbrev pub past_with : Place → Past → Entry → Past
past_with place past entry =
    if touches entry place
    then with_version past
    (record { at = entry.optime; doc = document_after entry.op (latest_of past.versions) })
    else past

-- the past of a place after entries, applied one after another
abbrev pub past_after : Place → Past → List Entry → Past
past_after place past entries = fold (past_with place) past entries

-- the entries are lawful, with rising optimes later than every version
pub record IsBatch (store : Store) (entries : List Entry) : Type 0 where
  pub lawful : All IsLawful entries
  pub rising : AllPairs (λ one two. is_before one.optime two.optime ≡ true) entries
  pub later : (place : Place)
      → All (λ version. All (λ entry. is_before version.at entry.optime ≡ true) entries)
      (versions_at store place)

-- each place has the past that the entries leave, one after another
pub record HasApplied (old new : Store) (entries : List Entry) : Type 0 where
  pub each : (place : Place) → past_at new place ≡ past_after place (past_at old place) entries
  pub count : new.count ≡ old.count
