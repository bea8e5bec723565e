-- What a rollback keeps of a log, and which documents it undoes (MongoDB's replication architecture
-- guide, rollback; RaftMongo).
use Rattle.std.specs.Prelude.{ℕ, ◌==◌, Bool, not, ◌&&◌, ◌||◌, nat_lt, List, map, filter, Option}
use Rattle.std.specs.List.{list_any, filter_map}
use Rattle.std.specs.FinMap as maps
use Rattle.rs_optime.specs.Order.{is_before}
use Rattle.rs_optime.specs.declared.optime.OpTime.{OpTime}
use Rattle.bson_doc.specs.Place.{Place, place_cmp}
use Rattle.bson_doc.specs.Tree.{Fields}
use Rattle.oplog_entry.specs.declared.entry.Entry.{Entry}
use Rattle.oplog_entry.specs.Step.{place_of}
use Rattle.oplog_entry.specs.Visible.{last_of}
use Rattle.repl_msg.specs.Logs.{same_optime}

-- the source has this, as far as its answer says: it is at or before the optime that was asked for, or
-- in the list
abbrev pub is_common : OpTime → List OpTime → OpTime → Bool
is_common after optimes at = not (is_before after at) || list_any (same_optime at) optimes

-- a source's log ends in a node's term, and the node's own in an earlier one
abbrev pub is_of_later_branch : ℕ → (own_last source_last : OpTime) → Bool
is_of_later_branch term own_last source_last =
    source_last.term == term && nat_lt own_last.term source_last.term

-- the last entry that the source has too, or ZERO
abbrev pub common_point : List Entry → OpTime → List OpTime → OpTime
common_point log after optimes = last_of (filter (λ entry. is_common after optimes entry.optime) log)

-- the places of the documents that some entries touch
abbrev pub places_of : List Entry → List Place
places_of entries = filter_map (λ entry. place_of entry.op) entries

abbrev pub with_nothing : Place → Place × Unit {0}
with_nothing place = (place, tt)

-- the distinct places, in order of collection and key
abbrev pub each_once : List Place → List Place
each_once places = maps.keys (maps.from_entries {R = place_cmp} (map with_nothing places))

-- the places that some entries touch, each once, in order, with the document at each place
abbrev pub touched_documents : (Place → Option Fields) → List Entry → List (Place × Option Fields)
touched_documents standing entries = map (λ place. (place, standing place)) (each_once (places_of entries))
