-- How a batch is split over shards, and what is done to each shard.
use Rattle.std.specs.Prelude.{◌≡◌, ◌<◌, ◌%◌, ℕ, Bool, true, false, List, [], ◌∷◌, ◌++◌, Option, None, Some, length, take, filter, nat_eq, slice_index_or, OnOk, Result}
use Rattle.std.specs.List.{All, AllPairs, flat_map}
use Rattle.bson_doc.specs.Place.{Place}
use Rattle.oplog_entry.specs.declared.entry.Entry.{Entry}
use Rattle.oplog_entry.specs.Step.{place_of}
use Rattle.version_store.specs.Hash.{place_hash}
use Rattle.version_store.specs.Past.{is_before}
use Rattle.version_store.specs.Shards.{Shard, past_of, BelongsTo}
use Rattle.batch_applier.specs.Applied.{past_after}

-- whether a place, where there is one, belongs to the shard with a number
abbrev pub is_in : (count number : ℕ) → Option Place → Bool
is_in count number None = false
is_in count number (Some place) = nat_eq (place_hash place % count) number

-- the entries on documents of the shard with a number, in order
abbrev pub part_of : List Entry → (count number : ℕ) → List Entry
part_of entries count number = filter (λ entry. is_in count number (place_of entry.op)) entries

-- for each shard, its entries
pub record AreParts (entries : List Entry) (count : ℕ) (parts : List (List Entry)) : Type 0 where
  pub long : length parts ≡ count
  pub each : (k : ℕ) (d : List Entry) → k < count → slice_index_or parts k d ≡ part_of entries count k

-- one entry comes after those of its shard
abbrev pub IsAdded : (old new : List (List Entry)) → ℕ → Entry → Type 0
IsAdded old new count entry = (k : ℕ) (d : List Entry) → k < length old
    → slice_index_or new k d ≡ slice_index_or old k d ++ part_of (entry ∷ []) count k

-- the entries of a batch's pieces, piece after piece
abbrev pub joined : List (List Entry) → List Entry
joined pieces = flat_map (λ piece. piece) pieces

-- each part is followed by that of the next piece
pub record AreJoined (parts piece joined : List (List Entry)) : Type 0 where
  pub long : length joined ≡ length parts
  pub each : (k : ℕ) (d : List Entry) → k < length parts
      → slice_index_or joined k d ≡ slice_index_or parts k d ++ slice_index_or piece k d

-- the entries touch documents of the shard, with rising optimes later than every version of these
pub record IsReady (shard : Shard) (entries : List Entry) : Type 0 where
  pub own : All (λ entry.
      (place : Place) → place_of entry.op ≡ Some place → BelongsTo shard.number shard.count place) entries
  pub rising : AllPairs (λ one two. is_before one.optime two.optime ≡ true) entries
  pub later : (place : Place) → BelongsTo shard.number shard.count place
      → All (λ version. All (λ entry. is_before version.at entry.optime ≡ true) entries)
      (past_of shard place).versions

-- each document of the shard has the past that the entries leave, one after another
pub record IsApplied (old new : Shard) (entries : List Entry) : Type 0 where
  pub each : (place : Place) → past_of new place ≡ past_after place (past_of old place) entries
  pub number : new.number ≡ old.number
  pub count : new.count ≡ old.count

-- the first entries are applied, some or all of them
abbrev pub IsBegun : Shard → Shard → List Entry → Type 0
IsBegun old new entries = (done : ℕ) × IsApplied old new (take done entries)

-- each shard is ready for the entries on its documents
abbrev pub IsEachReady : List Shard → List Entry → Type 0
IsEachReady shards entries = (k : ℕ) (s : Shard) → k < length shards
    → IsReady (slice_index_or shards k s) (part_of entries (length shards) k)

-- the shard of the document that an entry touches can take a version at the entry's optime
pub record IsReadyFor (shards : List Shard) (entry : Entry) : Type 0 where
  pub own : (k : ℕ) (s : Shard) (place : Place) → k < length shards → place_of entry.op ≡ Some place
      → place_hash place % length shards ≡ k
      → BelongsTo (slice_index_or shards k s).number (slice_index_or shards k s).count place
  pub later : (k : ℕ) (s : Shard) (place : Place) → k < length shards → place_of entry.op ≡ Some place
      → place_hash place % length shards ≡ k
      → All (λ version. is_before version.at entry.optime ≡ true)
      (past_of (slice_index_or shards k s) place).versions

-- this holds of each shard and the entries on its documents
pub record EachOf (So : Shard → Shard → List Entry → Type 0) (old new : List Shard)
    (entries : List Entry) : Type 0 where
  pub long : length new ≡ length old
  pub each : (k : ℕ) (s : Shard) → k < length old
      → So (slice_index_or old k s) (slice_index_or new k s) (part_of entries (length old) k)

-- each shard is ready for its part
pub record AreReady (shards : List Shard) (parts : List (List Entry)) : Type 0 where
  pub long : length parts ≡ length shards
  pub each : (k : ℕ) (s : Shard) (p : List Entry) → k < length shards
      → IsReady (slice_index_or shards k s) (slice_index_or parts k p)

-- this holds of each shard and its part
pub record Each (So : Shard → Shard → List Entry → Type 0) (old new : List Shard)
    (parts : List (List Entry)) : Type 0 where
  pub long : length new ≡ length old
  pub each : (k : ℕ) (s : Shard) (p : List Entry) → k < length old
      → So (slice_index_or old k s) (slice_index_or new k s) (slice_index_or parts k p)

-- all parts are applied to their shards; where memory runs out, the first entries of each part
abbrev pub AreApplied : {A E : Type 0} → Result A E → (old new : List Shard) → List (List Entry) → Type 0
AreApplied result old new parts = OnOk result (Each IsApplied old new parts) × Each IsBegun old new parts
