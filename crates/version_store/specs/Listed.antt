-- What a shard remembers of the documents that a read at one optime shows.
use Rattle.std.specs.Prelude.{◌≡◌, Bool, true, cond, List, Option, IfSome, IsSome}
use Rattle.std.specs.BTreeSet.{BTreeSet, contains}
use Rattle.std.specs.List.{list_any}
use Rattle.std.specs.Ordering.{eq_by_cmp}
use Rattle.rs_optime.specs.declared.optime.OpTime.{OpTime}
use Rattle.bson_doc.specs.Place.{Place, place_cmp}
use Rattle.version_store.specs.Past.{is_before, shown}
use Rattle.version_store.specs.Shards.{Shard, past_of}
use Rattle.version_store.specs.declared.listing.Listing.{Listing}

-- each document that a read of the shard shows at the listing's optime is listed
abbrev pub Lists : Shard → Listing → Type 0
Lists shard listing =
    (place : Place) → IsSome (shown listing.at (past_of shard place).versions)
    → contains place_cmp listing.places place ≡ true

-- the same for a listing, if there is one
abbrev pub ListsIn : Shard → Option Listing → Type 0
ListsIn shard listing = IfSome listing (Lists shard)

abbrev pub ListsBoth : Shard → (recent earlier : Option Listing) → Type 0
ListsBoth shard recent earlier = ListsIn shard recent × ListsIn shard earlier

-- the set has these places, and no others
abbrev pub HasPlaces : BTreeSet Place → List Place → Type 0
HasPlaces set places = (q : Place) → contains place_cmp set q ≡ list_any (eq_by_cmp place_cmp q) places

-- a version at an optime was noted: a later one isn't listed; otherwise the place is listed where the version
-- is no deletion
pub record Notes (old new : Listing) (place : Place) (at : OpTime) (stands : Bool) : Type 0 where
  pub same : new.at ≡ old.at
  pub places : (q : Place) → contains place_cmp new.places q
      ≡ cond (is_before old.at at) (contains place_cmp old.places q)
      (cond (eq_by_cmp place_cmp place q) stands (contains place_cmp old.places q))
