-- What is listed of the documents that a read shows: with a new version, and as it is added to what is gathered.
use Rattle.std.proofs.Common.{◌≡◌, ◌≢◌, ◌∙◌, ◌<◌, ◌+◌, ap, sym, subst, refl, Bool, true, false, cond, not, ◌||◌, List, [], ◌∷◌, ◌++◌, ℕ, add-one, length, take, map, Option, None, Some, append_assoc, append-nil}
use Rattle.std.specs.Prelude.{IfSome, IsSome, is_some, option_and_then, slice_index_or}
use Rattle.std.specs.BTreeSet.{contains}
use Rattle.std.specs.List.{AllByRecursion, flat_map, list_any}
use Rattle.std.specs.List.Sorted.{IsStrictlySortedBy}
use Rattle.std.specs.Ordering.{is_eq, eq_by_cmp}
use Rattle.std.specs.declared.cmp.Ordering.TheVariants.{Less}
use Rattle.std.specs.Cmp.{Equal-is, eq_by_cmp_equiv, tied_itself}
use Rattle.std.proofs.Math.Seq.{take-suc}
use Rattle.std.proofs.lemmas.List.{map-append}
use Rattle.std.proofs.lemmas.List.Elements.{filter-append}
use Rattle.std.proofs.lemmas.List.Folds.{list_any-append}
use Rattle.rs_optime.specs.declared.optime.OpTime.{OpTime}
use Rattle.bson_doc.specs.Place.{Place, place_cmp}
use Rattle.bson_doc.specs.Tree.{Fields}
use Rattle.bson_doc.proofs.KeyLemmas.{place_cmp-total}
use Rattle.version_store.specs.Listed.{HasPlaces, Lists, ListsBoth, ListsIn, Notes}
use Rattle.version_store.specs.Past.{Past, is_before, last_version, latest_of, shown, up_to, with_version}
use Rattle.version_store.specs.Shards.{Shard, past_of, ChangesOf}
use Rattle.version_store.specs.Shown.{AddsShown, one_at, placed, place_of, shown_here}
use Rattle.version_store.specs.declared.history.Version.{Version}
use Rattle.version_store.specs.declared.listing.Listing.{Listing}
use Rattle.version_store.specs.declared.shown.Shown.{Shown}
use Rattle.version_store.proofs.ShownLemmas.{pushed_here, same_here}

-- ---- a new version

last_more : (versions : List Version) (version : Version) → last_version (versions ++ version ∷ []) ≡ Some version
last_more [] version = refl
last_more (one ∷ []) version = refl
last_more (one ∷ two ∷ versions) version = last_more (two ∷ versions) version

up_to_more : (at : OpTime) (past : Past) (version : Version)
    → up_to at (with_version past version).versions ≡ up_to at past.versions ++ cond (not (is_before at version.at)) (version ∷ []) []
up_to_more at past version = filter-append (λ (v : Version). not (is_before at v.at)) past.versions (version ∷ [])

-- a later version isn't shown
shown_later : (at : OpTime) (past : Past) (version : Version) → is_before at version.at ≡ true → shown at (with_version past version).versions ≡ shown at past.versions
shown_later at past version later =
    ap latest_of (up_to_more at past version ∙ ap (λ b. up_to at past.versions ++ cond (not b) (version ∷ []) []) later ∙ append-nil (up_to at past.versions))

-- and else it is what is shown
shown_now : (at : OpTime) (past : Past) (version : Version) → is_before at version.at ≡ false → shown at (with_version past version).versions ≡ version.doc
shown_now at past version now =
    ap latest_of (up_to_more at past version ∙ ap (λ b. up_to at past.versions ++ cond (not b) (version ∷ []) []) now)
    ∙ ap (λ (o : Option Version). option_and_then (λ v. v.doc) o) (last_more (up_to at past.versions) version)

differ : (one two : Place) → eq_by_cmp place_cmp one two ≡ false → two ≢ one
differ one two apart same =
    let tie : eq_by_cmp place_cmp one two ≡ true = ap (λ (p : Place). eq_by_cmp place_cmp one p) same ∙ ap is_eq (tied_itself place_cmp-total one) in absurd (cc)

-- a listing that took note of a version
pub still_lists : (old new : Shard) (was now : Listing) (place : Place) (at : OpTime) (doc : Option Fields)
    → Lists old was → Notes was now place at (is_some doc)
    → ChangesOf old new place (with_version (past_of old place) (record { at = at; doc = doc })) → Lists new now
still_lists old new was now place at doc lists notes changes q is =
    notes.places q ∙ go (is_before was.at at) refl (eq_by_cmp place_cmp place q) refl
  where
    seen : IsSome (shown was.at (past_of new q).versions)
    seen = subst (λ (a : OpTime). IsSome (shown a (past_of new q).versions)) notes.same is

    go : (late : Bool) → is_before was.at at ≡ late → (here : Bool) → eq_by_cmp place_cmp place q ≡ here
        → cond late (contains place_cmp was.places q) (cond here (is_some doc) (contains place_cmp was.places q)) ≡ true
    go true is_late true tie =
        let same : place ≡ q = same_here place q tie in
        let stays : shown was.at (past_of new q).versions ≡ shown was.at (past_of old place).versions =
        ap (λ (p : Place). shown was.at (past_of new p).versions) (sym same) ∙ ap (λ (past : Past). shown was.at past.versions) changes.here
        ∙ shown_later was.at (past_of old place) (record { at = at; doc = doc }) is_late in
        ap (λ (p : Place). contains place_cmp was.places p) (sym same) ∙ lists place (subst IsSome stays seen)
    go true is_late false apart = lists q (subst (λ (past : Past). IsSome (shown was.at past.versions)) (changes.others q (differ place q apart)) seen)
    go false is_now true tie =
        subst IsSome
        (ap (λ (p : Place). shown was.at (past_of new p).versions) (sym (same_here place q tie)) ∙ ap (λ (past : Past). shown was.at past.versions) changes.here
        ∙ shown_now was.at (past_of old place) (record { at = at; doc = doc }) is_now) seen
    go false is_now false apart = lists q (subst (λ (past : Past). IsSome (shown was.at past.versions)) (changes.others q (differ place q apart)) seen)

pub noted_lists : (old new : Shard) (was now : Option Listing) (place here : Place) (at : OpTime) (doc : Option Fields) (stands : Bool)
    → stands ≡ is_some doc → ListsIn old was → place ≡ here
    → IfSome now (λ listing. (before : Listing) × (was ≡ Some before) × Notes before listing place at stands)
    → ChangesOf old new here (with_version (past_of old here) (record { at = at; doc = doc })) → ListsIn new now
noted_lists old new was None place here at doc stands stands_is lists named noted changes = tt
noted_lists old new was (Some listing) place here at doc stands stands_is lists named noted changes =
    still_lists old new noted.0 listing here at doc (subst (λ (o : Option Listing). ListsIn old o) noted.1 lists)
    (subst (λ (p : Place). Notes noted.0 listing p at (is_some doc)) named (subst (λ b. Notes noted.0 listing place at b) stands_is noted.2)) changes

-- where there is no listing
pub none_lists : (shard : Shard) (recent earlier : Option Listing) → is_some recent ≡ false → is_some earlier ≡ false → ListsBoth shard recent earlier
none_lists shard None None one two = (tt, tt)
none_lists shard None (Some listing) one two = cc two
none_lists shard (Some listing) earlier one two = cc one

-- ---- listing what is shown

none_among : (q : Place) (documents : List Shown) → list_any (eq_by_cmp place_cmp q) (map place_of documents) ≡ false → shown_here q documents ≡ []
none_among q [] missing = refl
none_among q (one ∷ documents) missing = go (none_among q documents) (eq_by_cmp place_cmp q (place_of one)) missing
  where
    go : (list_any (eq_by_cmp place_cmp q) (map place_of documents) ≡ false → shown_here q documents ≡ []) → (b : Bool)
        → (b || list_any (eq_by_cmp place_cmp q) (map place_of documents)) ≡ false
        → cond b (placed one ∷ shown_here q documents) (shown_here q documents) ≡ []
    go again true missing = cc missing
    go again false missing = again missing

found_among : (q : Place) (documents : List Shown) (found : Option Fields) → shown_here q documents ≡ one_at q found → IsSome found
    → list_any (eq_by_cmp place_cmp q) (map place_of documents) ≡ true
found_among q documents None is some = cc some
found_among q documents (Some document) is some = go (list_any (eq_by_cmp place_cmp q) (map place_of documents)) refl
  where
    go : (b : Bool) → list_any (eq_by_cmp place_cmp q) (map place_of documents) ≡ b → b ≡ true
    go true any = refl
    go false any = let none : [] ≡ (q, document) ∷ [] = sym (none_among q documents any) ∙ is in cc none

pub listed_all : (shard : Shard) (at : OpTime) (documents : List Shown) (listing : Listing)
    → AddsShown [] documents (λ place. shown at (past_of shard place).versions) → listing.at ≡ at → HasPlaces listing.places (map place_of documents) → Lists shard listing
listed_all shard at documents listing adds same has q is =
    has q ∙ found_among q documents (shown at (past_of shard q).versions) (adds q) (subst (λ (a : OpTime). IsSome (shown a (past_of shard q).versions)) same is)

or_turned : (a b : Bool) → cond a true b ≡ (b || (a || false))
or_turned true true = refl
or_turned true false = refl
or_turned false true = refl
or_turned false false = refl

-- one place more is in the set
pub noted_more : (documents : List Shown) (i : ℕ) (one : Shown) (q : Place) (old new : Bool) → i < length documents → one ≡ slice_index_or documents i one
    → new ≡ cond (eq_by_cmp place_cmp (place_of one) q) true old → old ≡ list_any (eq_by_cmp place_cmp q) (map place_of (take i documents))
    → new ≡ list_any (eq_by_cmp place_cmp q) (map place_of (take (i + 1) documents))
noted_more documents i one q old new within is added before =
    added ∙ or_turned _ old ∙ ap (λ b. b || (eq_by_cmp place_cmp (place_of one) q || false)) before
    ∙ ap (λ b. list_any (eq_by_cmp place_cmp q) (map place_of (take i documents)) || (b || false)) ((eq_by_cmp_equiv place_cmp-total).symm (place_of one) q)
    ∙ sym (ap (λ (ps : List Place). list_any (eq_by_cmp place_cmp q) ps) more ∙ list_any-append (eq_by_cmp place_cmp q) (map place_of (take i documents)) (place_of one ∷ []))
  where
    more : map place_of (take (i + 1) documents) ≡ map place_of (take i documents) ++ place_of one ∷ []
    more = rw (add-one, take-suc documents i one within, ← is) (map-append place_of (take i documents) (one ∷ []))

-- ---- adding what is listed

-- what the listed places add at one place
abbrev pub listed_in : Shard → OpTime → Place → List Place → List (Place × Fields)
listed_in shard at q keys = flat_map (λ k. cond (eq_by_cmp place_cmp q k) (one_at q (shown at (past_of shard q).versions)) []) keys

abbrev pub listed_one : Shard → OpTime → Place → Place → List (Place × Fields)
listed_one shard at q k = cond (eq_by_cmp place_cmp q k) (one_at q (shown at (past_of shard q).versions)) []

found_here : (shard : Shard) (at : OpTime) (q k : Place) (found : Option Fields) → found ≡ shown at (past_of shard k).versions
    → cond (eq_by_cmp place_cmp q k) (one_at q found) [] ≡ listed_one shard at q k
found_here shard at q k found is = go (eq_by_cmp place_cmp q k) refl
  where
    go : (b : Bool) → eq_by_cmp place_cmp q k ≡ b → cond b (one_at q found) [] ≡ cond b (one_at q (shown at (past_of shard q).versions)) []
    go true tie = ap (one_at q) (is ∙ ap (λ (p : Place). shown at (past_of shard p).versions) (sym (same_here q k tie)))
    go false apart = refl

-- a listed document that is shown
pub turn_listed : (shard : Shard) (at : OpTime) (q : Place) (old more : List Shown) (one : Shown) (k : Place) (left rest : List Place)
    → left ≡ k ∷ rest → more ≡ old ++ one ∷ [] → place_of one ≡ k → Some one.document.now ≡ shown at (past_of shard k).versions
    → shown_here q more ++ listed_in shard at q rest ≡ shown_here q old ++ listed_in shard at q left
turn_listed shard at q old more one k left rest steps pushed key is =
    ap (λ (l : List (Place × Fields)). l ++ listed_in shard at q rest) (pushed_here q old more one pushed)
    ∙ append_assoc (shown_here q old) (cond (eq_by_cmp place_cmp q (place_of one)) (one_at q (Some one.document.now)) []) (listed_in shard at q rest)
    ∙ ap (λ (p : Place). shown_here q old ++ (cond (eq_by_cmp place_cmp q p) (one_at q (Some one.document.now)) [] ++ listed_in shard at q rest)) key
    ∙ ap (λ (l : List (Place × Fields)). shown_here q old ++ (l ++ listed_in shard at q rest)) (found_here shard at q k (Some one.document.now) is)
    ∙ ap (λ (ks : List Place). shown_here q old ++ listed_in shard at q ks) (sym steps)

-- one that isn't
pub turn_skipped : (shard : Shard) (at : OpTime) (q : Place) (old : List Shown) (k : Place) (left rest : List Place)
    → left ≡ k ∷ rest → None ≡ shown at (past_of shard k).versions
    → shown_here q old ++ listed_in shard at q rest ≡ shown_here q old ++ listed_in shard at q left
turn_skipped shard at q old k left rest steps is =
    ap (λ (l : List (Place × Fields)). shown_here q old ++ (l ++ listed_in shard at q rest)) (sym (nothing (eq_by_cmp place_cmp q k)) ∙ found_here shard at q k None is)
    ∙ ap (λ (ks : List Place). shown_here q old ++ listed_in shard at q ks) (sym steps)
  where
    nothing : (b : Bool) → cond b (one_at q None) [] ≡ []
    nothing true = refl
    nothing false = refl

-- each place is listed once
once_listed : (q : Place) (found : Option Fields) (keys : List Place) → IsStrictlySortedBy place_cmp keys
    → (IsSome found → list_any (eq_by_cmp place_cmp q) keys ≡ true) → flat_map (λ k. cond (eq_by_cmp place_cmp q k) (one_at q found) []) keys ≡ one_at q found
unfolding IsStrictlySortedBy
once_listed q None keys sorted any = nothing keys
  where
    empty : (b : Bool) → cond b (one_at q None) [] ≡ []
    empty true = refl
    empty false = refl

    nothing : (keys : List Place) → flat_map (λ k. cond (eq_by_cmp place_cmp q k) (one_at q None) []) keys ≡ []
    nothing [] = refl
    nothing (k ∷ keys) = ap (λ (l : List (Place × Fields)). l ++ flat_map (λ k. cond (eq_by_cmp place_cmp q k) (one_at q None) []) keys) (empty (eq_by_cmp place_cmp q k)) ∙ nothing keys
once_listed q (Some document) keys sorted any = once keys sorted (any refl)
  where
    others : (first : Place) → eq_by_cmp place_cmp q first ≡ true → (keys : List Place) → AllByRecursion (λ y. place_cmp first y ≡ Less) keys
        → flat_map (λ k. cond (eq_by_cmp place_cmp q k) (one_at q (Some document)) []) keys ≡ []
    others first tie [] all = refl
    others first tie (k ∷ keys) all =
        ap (λ b. cond b (one_at q (Some document)) [] ++ flat_map (λ k. cond (eq_by_cmp place_cmp q k) (one_at q (Some document)) []) keys)
        (ap is_eq (place_cmp-total.congr q first k ((Equal-is _).0 tie) ∙ all.0)) ∙ others first tie keys all.1

    once : (keys : List Place) → IsStrictlySortedBy place_cmp keys → list_any (eq_by_cmp place_cmp q) keys ≡ true
        → flat_map (λ k. cond (eq_by_cmp place_cmp q k) (one_at q (Some document)) []) keys ≡ one_at q (Some document)
    once [] sorted any = cc any
    once (k ∷ keys) sorted any = go (eq_by_cmp place_cmp q k) refl any (once keys sorted.1) (others k)
      where
        go : (b : Bool) → eq_by_cmp place_cmp q k ≡ b → (b || list_any (eq_by_cmp place_cmp q) keys) ≡ true
            → (list_any (eq_by_cmp place_cmp q) keys ≡ true → flat_map (λ k. cond (eq_by_cmp place_cmp q k) (one_at q (Some document)) []) keys ≡ one_at q (Some document))
            → (eq_by_cmp place_cmp q k ≡ true → (keys : List Place) → AllByRecursion (λ y. place_cmp k y ≡ Less) keys
            → flat_map (λ k. cond (eq_by_cmp place_cmp q k) (one_at q (Some document)) []) keys ≡ [])
            → cond b (one_at q (Some document)) [] ++ flat_map (λ k. cond (eq_by_cmp place_cmp q k) (one_at q (Some document)) []) keys ≡ one_at q (Some document)
        go true tie any again rest = ap (λ (l : List (Place × Fields)). one_at q (Some document) ++ l) (rest tie keys sorted.0) ∙ append-nil (one_at q (Some document))
        go false apart any again rest = again any

-- all that is listed is added
pub all_listed : (shard : Shard) (listing : Listing) (q : Place) → Lists shard listing → IsStrictlySortedBy place_cmp listing.places.keys
    → listed_in shard listing.at q listing.places.keys ≡ one_at q (shown listing.at (past_of shard q).versions)
all_listed shard listing q lists sorted = once_listed q (shown listing.at (past_of shard q).versions) listing.places.keys sorted (lists q)
