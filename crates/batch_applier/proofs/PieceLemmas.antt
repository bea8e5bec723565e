-- The entries of a part, piece by piece, and parts that get one more piece.
use Rattle.std.proofs.Common.{◌≡◌, ◌≢◌, ◌⊎◌, inl, inr, ◌∙◌, ◌<◌, ◌≤◌, ◌+◌, ap, sym, subst, refl, arith, true, List, [], ◌∷◌, ◌++◌, ℕ, length, take, drop, Some, append-nil, append_assoc, length-append, take-append-drop, zero, suc}
use Rattle.std.specs.Prelude.{slice_index_or, slice_set}
use Rattle.std.proofs.Common.{get_or-set_same, get_or-set_other, length-set}
use Rattle.std.proofs.lemmas.Bool.{cases_eq}
use Rattle.std.proofs.Math.Seq.{get_or-append_seam}
use Rattle.std.specs.List.{All, AllPairs}
use Rattle.std.proofs.lemmas.List.{take_more, get_or_append_left, get_or-append-add, get_or_default, take_at, drop_at}
use Rattle.std.proofs.lemmas.List.Concat.{flat_map-append}
use Rattle.std.proofs.lemmas.List.Elements.{filter-append, All-take, All-drop}
use Rattle.bson_doc.specs.Place.{Place}
use Rattle.oplog_entry.specs.declared.entry.Entry.{Entry}
use Rattle.oplog_entry.specs.Step.{place_of}
use Rattle.version_store.specs.declared.history.Version.{Version}
use Rattle.version_store.specs.Past.{Past, is_before}
use Rattle.version_store.specs.Shards.{Shard, past_of, BelongsTo}
use Rattle.batch_applier.specs.Parts.{is_in, part_of, joined, AreParts, AreJoined, IsReady, IsApplied, IsBegun}
use Rattle.batch_applier.proofs.PastLemmas.{after_all}
use Rattle.batch_applier.proofs.EachLemmas.{applied_then}

-- ---- entries after others

abbrev Rise : Entry → Entry → Type 0
Rise one two = is_before one.optime two.optime ≡ true

abbrev After : Version → Entry → Type 0
After version entry = is_before version.at entry.optime ≡ true

rising_front : (xs ys : List Entry) → AllPairs Rise (xs ++ ys) → AllPairs Rise xs
rising_front xs ys rising i j d less inside =
    let long : length (xs ++ ys) ≡ length xs + length ys = length-append xs ys in
    subst (λ (e : Entry). Rise (slice_index_or xs i d) e) (get_or_append_left xs ys d j inside)
    (subst (λ (e : Entry). Rise e (slice_index_or (xs ++ ys) j d)) (get_or_append_left xs ys d i (omega (arith, less, inside))) (rising i j d less (omega (arith, long, inside))))

rising_after : (xs ys : List Entry) → AllPairs Rise (xs ++ ys) → AllPairs Rise ys
rising_after xs ys rising i j d less inside =
    let long : length (xs ++ ys) ≡ length xs + length ys = length-append xs ys in
    subst (λ (e : Entry). Rise (slice_index_or ys i d) e) (get_or-append-add xs ys j d)
    (subst (λ (e : Entry). Rise e (slice_index_or (xs ++ ys) (length xs + j) d)) (get_or-append-add xs ys i d) (rising (length xs + i) (length xs + j) d (omega (arith, less)) (omega (arith, long, inside))))

-- each of the first ones is before each of the others
rising_across : (xs ys : List Entry) → AllPairs Rise (xs ++ ys) → All (λ (one : Entry). All (Rise one) ys) xs
rising_across xs ys rising i d inside j e within =
    let long : length (xs ++ ys) ≡ length xs + length ys = length-append xs ys in
    let one : slice_index_or (xs ++ ys) i e ≡ slice_index_or xs i d = get_or_append_left xs ys e i inside ∙ get_or_default xs i e d inside in
    subst (λ (x : Entry). Rise (slice_index_or xs i d) x) (get_or-append-add xs ys j e)
    (subst (λ (x : Entry). Rise x (slice_index_or (xs ++ ys) (length xs + j) e)) one (rising i (length xs + j) e (omega (arith, inside)) (omega (arith, long, within))))

-- ---- one piece of a part

ready_front : (shard : Shard) (xs ys : List Entry) → IsReady shard (xs ++ ys) → IsReady shard xs
ready_front shard xs ys ready = record {
  own = subst (All Own) (take_at xs ys _ refl) (All-take Own (length xs) (xs ++ ys) ready.own);
  rising = rising_front xs ys ready.rising;
  later = λ place own k v inside. subst (All (After (slice_index_or (past_of shard place).versions k v))) (take_at xs ys _ refl)
      (All-take (After (slice_index_or (past_of shard place).versions k v)) (length xs) (xs ++ ys) (ready.later place own k v inside));
}
  where
    Own : Entry → Type 0
    Own e = (place : Place) → place_of e.op ≡ Some place → BelongsTo shard.number shard.count place

ready_after : (shard now : Shard) (xs ys : List Entry) → IsReady shard (xs ++ ys) → IsApplied shard now xs → IsReady now ys
ready_after shard now xs ys ready applied = record {
  own = λ k d inside place at. rw (applied.number, applied.count)
      (subst (All Own) (drop_at xs ys _ refl) (All-drop Own (length xs) (xs ++ ys) ready.own) k d inside place at);
  rising = rising_after xs ys ready.rising;
  later = λ place own.
      let was : BelongsTo shard.number shard.count place = rw (← applied.number, ← applied.count) own in
      subst (λ (past : Past). All Early past.versions) (sym (applied.each place))
      (after_all Early place xs (past_of shard place)
      (λ k v inside. subst (All (After (slice_index_or (past_of shard place).versions k v))) (drop_at xs ys _ refl)
      (All-drop (After (slice_index_or (past_of shard place).versions k v)) (length xs) (xs ++ ys) (ready.later place was k v inside)))
      (λ k d inside doc. rising_across xs ys ready.rising k d inside));
}
  where
    Own : Entry → Type 0
    Own e = (place : Place) → place_of e.op ≡ Some place → BelongsTo shard.number shard.count place

    Early : Version → Type 0
    Early version = All (After version) ys

-- a piece comes after those before it, and before those after
pieces_at : (pieces : List (List Entry)) (i : ℕ) (piece : List Entry) → i < length pieces → piece ≡ slice_index_or pieces i piece
    → joined pieces ≡ joined (take i pieces) ++ (piece ++ joined (drop (suc i) pieces))
pieces_at [] i piece inside is = absurd (omega arith)
pieces_at (x ∷ xs) zero piece inside is = ap (λ (p : List Entry). p ++ joined xs) (sym is)
pieces_at (x ∷ xs) (suc i) piece inside is =
    ap (λ (p : List Entry). x ++ p) (pieces_at xs i piece (omega arith) is) ∙ sym (append_assoc x (joined (take i xs)) (piece ++ joined (drop (suc i) xs)))

pub ready_piece : (shard now : Shard) (pieces : List (List Entry)) (i : ℕ) (piece : List Entry) → i < length pieces → piece ≡ slice_index_or pieces i piece
    → IsReady shard (joined pieces) → IsApplied shard now (joined (take i pieces)) → IsReady now piece
ready_piece shard now pieces i piece inside is ready applied =
    ready_front now piece (joined (drop (suc i) pieces))
    (ready_after shard now (joined (take i pieces)) (piece ++ joined (drop (suc i) pieces)) (subst (IsReady shard) (pieces_at pieces i piece inside is) ready) applied)

pub piece_applied : (shard now left : Shard) (pieces : List (List Entry)) (i : ℕ) (piece : List Entry) → i < length pieces → piece ≡ slice_index_or pieces i piece
    → IsApplied shard now (joined (take i pieces)) → IsApplied now left piece → IsApplied shard left (joined (take (i + 1) pieces))
piece_applied shard now left pieces i piece inside is first then_one =
    subst (IsApplied shard left) (sym whole) (applied_then shard now left (joined (take i pieces)) piece first then_one)
  where
    whole : joined (take (i + 1) pieces) ≡ joined (take i pieces) ++ piece
    whole =
        ap joined (take_more pieces i piece inside ∙ ap (λ p. take i pieces ++ p ∷ []) (sym is))
        ∙ flat_map-append (λ (p : List Entry). p) (take i pieces) (piece ∷ []) ∙ ap (λ (p : List Entry). joined (take i pieces) ++ p) (append-nil piece)

pub piece_begun : (shard now left : Shard) (pieces : List (List Entry)) (i : ℕ) (piece : List Entry) → i < length pieces → piece ≡ slice_index_or pieces i piece
    → IsApplied shard now (joined (take i pieces)) → IsBegun now left piece → IsBegun shard left (joined pieces)
piece_begun shard now left pieces i piece inside is first (done, some) =
    (length (before ++ take done piece), subst (IsApplied shard left) (sym front) (applied_then shard now left before (take done piece) first some))
  where
    before : List Entry
    before = joined (take i pieces)

    after : List Entry
    after = joined (drop (suc i) pieces)

    whole : joined pieces ≡ (before ++ take done piece) ++ (drop done piece ++ after)
    whole =
        pieces_at pieces i piece inside is
        ∙ ap (λ (p : List Entry). before ++ p) (ap (λ (p : List Entry). p ++ after) (sym (take-append-drop done piece)) ∙ append_assoc (take done piece) (drop done piece) after)
        ∙ sym (append_assoc before (take done piece) (drop done piece ++ after))

    front : take (length (before ++ take done piece)) (joined pieces) ≡ before ++ take done piece
    front = ap (take (length (before ++ take done piece))) whole ∙ take_at (before ++ take done piece) _ _ refl

-- ---- parts that get a piece more

pub parts_joined : (front back entries : List Entry) (count : ℕ) (parts piece left : List (List Entry)) → front ++ back ≡ entries → AreParts front count parts
    → AreParts back count piece → AreJoined parts piece left → AreParts entries count left
parts_joined front back entries count parts piece left whole one two joins = record {
  long = joins.long ∙ one.long;
  each = λ k d less.
      let long : length parts ≡ count = one.long in
      joins.each k d (omega (arith, long, less)) ∙ ap (λ p. p ++ slice_index_or piece k d) (one.each k d less) ∙ ap (λ p. part_of front count k ++ p) (two.each k d less)
      ∙ sym (filter-append (λ (e : Entry). is_in count k (place_of e.op)) front back) ∙ ap (λ es. part_of es count k) whole;
}

-- the parts before a place have theirs of the piece, and the others are as they were
pub record JoinedUpTo (parts piece left : List (List Entry)) (place : ℕ) : Type 0 where
  pub long : length left ≡ length parts
  pub before : (k : ℕ) (d : List Entry) → k < place → k < length parts → slice_index_or left k d ≡ slice_index_or parts k d ++ slice_index_or piece k d
  pub from : (k : ℕ) (d : List Entry) → place ≤ k → slice_index_or left k d ≡ slice_index_or parts k d

pub joined_more : (parts piece left : List (List Entry)) (place : ℕ) (any touches more : List Entry) → JoinedUpTo parts piece left place → place < length left → place < length piece
    → ((d : List Entry) → touches ≡ slice_index_or piece place d) → more ≡ slice_index_or left place any ++ touches → JoinedUpTo parts piece (slice_set left place more) (place + 1)
joined_more parts piece left place any touches more joined within inside there is = record {
  long = length-set left place more ∙ joined.long;
  before = λ k d less short. at k d less short (cases_eq k place);
  from = λ k d late. get_or-set_other left place k more d (λ e. omega (arith, e, late)) ∙ joined.from k d (omega (arith, late));
}
  where
    at : (k : ℕ) (d : List Entry) → k < place + 1 → k < length parts → (k ≡ place) ⊎ (k ≢ place) → slice_index_or (slice_set left place more) k d ≡ slice_index_or parts k d ++ slice_index_or piece k d
    at k d less short (inl same) =
        let here : slice_index_or (slice_set left place more) place d ≡ more = get_or-set_same left place more d within in
        let own : slice_index_or left place any ≡ slice_index_or parts place d = get_or_default left place any d within ∙ joined.from place d (omega arith) in
        rw same (here ∙ is ∙ ap (λ p. p ++ touches) own ∙ ap (λ p. slice_index_or parts place d ++ p) (there d))
    at k d less short (inr ne) = get_or-set_other left place k more d ne ∙ joined.before k d (omega (arith, less, ne)) short

-- where the next of a list's elements stands
pub seam_at : (all yielded : List (List Entry)) (next : List Entry) (rest : List (List Entry)) (place : ℕ) → yielded ++ (next ∷ rest) ≡ all → place ≡ length yielded
    → (place < length all) × ((d : List Entry) → next ≡ slice_index_or all place d)
seam_at all yielded next rest place whole is =
    let long : length (yielded ++ (next ∷ rest)) ≡ length yielded + length (next ∷ rest) = length-append yielded (next ∷ rest) in
    let same : length (yielded ++ (next ∷ rest)) ≡ length all = ap (λ (l : List (List Entry)). length l) whole in
    (omega (arith, long, same, is), λ d. sym (ap (λ (l : List (List Entry)). slice_index_or l place d) (sym whole) ∙ ap (λ n. slice_index_or (yielded ++ (next ∷ rest)) n d) is ∙ get_or-append_seam yielded next rest d))
