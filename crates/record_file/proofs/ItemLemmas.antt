-- Items of a list, one more at a time, and the pieces that are their bytes.
use Rattle.std.proofs.Common.{◌≡◌, ℕ, suc, zero, ◌+◌, ◌<◌, List, [], ◌∷◌, ◌++◌, length, take, map, refl, sym, ap, ◌∙◌, arith}
use Rattle.std.specs.Prelude.{All, slice_index_or, Vec}
use Rattle.std.specs.List.{flat_map}
use Rattle.std.specs.declared.alloc.Global.{Global}
use Rattle.std.proofs.lemmas.List.{flat_map_more, length-map, map-append, take_all, take_more}
use Rattle.record_file.specs.Records.{lists}

-- what was laid out, with the bytes of one item more
pub laid_more : {A : Type 0} (item_bytes : A → List ℕ) (items : List A) (i : ℕ) (d : A) (old out new : List ℕ) → i < length items
    → out ≡ old ++ flat_map item_bytes (take i items) → new ≡ out ++ item_bytes (slice_index_or items i d)
    → new ≡ old ++ flat_map item_bytes (take (i + 1) items)
laid_more {A = A} item_bytes items i d old out new within before now =
    now ∙ ap (λ (l : List ℕ). l ++ item_bytes (slice_index_or items i d)) before ∙ flat_map_more item_bytes old (take i items) (slice_index_or items i d)
    ∙ ap (λ (l : List A). old ++ flat_map item_bytes l) (sym (take_more items i d within))

-- the pieces with those of one item more
pub pieces_push : {A : Type 0} (item_bytes : A → List ℕ) (items : List A) (item : A) (piece : List ℕ) → piece ≡ item_bytes item
    → map item_bytes items ++ piece ∷ [] ≡ map item_bytes (items ++ item ∷ [])
pieces_push item_bytes items item piece is =
    ap (λ (p : List ℕ). map item_bytes items ++ p ∷ []) is ∙ sym (map-append item_bytes items (item ∷ []))

pub same_head : (x y : List ℕ) (xs ys : List (List ℕ)) → x ∷ xs ≡ y ∷ ys → x ≡ y
same_head x y xs ys same = cc

pub same_tail : (x y : List ℕ) (xs ys : List (List ℕ)) → x ∷ xs ≡ y ∷ ys → xs ≡ ys
same_tail x y xs ys same = cc

item_suc : {A : Type 0} (IsItem : A → Type 0) (item_bytes : A → List ℕ) (pieces : List (Vec ℕ Global)) (items : List A) (i : ℕ) (d : Vec ℕ Global)
    → All IsItem items → lists pieces ≡ map item_bytes items → i < length pieces
    → (item : A) × IsItem item × ((slice_index_or pieces i d).items ≡ item_bytes item) × (take (suc i) items ≡ take i items ++ item ∷ [])
item_suc IsItem item_bytes [] items i d each same within = absurd (omega arith)
item_suc IsItem item_bytes (p ∷ pieces) [] i d each same within = absurd (omega (arith, ap length same))
item_suc IsItem item_bytes (p ∷ pieces) (a ∷ items) zero d each same within =
    (a, each zero a (omega arith), same_head p.items (item_bytes a) (lists pieces) (map item_bytes items) same, refl)
item_suc {A = A} IsItem item_bytes (p ∷ pieces) (a ∷ items) (suc i) d each same within =
    let after = same_tail p.items (item_bytes a) (lists pieces) (map item_bytes items) same in
    let rest = item_suc IsItem item_bytes pieces items i d (λ k e inside. each (suc k) e (omega arith)) after (omega arith) in
    (rest.0, rest.1, rest.2, ap (λ (l : List A). a ∷ l) rest.3)

-- the item of a piece
pub item_at : {A : Type 0} (IsItem : A → Type 0) (item_bytes : A → List ℕ) (pieces : List (Vec ℕ Global)) (items : List A) (i : ℕ) (d : Vec ℕ Global)
    → All IsItem items → lists pieces ≡ map item_bytes items → i < length pieces
    → (item : A) × IsItem item × ((slice_index_or pieces i d).items ≡ item_bytes item) × (take (i + 1) items ≡ take i items ++ item ∷ [])
item_at {A = A} IsItem item_bytes pieces items i d each same within =
    let found = item_suc IsItem item_bytes pieces items i d each same within in
    let one_more : i + 1 ≡ suc i = omega arith in
    (found.0, found.1, found.2, ap (λ (n : ℕ). take n items) one_more ∙ found.3)

-- all the pieces
pub all_taken : {A : Type 0} (item_bytes : A → List ℕ) (pieces : List (Vec ℕ Global)) (items : List A) → lists pieces ≡ map item_bytes items
    → take (length pieces) items ≡ items
all_taken item_bytes pieces items same =
    take_all (length pieces) items
    (omega (arith, ap length same, length-map pieces (λ (v : Vec ℕ Global). v.items), length-map items item_bytes))
