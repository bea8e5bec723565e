-- Which looks are met in cells.
use Rattle.std.proofs.Common.{◌≡◌, ◌∙◌, ◌<◌, ◌||◌, ◌&&◌, ◌⊎◌, ◌+◌, inl, inr, ap, sym, refl, arith, add-one, ℕ, zero, suc, Bool, true, false, Option, None, Some, List, [], ◌∷◌, slice_get, take}
use Rattle.std.specs.Prelude.{option_and_then, unwrap_or}
use Rattle.std.specs.List.{list_all}
use Rattle.std.specs.Option.{option_map_or}
use Rattle.std.proofs.lemmas.Bool.{and_parts, cases_eq}
use Rattle.std.proofs.lemmas.Option.{same_Some}
use Rattle.set_model.specs.Node.{Node}
use Rattle.explore_words.specs.declared.question.Look.{Look}
use Rattle.explore_words.specs.declared.question.Question.{Question}
use Rattle.explore_words.specs.declared.question.Want.TheVariants.{Seen}
use Rattle.explore_words.specs.Fits.{is_look_for, is_want_for}
use Rattle.question_laws.specs.Meeting.{any_below}
use Rattle.explore_steps.specs.Causes.{is_met_at}
use Rattle.explore_steps.specs.Keeping.{IsLook}
use Rattle.explore_steps.specs.Reaching.{IsPut}
use Rattle.explore_steps.specs.Seeing.{is_met_in, node_in}
use Rattle.explore_steps.specs.Tables.{Grow, HasCell, Tables}

pub all_at : {A : Type 0} (test : A → Bool) (xs : List A) (place : ℕ) (x : A) → list_all test xs ≡ true → slice_get xs place ≡ Some x → test x ≡ true
all_at test [] place x all there = absurd (cc there)
all_at test (y ∷ xs) zero x all there = sym (ap test (same_Some y x there)) ∙ (and_parts (test y) (list_all test xs) all).0
all_at test (y ∷ xs) (suc place) x all there = all_at test xs place x (and_parts (test y) (list_all test xs) all).1 there

pub look_for : (question : Question) (want place : ℕ) (look : Look) → IsPut question → IsLook question want place look → is_look_for question.sizes.nodes look ≡ true
look_for question want place look put (looks, there, look_is) =
    all_at (is_look_for question.sizes.nodes) looks place look
    (and_parts _ _ (all_at (is_want_for question.sizes.nodes) question.wants want (Seen looks) put.wants there)).1 look_is

-- ---- the node of a cell

pub node_in_is : (tables : Tables) (cells : List ℕ) (place cell node_at list : ℕ) (node : Node) → slice_get cells place ≡ Some cell → slice_get tables.cells cell ≡ Some (node_at, list)
    → slice_get tables.nodes node_at ≡ Some node → node_in tables cells place ≡ Some node
node_in_is tables cells place cell node_at list node there cell_is node_is =
    ap (λ (found : Option ℕ). option_and_then (λ (pair : ℕ × ℕ). slice_get tables.nodes pair.0) (option_and_then (slice_get tables.cells) found)) there
    ∙ ap (option_and_then (λ (pair : ℕ × ℕ). slice_get tables.nodes pair.0)) cell_is ∙ node_is

-- it is the same as tables grow
pub node_in_same : (old new : Tables) → Grow old new → (cells : List ℕ) → ((place cell : ℕ) → slice_get cells place ≡ Some cell → HasCell old cell) → (place : ℕ)
    → node_in old cells place ≡ node_in new cells place
node_in_same old new grow cells are place = by (slice_get cells place) refl
  where
    node_of : Tables → Option ℕ → Option Node
    node_of tables found = option_and_then (λ (pair : ℕ × ℕ). slice_get tables.nodes pair.0) (option_and_then (slice_get tables.cells) found)

    by : (found : Option ℕ) → slice_get cells place ≡ found → node_in old cells place ≡ node_in new cells place
    by None none = ap (λ (f : Option ℕ). option_and_then (λ (pair : ℕ × ℕ). slice_get old.nodes pair.0) (option_and_then (slice_get old.cells) f)) none
        ∙ sym (ap (λ (f : Option ℕ). option_and_then (λ (pair : ℕ × ℕ). slice_get new.nodes pair.0) (option_and_then (slice_get new.cells) f)) none)
    by (Some cell) there =
        let has : HasCell old cell = are place cell there in
        node_in_is old cells place cell has.2.node_at has.2.list_at has.0 there has.2.cell_is has.2.node_is
        ∙ sym (node_in_is new cells place cell has.2.node_at has.2.list_at has.0 there (grow.cells cell _ has.2.cell_is) (grow.nodes has.2.node_at has.0 has.2.node_is))

pub met_in_same : (old new : Tables) → Grow old new → (nodes : ℕ) (cells : List ℕ) → ((place cell : ℕ) → slice_get cells place ≡ Some cell → HasCell old cell) → (any : ℕ) (look : Look)
    → is_met_in old nodes cells any look ≡ is_met_in new nodes cells any look
met_in_same old new grow nodes cells are any look =
    ap (λ (found : Option Node). option_map_or (λ (node : Node). is_met_at nodes node look) found false) (node_in_same old new grow cells are (unwrap_or look.node any))

pub all_met_same : (old new : Tables) → Grow old new → (nodes : ℕ) (cells : List ℕ) → ((place cell : ℕ) → slice_get cells place ≡ Some cell → HasCell old cell) → (any : ℕ) (looks : List Look)
    → list_all (is_met_in old nodes cells any) looks ≡ list_all (is_met_in new nodes cells any) looks
all_met_same old new grow nodes cells are any [] = refl
all_met_same old new grow nodes cells are any (look ∷ looks) =
    ap (λ b. b && list_all (is_met_in old nodes cells any) looks) (met_in_same old new grow nodes cells are any look)
    ∙ ap (λ b. is_met_in new nodes cells any look && b) (all_met_same old new grow nodes cells are any looks)

-- a look at the node of a cell
pub met_in_is : (tables : Tables) (nodes : ℕ) (cells : List ℕ) (any place cell node_at list : ℕ) (node : Node) (look : Look) → unwrap_or look.node any ≡ place → slice_get cells place ≡ Some cell
    → slice_get tables.cells cell ≡ Some (node_at, list) → slice_get tables.nodes node_at ≡ Some node → is_met_in tables nodes cells any look ≡ is_met_at nodes node look
met_in_is tables nodes cells any place cell node_at list node look place_is there cell_is node_is =
    ap (λ (found : Option Node). option_map_or (λ (n : Node). is_met_at nodes n look) found false)
    (ap (node_in tables cells) place_is ∙ node_in_is tables cells place cell node_at list node there cell_is node_is)

-- ---- all of some looks so far

all_suc : {A : Type 0} (test : A → Bool) (xs : List A) (place : ℕ) (x : A) → slice_get xs place ≡ Some x → list_all test (take place xs) ≡ true → test x ≡ true
    → list_all test (take (suc place) xs) ≡ true
all_suc test [] place x there all is = absurd (cc there)
all_suc test (y ∷ xs) zero x there all is = ap (λ b. b && true) (ap test (same_Some y x there) ∙ is)
all_suc test (y ∷ xs) (suc place) x there all is =
    let parts : (test y ≡ true) × (list_all test (take place xs) ≡ true) = and_parts (test y) (list_all test (take place xs)) all in
    ap (λ b. b && list_all test (take (suc place) xs)) parts.0 ∙ all_suc test xs place x there parts.1 is

pub all_next : {A : Type 0} (test : A → Bool) (xs : List A) (place : ℕ) (x : A) → slice_get xs place ≡ Some x → list_all test (take place xs) ≡ true → test x ≡ true
    → list_all test (take (place + 1) xs) ≡ true
all_next test xs place x there all is = ap (λ k. list_all test (take k xs)) (add-one place) ∙ all_suc test xs place x there all is

pub not_all : {A : Type 0} (test : A → Bool) (xs : List A) (place : ℕ) (x : A) → slice_get xs place ≡ Some x → test x ≡ false → list_all test xs ≡ false
not_all test [] place x there is = absurd (cc there)
not_all test (y ∷ xs) zero x there is = ap (λ b. b && list_all test xs) (ap test (same_Some y x there) ∙ is)
not_all test (y ∷ xs) (suc place) x there is = by (test y) (not_all test xs place x there is)
  where
    by : (b : Bool) → list_all test xs ≡ false → (b && list_all test xs) ≡ false
    by true rest = rest
    by false rest = refl

-- ---- any number

pub any_next : (test : ℕ → Bool) (place : ℕ) → any_below test place ≡ false → test place ≡ false → any_below test (place + 1) ≡ false
any_next test place none is = ap (any_below test) (add-one place) ∙ ap (λ b. b || test place) none ∙ is

pub any_found : (test : ℕ → Bool) (count place : ℕ) → place < count → test place ≡ true → any_below test count ≡ true
any_found test zero place within is = absurd (omega (arith, within))
any_found test (suc count) place within is = by (cases_eq place count) (λ less. any_found test count place less is)
  where
    or_true : (b : Bool) → (b || true) ≡ true
    or_true true = refl
    or_true false = refl

    by : (place ≡ count) ⊎ (place ≡ count → ⊥) → (place < count → any_below test count ≡ true) → (any_below test count || test count) ≡ true
    by (inl same) earlier = ap (λ b. any_below test count || b) (sym (ap test same) ∙ is) ∙ or_true (any_below test count)
    by (inr other) earlier = ap (λ b. b || test count) (earlier (omega (arith, within, other)))
