-- A state that is gone on from, as its row tells it.
use Rattle.std.proofs.Common.{◌≡◌, ◌∙◌, ◌≤◌, ◌<◌, ◌+◌, ◌-◌, ◌*◌, ◌/◌, ◌%◌, ◌==◌, ap, sym, subst, refl, arith, ℕ, Bool, true, false, Some, List, ◌∷◌, drop, get_or, length, length-drop, slice_get, take, if◌then◌else◌}
use Rattle.std.proofs.lemmas.List.{take_all}
use Rattle.std.proofs.lemmas.Nat.{div-mul-add, mod-mul-add}
use Rattle.std.proofs.lemmas.Option.{slice_get-get_or}
use Rattle.explore_words.specs.declared.question.Question.{Question}
use Rattle.question_laws.specs.Following.{Standing, start}
use Rattle.explore_steps.specs.Courses.{AreCells}
use Rattle.explore_steps.specs.Tables.{Tables, tables_of}
use Rattle.explorer.specs.declared.search.Here.{Here}
use Rattle.explorer.specs.declared.search.Search.{Search}
use Rattle.explorer.specs.Standings.{IsRowOf, StandFor}
use Rattle.explorer.specs.States.{AreListed, AreStates, IsHere}

-- ---- what stands in a row

bit_below : (dead : Bool) → (if dead then 1 else 0) < 2
bit_below true = omega arith
bit_below false = omega arith

bit_is : (dead : Bool) → ((if dead then 1 else 0) == 1) ≡ dead
bit_is true = refl
bit_is false = refl

module _ (tables : Tables) (lists : List (List ℕ)) (question : Question) (notes : Bool) (row : List ℕ) (by : Standing) (is : IsRowOf tables lists question notes row by) where
  abbrev bit : ℕ
  bit = if is.dead then 1 else 0

  row_long : 2 ≤ length row
  row_long = let long : length row ≡ length (is.used ∷ (is.met * 2 + bit) ∷ is.cells) = ap length is.row_is in omega (arith, long)

  -- its cells are all that comes after two numbers
  row_cells : take (length row - 2) (drop 2 row) ≡ is.cells
  row_cells =
      let rest : length (drop 2 row) ≡ length row - 2 = length-drop 2 row in
      take_all (length row - 2) (drop 2 row) (omega (arith, rest)) ∙ ap (drop 2) is.row_is

  row_met : get_or row 1 0 / 2 ≡ is.met
  row_met = ap (λ (r : List ℕ). get_or r 1 0 / 2) is.row_is ∙ div-mul-add is.met 2 bit (bit_below is.dead)

  row_dead : (get_or row 1 0 % 2 == 1) ≡ is.dead
  row_dead = ap (λ (r : List ℕ). get_or r 1 0 % 2 == 1) is.row_is ∙ ap (λ k. k == 1) (mod-mul-add is.met 2 bit (bit_below is.dead)) ∙ bit_is is.dead

  row_acts : slice_get lists (get_or row 0 0) ≡ Some is.acts
  row_acts = ap (λ (r : List ℕ). slice_get lists (get_or r 0 0)) is.row_is ∙ is.acts_are

  row_stands : (cells : List ℕ) (met : ℕ) (dead : Bool) → cells ≡ take (length row - 2) (drop 2 row) → met ≡ get_or row 1 0 / 2 → dead ≡ (get_or row 1 0 % 2 == 1) → StandFor tables question notes cells dead met is.acts by
  row_stands cells met dead cells_are met_is dead_is =
      subst (λ c. StandFor tables question notes c dead met is.acts by) (sym (cells_are ∙ row_cells))
      (subst (λ m. StandFor tables question notes is.cells dead m is.acts by) (sym (met_is ∙ row_met))
      (subst (λ d. StandFor tables question notes is.cells d is.met is.acts by) (sym (dead_is ∙ row_dead)) is.stand))

  -- each is a cell
  row_has_cells : (cells : List ℕ) → cells ≡ take (length row - 2) (drop 2 row) → AreCells tables cells
  row_has_cells cells cells_are place cell there =
      let stands = is.stand.noted.cells_are.each place cell (ap (λ (l : List ℕ). slice_get l place) (sym (cells_are ∙ row_cells)) ∙ there) in
      (stands.node, stands.messages, stands.is_cell)

-- ---- the row of a state

-- the states stand for standings, and one of them has this number
abbrev pub IsThere : Search → ℕ → Type 0
IsThere search number =
    (question : Question) × (done : ℕ) × (more : ℕ) × (standings : List Standing) × AreStates question done more search standings × (number < length standings)

module _ (search : Search) (number : ℕ) (there : IsThere search number) (row : List ℕ) (row_is : slice_get search.states.rows number ≡ Some row) where
  abbrev by : Standing
  by = get_or there.3 number (start there.0)

  is : IsRowOf (tables_of search.steps) search.used there.0 search.notes_dead row by
  is = there.4.rows number row by row_is (slice_get-get_or there.3 number (start there.0) there.5)

  pub state_long : 2 ≤ length row
  state_long = row_long (tables_of search.steps) search.used there.0 search.notes_dead row by is

  pub state_cells : (cells : List ℕ) → cells ≡ take (length row - 2) (drop 2 row) → AreCells (tables_of search.steps) cells
  state_cells cells cells_are = row_has_cells (tables_of search.steps) search.used there.0 search.notes_dead row by is cells cells_are

-- what was read of it is the state
pub here_is : (question : Question) (done more : ℕ) (search : Search) (standings : List Standing) (by : Standing) → AreStates question done more search standings
    → (number : ℕ) → slice_get standings number ≡ Some by → (row : List ℕ) → slice_get search.states.rows number ≡ Some row
    → (here : Here) → here.used ≡ get_or row 0 0 → here.course.cells.items ≡ take (length row - 2) (drop 2 row) → here.course.met ≡ get_or row 1 0 / 2 → here.course.dead ≡ (get_or row 1 0 % 2 == 1)
    → here.course.notes_dead ≡ search.notes_dead → AreListed (tables_of search.steps) here.course.cells.items here.course.dead here.firsts.items → IsHere question search here by
here_is question done more search standings by states number there row row_is here used_is cells_are met_is dead_is notes_are listed =
    let is : IsRowOf (tables_of search.steps) search.used question search.notes_dead row by = states.rows number row by row_is there in
    record {
      acts = is.acts;
      acts_are = ap (slice_get search.used) used_is ∙ row_acts (tables_of search.steps) search.used question search.notes_dead row by is;
      notes = notes_are;
      stand = row_stands (tables_of search.steps) search.used question search.notes_dead row by is here.course.cells.items here.course.met here.course.dead cells_are met_is dead_is;
      firsts = listed;
    }
