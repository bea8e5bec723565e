-- What contracts see of a board and of a pass, and what the seat of a pass carries.
use Rattle.std.specs.Prelude.{ℕ, List, [], ◌∷◌, Option, None}
use Rattle.atomic_table.specs.Seated.{TableId}
use Rattle.turn_board.specs.declared.view.View.{View}
use Rattle.turn_board.specs.declared.view.Stage.{Stage}
use Rattle.turn_board.specs.declared.view.Stage.TheVariants.{New, Free, Waiting, Turn}

-- which board it is, the value that it was made with, and how many points it keeps
pub record Begun (T : Type 0) : Type 0 where
  pub id : TableId
  pub value : T
  pub points : ℕ

-- the board of a pass, and what it has seen and done there
pub record Known (E F : Type 0) : Type 0 where
  pub board : TableId
  pub view : View E F

-- during its turn a seat has the slot, from which the value was taken
abbrev pub carried : {T : Type 0} → Stage → List (ℕ × Option T)
carried New = []
carried Free = []
carried (Waiting t) = []
carried (Turn t) = (0, None) ∷ []
