-- What a handle leads to.
use Rattle.std.specs.Prelude.{ℕ, List}
use Rattle.play.specs.Play.{Played}

-- a set, and the text of the last call
pub record Holding : Type 0 where
  pub play : Played
  pub text : List ℕ
