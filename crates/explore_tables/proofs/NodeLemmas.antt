-- Alike nodes in a table.
use Rattle.std.proofs.Common.{◌≡◌, ◌<◌, refl, ℕ, length, List, [], ◌∷◌, ◌++◌, get_or}
use Rattle.std.proofs.lemmas.Option.{slice_get_read}
use Rattle.set_model.specs.Node.{Node}
use Rattle.explore_laws.specs.Alike.{AlikeNodes}
use Rattle.explore_tables.specs.Alike.{HasAlike}
use Rattle.explore_tables.proofs.Tables.{get_added}

alike_itself : (node : Node) → AlikeNodes node node
alike_itself node = record {
  others = refl;
  records = record { vote = refl; config = refl; entries = refl; point = refl };
  tally = λ _. refl;
}

pub alike_at : (nodes : List Node) (place : ℕ) (node found : Node) → place < length nodes → found ≡ get_or nodes place found → AlikeNodes node found → HasAlike nodes place node
alike_at nodes place node found within is alike = (found, slice_get_read nodes (length nodes) place found refl within is, alike)

pub alike_added : (nodes : List Node) (node : Node) → HasAlike (nodes ++ node ∷ []) (length nodes) node
alike_added nodes node = (node, get_added nodes node, alike_itself node)
