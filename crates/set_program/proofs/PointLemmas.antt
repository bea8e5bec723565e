-- The points of nodes, one more after those before it.
use Rattle.std.proofs.Common.{◌≡◌, ◌∙◌, ◌<◌, ◌+◌, ap, sym, arith, ℕ, suc, Bool, true, false, Option, None, Some, List, [], ◌∷◌, ◌++◌, length, take, get_or}
use Rattle.std.specs.Prelude.{MatchOption, map, if◌then◌else◌}
use Rattle.std.proofs.Math.Seq.{take-suc}
use Rattle.std.proofs.lemmas.List.{map-append}
use Rattle.rs_optime.specs.declared.optime.OpTime.{OpTime}
use Rattle.set_model.specs.Node.{Node}
use Rattle.set_model.specs.Points.{last_point}
use Rattle.set_world.specs.World.{nodes_in}
use Rattle.transcript.specs.Summaries.{points_of}

-- what a node tells of itself
abbrev pub Tells : Node → Option (OpTime × OpTime) → Type 0
Tells node found = MatchOption found (node.up ≡ false) (λ points. (node.up ≡ true) × (points ≡ (last_point node, node.commit)))

told : (node : Node) (found : Option (OpTime × OpTime)) → Tells node found → found ≡ points_of node
told node None down = ap (λ (b : Bool). if b then Some (last_point node, node.commit) else None) (sym down)
told node (Some points) (up, is) =
    ap (λ (p : OpTime × OpTime). Some p) is ∙ ap (λ (b : Bool). if b then Some (last_point node, node.commit) else None) (sym up)

pub points_more : {D : Type 0} (nodes : List (Node × D × D)) (i : ℕ) (node : Node × D × D) (found : Option (OpTime × OpTime)) (old new : List (Option (OpTime × OpTime))) → i < length nodes
    → node ≡ get_or nodes i node → Tells node.0 found → old ≡ map points_of (nodes_in (take i nodes)) → new ≡ old ++ found ∷ [] → new ≡ map points_of (nodes_in (take (i + 1) nodes))
points_more {D} nodes i node found old new within is tells so_far more =
    more ∙ ap (λ (l : List (Option (OpTime × OpTime))). l ++ found ∷ []) so_far
    ∙ ap (λ (p : Option (OpTime × OpTime)). map points_of (nodes_in (take i nodes)) ++ p ∷ []) (told node.0 found tells)
    ∙ sym (ap (λ (l : List (Node × D × D)). map points_of (nodes_in l)) one_more
    ∙ ap (map points_of) (map-append (λ (n : Node × D × D). n.0) (take i nodes) (node ∷ []))
    ∙ map-append points_of (nodes_in (take i nodes)) (node.0 ∷ []))
  where
    one_more : take (i + 1) nodes ≡ take i nodes ++ node ∷ []
    one_more =
        ap (λ n. take n nodes) (let next : i + 1 ≡ suc i = omega arith in next) ∙ take-suc nodes i node within
        ∙ ap (λ (n : Node × D × D). take i nodes ++ n ∷ []) (sym is)
