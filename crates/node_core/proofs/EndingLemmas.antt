-- What a command or a message does at a node that is up, by how its turn ended.
use Rattle.std.proofs.Common.{◌≡◌, sym, subst, ℕ, Bool, true, false}
use Rattle.std.specs.Prelude.{IsSome, OnErr, Result, Ok, Err}
use Rattle.rs_disk.specs.State.{State}
use Rattle.set_model.specs.Node.{Node}
use Rattle.set_model.specs.Stores.{Plan}
use Rattle.node_core.specs.Acting.{AreSame, Follows, IsFinished, RunsWithoutOrders, Took, Unchanged}
use Rattle.node_core.specs.Down.{DownState, seen_node}
use Rattle.node_core.specs.Putting.{EndsFrom, IsStoreFailed, LeavesOnDisks}
use Rattle.node_core.specs.OnDisks.{IsOnDisks, UpOnDisks}
use Rattle.node_core.specs.Stands.{Stands}
use Rattle.node_core.specs.declared.done.Done.{Done}
use Rattle.node_core.specs.declared.storing.Ended.{Ended}
use Rattle.node_core.proofs.ActingLemmas.{rests_stand, resting_stands}
use Rattle.node_core.proofs.PuttingLemmas.{runs_as}

up_not : false ≡ true → ⊥
up_not h = cc

-- the turn ended, and this is what was told of it
pub took_ended : (plan : Node → Plan) (up later : Bool) (node new : Node) (left left' : DownState) (count : ℕ) (j j' c c' : State) (ended : Ended) (done : Done) → up ≡ true
    → EndsFrom 0 (plan node) new ended → LeavesOnDisks ended new count j' c' → RunsWithoutOrders (IsStoreFailed ended) j j' c c'
    → ((p : Plan) → EndsFrom 0 p new ended → Follows p (seen_node later new left') done)
    → ((n : ℕ) (a b : State) → LeavesOnDisks ended new n a b → IsOnDisks later new left' n a b)
    → (IsSome done.failed → IsStoreFailed ended) → (IsFinished (plan node) → AreSame j j' c c')
    → Took (plan (seen_node up node left)) (seen_node later new left') j j' c c' done
took_ended plan false later node new left left' count j j' c c' ended done is_up ends leaves runs follows rests failed unstored = absurd (up_not is_up)
took_ended plan true later node new left left' count j j' c c' ended done is_up ends leaves runs follows rests failed unstored = record {
  follows = follows (plan node) ends;
  stands = resting_stands later new left' count j' c' (rests count j' c' leaves);
  runs = runs_as j j' c c' failed runs;
  unstored = unstored;
}

-- memory ran out
pub unchanged : {T E : Type 0} (result : Result T E) (up : Bool) (node new : Node) (left : DownState) (count : ℕ) (j j' c c' : State) → up ≡ true → new ≡ node → UpOnDisks node count j' c'
    → AreSame j j' c c' → OnErr result (Unchanged AreSame (seen_node up node left) (seen_node up new left) j j' c c')
unchanged (Ok value) up node new left count j j' c c' is_up same rests unused = tt
unchanged (Err error) false node new left count j j' c c' is_up same rests unused = absurd (up_not is_up)
unchanged (Err error) true node new left count j j' c c' is_up same rests unused = record {
  node = same;
  stands = subst (λ (n : Node). Stands n j' c') (sym same) (rests_stand node count j' c' rests);
  disks = unused;
}
