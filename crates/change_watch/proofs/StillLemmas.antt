-- Some nodes were asked so far.
use Rattle.std.proofs.Common.{ℕ, suc, ◌≡◌, ◌+◌, ◌≤◌, ◌<◌, inl, Bool, true, false, List, [], ◌∷◌, length, drop, get_or, Option, Result, Ok, Err, refl, subst, arith, ◌∙◌}
use Rattle.rs_optime.specs.declared.optime.OpTime.{OpTime}
use Rattle.set_model.specs.declared.command.Event.{Event}
use Rattle.set_model.specs.Run.{Sizes}
use Rattle.change_watch.specs.declared.stop.WatchStop.{WatchStop}
use Rattle.change_watch.specs.declared.stop.WatchStop.TheVariants.{Memory}
use Rattle.change_watch.specs.Following.{AsksAll, AsksOnce, AsksSome, StaysSo}
use Rattle.change_watch.proofs.AskLemmas.{all_asked, asks_none, asks_on, breaks_between, last_once, node_asked, once_more, stays_on}

-- these nodes are left
pub record StillAsks {S K : Type 0} (sizes : S → Sizes) (known : S → List Event) (stays : S → S → Type 0) (whole : S → Type 0) (held : K → Option (List ℕ)) (faults : K → ℕ) (steady : K → Type 0) (alone : Bool)
    (collection nodes left : List ℕ) (token mid : OpTime) (old new : S) (first last : K) : Type 0 where
  pub asks : AsksSome alone (sizes old) {A = Unit {0}} (λ (done : Unit {0}). left) collection token nodes mid (known old) (known new) (held first) (held last) (Ok tt)
  pub sizes_are : sizes new ≡ sizes old
  pub stays_so : StaysSo stays old new
  pub whole_still : whole old → whole new
  pub later : faults first ≤ faults last
  pub steady_still : steady first → steady last

drop_none : (xs : List ℕ) → xs ≡ drop 0 xs
drop_none [] = refl
drop_none (x ∷ xs) = refl

module _ {S K : Type 0} (sizes : S → Sizes) (known : S → List Event) (stays : S → S → Type 0) (whole : S → Type 0) (held : K → Option (List ℕ)) (faults : K → ℕ) (steady : K → Type 0) (alone : Bool) (collection : List ℕ) where
  pub still_none : (nodes : List ℕ) (token : OpTime) (set : S) (sink : K) → StillAsks sizes known stays whole held faults steady alone collection nodes nodes token token set set sink sink
  still_none nodes token set sink = record {
    asks = asks_none alone (sizes set) collection token nodes (known set) (held sink);
    sizes_are = refl;
    stays_so = inl refl;
    whole_still = λ was. was;
    later = omega arith;
    steady_still = λ steady. steady;
  }

  pub still_first : (nodes : List ℕ) (token : OpTime) (set : S) (sink : K) → StillAsks sizes known stays whole held faults steady alone collection nodes (drop 0 nodes) token token set set sink sink
  still_first nodes token set sink = subst (λ (ns : List ℕ). StillAsks sizes known stays whole held faults steady alone collection nodes ns token token set set sink sink) (drop_none nodes) (still_none nodes token set sink)

  module _ (token mid end : OpTime) (old between new : S) (first told now : K) where
    module _ (nodes : List ℕ) (i node : ℕ) (within : i < length nodes) (is : node ≡ get_or nodes i 0) (still : StillAsks sizes known stays whole held faults steady alone collection nodes (drop i nodes) token mid old between first told) where
      asked_here : (result : Result (Unit {0}) WatchStop) → AsksAll alone (sizes between) collection mid (node ∷ []) end (known between) (known new) (held told) (held now) result
          → AsksSome alone (sizes old) {A = Unit {0}} (λ (done : Unit {0}). drop (suc i) nodes) collection token nodes end (known old) (known new) (held first) (held now) result
      asked_here result one =
          node_asked alone (sizes old) collection nodes token mid end (known old) (known between) (known new) (held first) (held told) (held now) i node within is still.asks result
          (subst (λ (s : Sizes). AsksAll alone s collection mid (node ∷ []) end (known between) (known new) (held told) (held now) result) still.sizes_are one)

      pub node_on : ((one two three : S) → stays one two → stays two three → stays one three) → (more : ℕ) → more ≡ i + 1 → AsksAll alone (sizes between) collection mid (node ∷ []) end (known between) (known new) (held told) (held now) (Ok tt)
          → sizes new ≡ sizes between → StaysSo stays between new → (whole between → whole new) → faults told ≤ faults now → (steady told → steady now)
          → StillAsks sizes known stays whole held faults steady alone collection nodes (drop more nodes) token end old new first now
      node_on law more is_more one same stay wholly later steadily =
          let next : suc i ≡ more = omega (arith, is_more) in
          subst (λ (n : ℕ). StillAsks sizes known stays whole held faults steady alone collection nodes (drop n nodes) token end old new first now) next (record {
            asks = asked_here (Ok tt) one;
            sizes_are = same ∙ still.sizes_are;
            stays_so = stays_on stays law old between new still.stays_so stay;
            whole_still = λ was. wholly (still.whole_still was);
            later = omega (arith, still.later, later);
            steady_still = λ steady. steadily (still.steady_still steady);
          })

      pub node_stops : (stop : WatchStop) → AsksAll alone (sizes between) collection mid (node ∷ []) end (known between) (known new) (held told) (held now) (Err stop)
          → AsksAll alone (sizes old) collection token nodes end (known old) (known new) (held first) (held now) (Err stop)
      node_stops stop one = asked_here (Err stop) one

    module _ (node : ℕ) (still : StillAsks sizes known stays whole held faults steady alone collection (node ∷ []) (node ∷ []) token mid old between first told) where
      here : (result : Result Bool WatchStop) → AsksOnce alone (sizes between) collection node mid end (known between) (known new) (held told) (held now) result → AsksOnce alone (sizes old) collection node mid end (known between) (known new) (held told) (held now) result
      here result once = subst (λ (s : Sizes). AsksOnce alone s collection node mid end (known between) (known new) (held told) (held now) result) still.sizes_are once

      pub once_on : ((one two three : S) → stays one two → stays two three → stays one three) → (nothing : Bool) → nothing ≡ false
          → AsksOnce alone (sizes between) collection node mid end (known between) (known new) (held told) (held now) (Ok nothing)
          → sizes new ≡ sizes between → StaysSo stays between new → (whole between → whole new) → faults told ≤ faults now → (steady told → steady now)
          → StillAsks sizes known stays whole held faults steady alone collection (node ∷ []) (node ∷ []) token end old new first now
      once_on law nothing more once same stay wholly later steadily = record {
        asks = once_more alone (sizes old) collection token mid end node (known old) (known between) (known new) (held first) (held told) (held now) nothing more still.asks (here (Ok nothing) once);
        sizes_are = same ∙ still.sizes_are;
        stays_so = stays_on stays law old between new still.stays_so stay;
        whole_still = λ was. wholly (still.whole_still was);
        later = omega (arith, still.later, later);
        steady_still = λ steady. steadily (still.steady_still steady);
      }

      pub once_last : (nothing : Bool) → nothing ≡ true → AsksOnce alone (sizes between) collection node mid end (known between) (known new) (held told) (held now) (Ok nothing)
          → AsksAll alone (sizes old) collection token (node ∷ []) end (known old) (known new) (held first) (held now) (Ok tt)
      once_last nothing none once = last_once alone (sizes old) collection token mid end node (known old) (known between) (known new) (held first) (held told) (held now) nothing none still.asks (here (Ok nothing) once)

      pub once_stops_all : (stop : WatchStop) → AsksOnce alone (sizes between) collection node mid end (known between) (known new) (held told) (held now) (Err stop)
          → AsksAll alone (sizes old) collection token (node ∷ []) end (known old) (known new) (held first) (held now) (Err stop)
      once_stops_all stop once =
          asks_on alone (sizes old) (λ (done : Unit {0}). []) collection token mid end (node ∷ []) (node ∷ []) (known old) (known between) (known new) (held first) (held told) (held now) (Err stop) still.asks (here (Err stop) once)

  pub still_all : (token end : OpTime) (nodes : List ℕ) (i : ℕ) (old new : S) (first now : K) → length nodes ≤ i → StillAsks sizes known stays whole held faults steady alone collection nodes (drop i nodes) token end old new first now
      → AsksAll alone (sizes old) collection token nodes end (known old) (known new) (held first) (held now) (Ok tt)
  still_all token end nodes i old new first now past still = all_asked alone (sizes old) collection nodes token end (known old) (known new) (held first) (held now) i past still.asks

  pub still_breaks : (token end : OpTime) (node : ℕ) (old new : S) (first now : K) → StillAsks sizes known stays whole held faults steady alone collection (node ∷ []) (node ∷ []) token end old new first now
      → AsksAll alone (sizes old) collection token (node ∷ []) end (known old) (known new) (held first) (held now) (Err Memory)
  still_breaks token end node old new first now still = breaks_between alone (sizes old) collection token end node (known old) (known new) (held first) (held now) still.asks
