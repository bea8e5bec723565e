-- The documents that a store shows, as it lists them.
use Rattle.std.proofs.Common.{◌≡◌, Bool, true, false, cond, List, [], ◌∷◌, map, suc, zero, Option, None, Some, inl, inr, refl, sym, ap, subst, ◌∙◌, arith, rules}
use Rattle.std.specs.Prelude.{◌⊎◌, ◌&&◌, T, All, Contains, IsSome, unwrap_or, slice_index_or}
use Rattle.std.specs.List.{AllByRecursion}
use Rattle.std.specs.List.Sorted.{IsStrictlySortedBy}
use Rattle.std.specs.FinMap.{empty, entries, entries_sorted, find, get-entries, is_sorted}
use Rattle.std.specs.FinMap.Entries.{below_all, same_entries}
use Rattle.std.specs.Ordering.{eq_by_cmp, is_eq, is_lt}
use Rattle.std.specs.Cmp.{Equal-is, tied_itself}
use Rattle.std.specs.declared.cmp.Ordering.TheVariants.{Less}
use Rattle.std.proofs.lemmas.List.{get_or_default}
use Rattle.std.proofs.lemmas.Map.Keys.{sorted_head, sorted_tail}
use Rattle.rs_optime.specs.declared.optime.OpTime.{OpTime}
use Rattle.bson_doc.specs.Place.{Place, place_cmp}
use Rattle.bson_doc.specs.Tree.{Fields, no_fields}
use Rattle.bson_doc.proofs.KeyLemmas.{place_cmp-total, place_cmp-antisymmetric}
use Rattle.oplog_entry.specs.Docs.{Documents}
use Rattle.version_store.specs.Store.{Store, shown_at}
use Rattle.checkpoint_store.specs.Checkpoint.{with_documents}
use Rattle.checkpoint_store.specs.Layout.{Saved}
use Rattle.version_store.specs.Shown.{AreShown, place_of, placed}
use Rattle.version_store.specs.declared.shown.Shown.{Shown}
use Rattle.checkpoint_store.specs.Shown.{AllCanBeSaved, EachCanBeSaved, Shows}
use Rattle.checkpoint_store.proofs.CheckpointLemmas.{get_all_put_in}

some_is : (o : Option Fields) → IsSome o → Some (unwrap_or o no_fields) ≡ o
some_is None some = cc
some_is (Some x) some = refl

both : (a b : Bool) → T a → T b → T (a && b)
both true b p q = q
both false b p q = p

module _ (sh : Place → Option Fields) where
  abbrev at_place : Place → Saved
  at_place place = (place, unwrap_or (sh place) no_fields)

  not_later : (p : Place) (places : List Place) (q : Place) → eq_by_cmp place_cmp q p ≡ false → ¬ Contains places q → ¬ Contains (p ∷ places) q
  not_later p places q apart absent (zero, within, is) =
      absurd (cc (ap (λ (x : Place). eq_by_cmp place_cmp q x) is ∙ ap is_eq (tied_itself place_cmp-total q), apart))
  not_later p places q apart absent (suc k, within, is) = absent (k, omega arith, is)

  found : (places : List Place) → All (λ p. IsSome (sh p)) places → (q : Place)
      → (find place_cmp q (map at_place places) ≡ sh q) ⊎ ((find place_cmp q (map at_place places) ≡ None) × (¬ Contains places q))
  found [] each q = inr (refl, λ (k, within, is). absurd (omega arith))
  found (p ∷ places) each q = here (eq_by_cmp place_cmp q p) refl (found places (λ k d within. each (suc k) d (omega arith)) q)
    where
      here : (b : Bool) → eq_by_cmp place_cmp q p ≡ b
          → (find place_cmp q (map at_place places) ≡ sh q) ⊎ ((find place_cmp q (map at_place places) ≡ None) × (¬ Contains places q))
          → (cond b (Some (at_place p).1) (find place_cmp q (map at_place places)) ≡ sh q)
          ⊎ ((cond b (Some (at_place p).1) (find place_cmp q (map at_place places)) ≡ None) × (¬ Contains (p ∷ places) q))
      here true tie rest =
          inl (some_is (sh p) (each zero p (omega arith)) ∙ ap sh (sym (place_cmp-antisymmetric q p ((Equal-is _).0 tie))))
      here false apart (inl is) = inl is
      here false apart (inr (none, absent)) = inr (none, not_later p places q apart absent)

  find_is : (places : List Place) → All (λ p. IsSome (sh p)) places → ((q : Place) → IsSome (sh q) → Contains places q) → (q : Place)
      → find place_cmp q (map at_place places) ≡ sh q
  find_is places each has q = go (found places each q)
    where
      none_is : (o : Option Fields) → (IsSome o → ⊥) → None ≡ o
      none_is None absent = refl
      none_is (Some x) absent = absurd (absent refl)

      go : (find place_cmp q (map at_place places) ≡ sh q) ⊎ ((find place_cmp q (map at_place places) ≡ None) × (¬ Contains places q))
          → find place_cmp q (map at_place places) ≡ sh q
      go (inl is) = is
      go (inr (none, absent)) = none ∙ none_is (sh q) (λ some. absent (has q some))

  below : (p : Place) (places : List Place) → AllByRecursion (λ y. place_cmp p y ≡ Less) places → T (below_all place_cmp p (map at_place places))
  below p [] all = tt
  below p (q ∷ places) all =
      both (is_lt (place_cmp p q)) (below_all place_cmp p (map at_place places)) (subst (λ o. T (is_lt o)) (sym all.0) tt) (below p places all.1)

  sorted : (places : List Place) → IsStrictlySortedBy place_cmp places → T (is_sorted place_cmp (map at_place places))
  sorted [] order = tt
  sorted (p ∷ places) order =
      both (below_all place_cmp p (map at_place places)) (is_sorted place_cmp (map at_place places))
      (below p places (sorted_head place_cmp p places order)) (sorted places (sorted_tail place_cmp p places order))

-- documents are those that are shown at their places
are_placed : (sh : Place → Option Fields) (documents : List Shown) → All (λ one. sh (place_of one) ≡ Some one.document.now) documents
    → map placed documents ≡ map (at_place sh) (map place_of documents)
are_placed sh [] each = refl
are_placed sh (one ∷ documents) each =
    let rest : map placed documents ≡ map (at_place sh) (map place_of documents) = are_placed sh documents (λ k d within. each (suc k) d (omega arith)) in
    let here : one.document.now ≡ unwrap_or (sh (place_of one)) no_fields = ap (λ (o : Option Fields). unwrap_or o no_fields) (sym (each zero one (omega arith))) in
    λ i. (place_of one, here i) ∷ rest i

module _ (store : Store) (at : OpTime) (documents : List Shown) (are : AreShown store at documents) where
  abbrev sh : Place → Option Fields
  sh place = shown_at store place at

  abbrev places : List Place
  places = map place_of documents

  at_places : map (at_place sh) places ≡ map placed documents
  at_places = sym (are_placed sh documents are.each)

  each_shown : All (λ place. IsSome (shown_at store place at)) places
  each_shown k d within =
      let here : slice_index_or places k (slice_index_or places k d) ≡ slice_index_or places k d = search (rules, get_or_default) in
      (are.places (slice_index_or places k d)).0 (k, within, here)

  finds : (q : Place) → find place_cmp q (map placed documents) ≡ shown_at store q at
  finds q = ap (find place_cmp q) (sym at_places) ∙ find_is sh places each_shown (λ place some. (are.places place).1 some) q

  in_order : T (is_sorted place_cmp (map placed documents))
  in_order = subst (λ (l : List Saved). T (is_sorted place_cmp l)) at_places (sorted sh places are.order)

  -- these are the entries of the map that the store shows
  pub listed : (map_of : Documents) → Shows store at map_of → map placed documents ≡ entries map_of
  listed map_of shows =
      same_entries place_cmp place_cmp-total place_cmp-antisymmetric (map placed documents) (entries map_of)
      in_order (entries_sorted map_of) (λ q. finds q ∙ sym (shows q) ∙ get-entries map_of q)

  -- and there is such a map
  pub some_map : (map_of : Documents) × Shows store at map_of
  some_map = (
    with_documents empty (map placed documents),
    λ place. get_all_put_in (map placed documents) in_order place ∙ finds place,
  )

  -- each can be saved where all that is shown can
  pub each_can : AllCanBeSaved store at → EachCanBeSaved documents
  each_can can k d within = can (place_of (slice_index_or documents k d)) (slice_index_or documents k d).document.now (are.each k d within)
