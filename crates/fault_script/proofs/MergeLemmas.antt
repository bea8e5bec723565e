-- Lists one after another are a merge.
use Rattle.std.proofs.Common.{inl, inr, List, [], ◌∷◌, ◌++◌, refl}
use Rattle.std.specs.List.{flat_map}
use Rattle.fault_script.specs.Merge.{Interleaves, IsMerge}

alone : {A : Type 0} (second : List A) → Interleaves [] second second
alone [] = (refl, refl)
alone (item ∷ second) = inr (second, refl, alone second)

one_then_other : {A : Type 0} (first second : List A) → Interleaves first second (first ++ second)
one_then_other [] second = alone second
one_then_other (item ∷ first) second = inl (first, refl, one_then_other first second)

pub one_after_another : {A : Type 0} (lists : List (List A)) → IsMerge lists (flat_map (λ (list : List A). list) lists)
one_after_another [] = refl
one_after_another {A} (list ∷ lists) = (flat_map (λ (own : List A). own) lists, one_after_another lists, one_then_other list (flat_map (λ (own : List A). own) lists))
