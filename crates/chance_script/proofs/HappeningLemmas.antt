-- The events of a generated script, one by one.
use Rattle.std.specs.Prelude.{ℕ, suc, ◌≡◌, ◌+◌, List, [], ◌∷◌, ◌++◌}
use Rattle.std.proofs.Common.{append_assoc, arith, sym, ap, rules, ◌∙◌}
use Rattle.std.specs.List.{flat_map}
use Rattle.std.proofs.lemmas.List.Concat.{flat_map-append}
use Rattle.rand_pcg.specs.Lcg.{Lcg}
use Rattle.chance_script.specs.declared.happening.Happening.{Happening}
use Rattle.chance_script.specs.Generated.{happening, happenings, text_of, with_event}

one_more : (nodes seed count : ℕ) (event : Happening) (generator : Lcg)
    → (event, generator) ≡ happening nodes count (happenings nodes seed count).1
    → happenings nodes seed (count + 1) ≡ ((happenings nodes seed count).0 ++ event ∷ [], generator)
one_more nodes seed count event generator drawn =
    let more : count + 1 ≡ suc count = omega arith in
    ap (happenings nodes seed) more ∙ sym (ap (with_event (happenings nodes seed count).0) drawn)

pub text_more : (nodes : ℕ) (events : List Happening) (event : Happening)
    → flat_map (text_of nodes) (events ++ event ∷ []) ≡ flat_map (text_of nodes) events ++ text_of nodes event
text_more nodes events event = search (rules, flat_map-append)

-- an event more is drawn, and its lines are written
pub with_next : (nodes seed count : ℕ) (event : Happening) (generator next : Lcg) (front text longer : List ℕ)
    → text ≡ front ++ flat_map (text_of nodes) (happenings nodes seed count).0 → generator ≡ (happenings nodes seed count).1
    → (event, next) ≡ happening nodes count generator → longer ≡ text ++ text_of nodes event
    → (longer ≡ front ++ flat_map (text_of nodes) (happenings nodes seed (count + 1)).0) × (next ≡ (happenings nodes seed (count + 1)).1)
with_next nodes seed count event generator next front text longer is state drawn written =
    let more = one_more nodes seed count event next (drawn ∙ ap (happening nodes count) state) in
    let before = flat_map (text_of nodes) (happenings nodes seed count).0 in
    let lines : flat_map (text_of nodes) (happenings nodes seed (count + 1)).0 ≡ before ++ text_of nodes event =
    ap (λ (here : List Happening × Lcg). flat_map (text_of nodes) here.0) more ∙ text_more nodes (happenings nodes seed count).0 event in (
      written ∙ ap (λ (t : List ℕ). t ++ text_of nodes event) is ∙ append_assoc front before (text_of nodes event) ∙ ap (λ (t : List ℕ). front ++ t) (sym lines),
      ap (λ (here : List Happening × Lcg). here.1) (sym more),
    )
