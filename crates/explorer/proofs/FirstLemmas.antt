-- With what acts may begin in cells, cell by cell.
use Rattle.std.proofs.Common.{◌≡◌, ◌∙◌, ◌<◌, ◌≤◌, ◌+◌, inl, inr, ap, sym, subst, refl, arith, ℕ, Bool, true, false, Some, List, [], ◌∷◌, ◌++◌, get_or, length, map, slice_get, if◌then◌else◌}
use Rattle.std.proofs.lemmas.Bool.{cases_lt}
use Rattle.std.proofs.lemmas.Option.{same_Some, slice_get-get_or, slice_get_within}
use Rattle.commit_machine.proofs.Growth.{in_append, in_left, in_right}
use Rattle.repl_msg.specs.declared.message.Message.{Message}
use Rattle.rs_optime.specs.Membership.{In}
use Rattle.safety_laws.proofs.Places.{get_in}
use Rattle.set_model.specs.Node.{Node}
use Rattle.explore_steps.specs.declared.doing.First.{First}
use Rattle.explore_steps.specs.declared.doing.First.TheVariants.{Live, Dead}
use Rattle.explore_steps.specs.Tables.{AreNumbers, HasCell, IsCell, Tables}
use Rattle.explore_steps.proofs.Growth.{same_head, same_tail}
use Rattle.explorer.specs.States.{AreListed, IsListed}
use Rattle.explorer.proofs.Beginnings.{number_of_sent}

in_map : (numbers : List ℕ) (number : ℕ) → In number numbers → In (Live number) (map Live numbers)
in_map [] number there = absurd there
in_map (n ∷ numbers) number (inl same) = inl (ap Live same)
in_map (n ∷ numbers) number (inr there) = inr (in_map numbers number there)

map_in : (numbers : List ℕ) (first : First) → In first (map Live numbers) → (number : ℕ) × (first ≡ Live number) × In number numbers
map_in [] first there = absurd there
map_in (n ∷ numbers) first (inl same) = (n, sym same, inl refl)
map_in (n ∷ numbers) first (inr there) = let rest : (number : ℕ) × (first ≡ Live number) × In number numbers = map_in numbers first there in (rest.0, rest.1, inr rest.2)

-- a number of a list is that of one of its messages
sent_of_number : (tables : Tables) (numbers : List ℕ) (messages : List Message) (number : ℕ) → AreNumbers tables numbers messages → In number numbers
    → (sent : Message) × In sent messages × (slice_get tables.messages number ≡ Some sent)
sent_of_number tables [] messages number are there = absurd there
sent_of_number tables (n ∷ numbers) [] number are there = absurd (cc are)
sent_of_number tables (n ∷ numbers) (sent ∷ messages) number are (inl same) =
    (sent, inl refl, ap (slice_get tables.messages) (sym same) ∙ same_head (slice_get tables.messages n) (Some sent) (map (slice_get tables.messages) numbers) (map Some messages) are)
sent_of_number tables (n ∷ numbers) (sent ∷ messages) number are (inr there) =
    let rest : (s : Message) × In s messages × (slice_get tables.messages number ≡ Some s) =
    sent_of_number tables numbers messages number (same_tail (slice_get tables.messages n) (Some sent) (map (slice_get tables.messages) numbers) (map Some messages) are) there in
    (rest.0, inr rest.1, rest.2)

-- a cell that is read is one of them
pub cell_at : (read cells : List ℕ) (place : ℕ) → read ≡ cells → place < length read → slice_get cells place ≡ Some (get_or read place 0)
cell_at read cells place same within = ap (λ (l : List ℕ). slice_get l place) (sym same) ∙ slice_get-get_or read place 0 within

-- The messages of so many cells are there, each by its number.
pub record AreAdded (tables : Tables) (cells : List ℕ) (count : ℕ) (firsts : List First) : Type 0 where
  pub listed : (first : First) → In first firsts → (number : ℕ) × (first ≡ Live number) × IsListed tables cells false (Live number)
  pub live :
      (place cell : ℕ) (node : Node) (messages : List Message) (sent : Message) → place < count → slice_get cells place ≡ Some cell
      → IsCell tables cell node messages → In sent messages → (number : ℕ) × In (Live number) firsts × (slice_get tables.messages number ≡ Some sent)

pub none_added : (tables : Tables) (cells : List ℕ) → AreAdded tables cells 0 []
none_added tables cells = record {
  listed = λ first there. absurd there;
  live = λ place cell node messages sent below there is_cell in_it. absurd (omega (arith, below));
}

pub more_added : (tables : Tables) (cells : List ℕ) (count : ℕ) (firsts more : List First) (cell : ℕ) (numbers : List ℕ) → slice_get cells count ≡ Some cell → HasCell tables cell
    → ((node : Node) (messages : List Message) → IsCell tables cell node messages → AreNumbers tables numbers messages) → more ≡ firsts ++ map Live numbers
    → AreAdded tables cells count firsts → AreAdded tables cells (count + 1) more
more_added tables cells count firsts more cell numbers there has are more_is added = record {
  listed = λ first in_more. elim (in_append first firsts (map Live numbers) (subst (λ (l : List First). In first l) more_is in_more)) [
    | inl before ↦ added.listed first before
    | inr new ↦ newly first new
  ];
  live = λ place at node messages sent below at_there is_cell in_it. elim (cases_lt place count) [
    | inl earlier ↦ kept (added.live place at node messages sent earlier at_there is_cell in_it)
    | inr past ↦
        let order : count ≤ place = past in
        let same : place ≡ count = omega (arith, below, order) in
        let cell_same : at ≡ cell = same_Some at cell (sym at_there ∙ ap (slice_get cells) same ∙ there) in
        now node messages sent (subst (λ k. IsCell tables k node messages) cell_same is_cell) in_it
  ];
}
  where
    newly : (first : First) → In first (map Live numbers) → (number : ℕ) × (first ≡ Live number) × IsListed tables cells false (Live number)
    newly first new =
        let number : (n : ℕ) × (first ≡ Live n) × In n numbers = map_in numbers first new in
        let sent : (s : Message) × In s has.1 × (slice_get tables.messages number.0 ≡ Some s) = sent_of_number tables numbers has.1 number.0 (are has.0 has.1 has.2) number.2 in
        (number.0, number.1, (count, cell, has.0, has.1, sent.0, there, has.2, sent.1, sent.2))

    kept : {sent : Message} → (number : ℕ) × In (Live number) firsts × (slice_get tables.messages number ≡ Some sent) → (number : ℕ) × In (Live number) more × (slice_get tables.messages number ≡ Some sent)
    kept found = (found.0, subst (λ (l : List First). In (Live found.0) l) (sym more_is) (in_left (Live found.0) firsts (map Live numbers) found.1), found.2)

    now : (node : Node) (messages : List Message) (sent : Message) → IsCell tables cell node messages → In sent messages → (number : ℕ) × In (Live number) more × (slice_get tables.messages number ≡ Some sent)
    now node messages sent is_cell in_it =
        let found : (place : ℕ) × (number : ℕ) × (slice_get numbers place ≡ Some number) × (slice_get tables.messages number ≡ Some sent) =
        number_of_sent tables numbers messages sent (are node messages is_cell) in_it in (
          found.1,
          subst (λ (l : List First). In (Live found.1) l) (sym more_is) (in_right (Live found.1) firsts (map Live numbers) (in_map numbers found.1 (get_in numbers found.0 found.1 found.2))),
          found.3,
        )

listed_live : (tables : Tables) (cells : List ℕ) (dead : Bool) (number : ℕ) → IsListed tables cells false (Live number) → IsListed tables cells dead (Live number)
listed_live tables cells dead number is = is

-- those of all cells, and whether any dead one may be
pub all_added : (tables : Tables) (cells : List ℕ) (count : ℕ) (dead : Bool) (firsts more : List First) → length cells ≤ count → AreAdded tables cells count firsts → more ≡ firsts ++ (if dead then Dead ∷ [] else [])
    → AreListed tables cells dead more
all_added tables cells count dead firsts more all added more_is = record {
  listed = λ first in_more. elim (in_append first firsts (if dead then Dead ∷ [] else []) (subst (λ (l : List First). In first l) more_is in_more)) [
    | inl before ↦
        let is : (number : ℕ) × (first ≡ Live number) × IsListed tables cells false (Live number) = added.listed first before in
        subst (λ (f : First). IsListed tables cells dead f) (sym is.1) (listed_live tables cells dead is.0 is.2)
    | inr last ↦ at_last dead first last
  ];
  live = λ place cell node messages sent there is_cell in_it.
      (let within : place < length cells = slice_get_within cells place cell there in
      let found : (number : ℕ) × In (Live number) firsts × (slice_get tables.messages number ≡ Some sent) = added.live place cell node messages sent (omega (arith, within, all)) there is_cell in_it in
      (found.0, subst (λ (l : List First). In (Live found.0) l) (sym more_is) (in_left (Live found.0) firsts (if dead then Dead ∷ [] else []) found.1), found.2));
  noted = λ is.
      subst (λ (l : List First). In Dead l) (sym more_is)
      (in_right Dead firsts (if dead then Dead ∷ [] else []) (subst (λ b. In Dead (if b then Dead ∷ [] else [])) (sym is) (inl refl)));
}
  where
    at_last : (b : Bool) (first : First) → In first (if b then Dead ∷ [] else []) → IsListed tables cells b first
    at_last true first (inl same) = subst (λ (f : First). IsListed tables cells true f) same refl
    at_last true first (inr there) = absurd there
    at_last false first there = absurd there
