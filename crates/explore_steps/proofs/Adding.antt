-- Cells stand for the nodes of a world as a message is sent in it.
use Rattle.std.proofs.Common.{◌≡◌, ◌∙◌, inl, inr, ap, sym, subst, refl, ℕ, Bool, true, false, ◌&&◌, ◌||◌, Some, List, [], ◌∷◌, length-set, slice_get, slice_set}
use Rattle.std.proofs.lemmas.Bool.{cases_eq}
use Rattle.std.proofs.lemmas.List.Folds.{list_any-append}
use Rattle.std.proofs.lemmas.Option.{same_Some}
use Rattle.commit_machine.proofs.Growth.{in_append, in_left, in_right}
use Rattle.repl_msg.specs.declared.message.Message.{Message}
use Rattle.rs_optime.specs.Membership.{In}
use Rattle.safety_laws.proofs.Places.{get_set_other, get_set_same}
use Rattle.set_model.specs.World.{World}
use Rattle.explore_laws.specs.Alike.{AlikeNodes}
use Rattle.explore_laws.specs.Dead.{has_dead, is_dead, is_dead_in}
use Rattle.explore_laws.proofs.AlikeWorlds.{dead_alike}
use Rattle.explore_steps.specs.Courses.{with_sent}
use Rattle.explore_steps.specs.Stepping.{IsAddition}
use Rattle.explore_steps.specs.Tables.{AreNoted, AreOf, StandsFor, Tables}
use Rattle.explore_steps.proofs.Cells.{dead_in_cell, one_list, one_node}

module _ (tables : Tables) (cells : List ℕ) (world : World) (are : AreOf tables cells world) (message : Message) (cell new : ℕ) (cell_there : slice_get cells message.to ≡ Some cell)
    (adds : IsAddition tables cell message new) where
  abbrev stands : StandsFor tables cell world message.to
  stands = are.each message.to cell cell_there

  same_node : stands.node ≡ adds.node
  same_node = one_node tables cell stands.node adds.node stands.messages adds.messages stands.is_cell adds.was

  same_messages : stands.messages ≡ adds.messages
  same_messages = one_list tables cell stands.node adds.node stands.messages adds.messages stands.is_cell adds.was

  alike : AlikeNodes stands.own adds.node
  alike = subst (AlikeNodes stands.own) same_node stands.alike

  dead_is : (other : Message) → is_dead stands.own other ≡ is_dead adds.node other
  dead_is other = dead_alike stands.own adds.node other alike

  added : StandsFor tables new (with_sent world message) message.to
  added = record {
    own = stands.own;
    node = adds.node;
    messages = adds.more;
    there = stands.there;
    is_cell = adds.is;
    alike = alike;
    live = λ other sent to_it alive. (adds.has other).1 (elim (in_append other world.messages (message ∷ []) sent) [
      | inl before ↦ inl (subst (λ (l : List Message). In other l) same_messages (stands.live other before to_it alive))
      | inr new_one ↦ inr (is_last other new_one, subst (λ (m : Message). is_dead adds.node m ≡ false) (is_last other new_one) (sym (dead_is other) ∙ alive))
    ]);
    sent = λ other there. elim ((adds.has other).0 there) [
      | inl before ↦
          (let was : In other world.messages × (other.to ≡ message.to) × (is_dead stands.own other ≡ false) = stands.sent other (subst (λ (l : List Message). In other l) (sym same_messages) before) in
          (in_left other world.messages (message ∷ []) was.0, was.1, was.2))
      | inr new_one ↦ (
        in_right other world.messages (message ∷ []) (inl (sym new_one.0)),
        ap (λ (m : Message). m.to) new_one.0,
        dead_is other ∙ ap (is_dead adds.node) new_one.0 ∙ new_one.1,
      )
    ];
  }
    where
      is_last : (other : Message) → In other (message ∷ []) → other ≡ message
      is_last other (inl same) = sym same
      is_last other (inr none) = absurd none

  kept_as : (m other : ℕ) → (message.to ≡ m → ⊥) → StandsFor tables other world m → StandsFor tables other (with_sent world message) m
  kept_as m other apart of = record {
    own = of.own;
    node = of.node;
    messages = of.messages;
    there = of.there;
    is_cell = of.is_cell;
    alike = of.alike;
    live = λ found sent to_it alive. elim (in_append found world.messages (message ∷ []) sent) [
      | inl before ↦ of.live found before to_it alive
      | inr new_one ↦ absurd (apart (is_to found new_one ∙ to_it))
    ];
    sent = λ found there. (in_left found world.messages (message ∷ []) (of.sent found there).0, (of.sent found there).1, (of.sent found there).2);
  }
    where
      is_to : (found : Message) → In found (message ∷ []) → message.to ≡ found.to
      is_to found (inl same) = ap (λ (m : Message). m.to) same
      is_to found (inr none) = absurd none

  pub of_added : AreOf tables (slice_set cells message.to new) (with_sent world message)
  of_added = record {
    count = length-set cells message.to new ∙ are.count;
    each = λ m other there. elim (cases_eq message.to m) [
      | inl same ↦
          subst (λ k. StandsFor tables other (with_sent world message) k) same
          (subst (λ c. StandsFor tables c (with_sent world message) message.to) (same_Some new other (sym (get_set_same cells message.to new cell cell_there) ∙ ap (slice_get (slice_set cells message.to new)) same ∙ there)) added)
      | inr apart ↦ kept_as m other apart (are.each m other (sym (get_set_other cells message.to m new apart) ∙ there))
    ];
  }

  -- ---- whether a message is dead

  dead_with : has_dead (with_sent world message) ≡ (has_dead world || is_dead adds.node message)
  dead_with = list_any-append (is_dead_in world) world.messages (message ∷ [])
      ∙ ap (λ b. has_dead world || b) (or_none (is_dead_in world message) ∙ dead_in_cell tables cells world message cell adds.node adds.messages are cell_there adds.was)
    where
      or_none : (b : Bool) → (b || false) ≡ b
      or_none true = refl
      or_none false = refl

  noted_on : (notes dead : Bool) → (notes ≡ true → dead ≡ has_dead world) → notes ≡ true → (dead || (notes && is_dead adds.node message)) ≡ has_dead (with_sent world message)
  noted_on true dead is on = ap (λ b. b || is_dead adds.node message) (is refl) ∙ sym dead_with
  noted_on false dead is on = absurd (cc on)

  noted_off : (notes dead : Bool) → (notes ≡ false → dead ≡ false) → notes ≡ false → (dead || (notes && is_dead adds.node message)) ≡ false
  noted_off true dead is off = absurd (cc off)
  noted_off false dead is off = ap (λ b. b || false) (is refl)

  pub noted_added : (notes dead : Bool) → AreNoted tables notes cells dead world
      → AreNoted tables notes (slice_set cells message.to new) (dead || (notes && is_dead adds.node message)) (with_sent world message)
  noted_added notes dead noted = record {
    cells_are = of_added;
    noted = noted_on notes dead noted.noted;
    unnoted = noted_off notes dead noted.unnoted;
  }
