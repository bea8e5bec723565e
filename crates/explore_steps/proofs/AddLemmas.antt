-- A course as a message is sent.
use Rattle.std.proofs.Common.{◌≡◌, ◌∙◌, ◌<◌, inl, inr, ap, sym, subst, refl, get_or, ℕ, Bool, false, ◌&&◌, ◌||◌, Some, List, length, slice_get, slice_set}
use Rattle.std.proofs.lemmas.Bool.{cases_eq}
use Rattle.std.proofs.lemmas.Option.{same_Some, slice_get_read}
use Rattle.repl_msg.specs.declared.message.Message.{Message}
use Rattle.rs_optime.specs.Membership.{In}
use Rattle.safety_laws.proofs.Places.{get_set_other, get_set_same}
use Rattle.set_model.specs.Node.{Node}
use Rattle.set_model.specs.World.{World}
use Rattle.explore_laws.specs.Alike.{AlikeNodes}
use Rattle.explore_laws.specs.Dead.{is_dead}
use Rattle.explore_laws.proofs.AlikeWorlds.{dead_alike}
use Rattle.explore_steps.specs.Courses.{AreCells, with_sent}
use Rattle.explore_steps.specs.Stepping.{IsAddition}
use Rattle.explore_steps.specs.Tables.{AreNoted, Grow, HasCell, IsCell, StandsFor, Tables}
use Rattle.explore_steps.proofs.Adding.{noted_added}
use Rattle.explore_steps.proofs.Cells.{one_list, one_node}
use Rattle.explore_steps.proofs.Growth.{has_cell_grows, noted_grows, of_grows}

-- the message is the one that is known to be for a node that has a cell
pub to_within : (messages : List Message) (message count : ℕ) (found : Message) → (sent : Message) × (slice_get messages message ≡ Some sent) × (sent.to < count)
    → slice_get messages message ≡ Some found → found.to < count
to_within messages message count found known is = subst (λ (m : Message). m.to < count) (same_Some known.0 found (sym known.1 ∙ is)) known.2

pub cell_at : (cells : List ℕ) (place found : ℕ) → place < length cells → found ≡ get_or cells place found → slice_get cells place ≡ Some found
cell_at cells place found within is = slice_get_read cells (length cells) place found refl within is

module _ (old new : Tables) (grow : Grow old new) (cells : List ℕ) where
  -- with another cell
  pub cells_set : (to cell more : ℕ) → slice_get cells to ≡ Some cell → AreCells old cells → HasCell new more → AreCells new (slice_set cells to more)
  cells_set to cell more there are has place other is = elim (cases_eq to place) [
    | inl same ↦ subst (HasCell new) (same_Some more other (sym (get_set_same cells to more cell there) ∙ ap (slice_get (slice_set cells to more)) same ∙ is)) has
    | inr apart ↦ has_cell_grows old new grow other (are place other (sym (get_set_other cells to place more apart) ∙ is))
  ]

  module _ (notes dead : Bool) (world : World) (noted : AreNoted old notes cells dead world) (message : Message) (cell more : ℕ) (there : slice_get cells message.to ≡ Some cell) (adds : IsAddition new cell message more) where
    now : AreNoted new notes cells dead world
    now = noted_grows old new grow notes cells dead world noted

    stands : StandsFor new cell world message.to
    stands = (of_grows old new grow cells world noted.cells_are).each message.to cell there

    -- a message of the cell isn't dead
    alive : In message adds.more → is_dead adds.node message ≡ false
    alive listed = elim ((adds.has message).0 listed) [
      | inl before ↦ kept_alive before
      | inr itself ↦ itself.1
    ]
      where
        kept_alive : In message adds.messages → is_dead adds.node message ≡ false
        kept_alive before =
            sym (dead_alike stands.own adds.node message (subst (λ (n : Node). AlikeNodes stands.own n) (one_node new cell stands.node adds.node stands.messages adds.messages stands.is_cell adds.was) stands.alike))
            ∙ (stands.sent message (subst (λ (l : List Message). In message l) (sym (one_list new cell stands.node adds.node stands.messages adds.messages stands.is_cell adds.was)) before)).2

    pub noted_more : (told : Bool) → ((node : Node) (messages : List Message) → IsCell new more node messages → (In message messages → is_dead node message ≡ false) → told ≡ (dead || (notes && is_dead node message)))
        → AreNoted new notes (slice_set cells message.to more) told (with_sent world message)
    noted_more told tells = subst (λ d. AreNoted new notes (slice_set cells message.to more) d (with_sent world message)) (sym (tells adds.node adds.more adds.is alive))
        (noted_added new cells world now.cells_are message cell more there adds notes dead now)
