-- A course begins: with a cell for each node, and then with what was sent.
use Rattle.std.proofs.Common.{◌≡◌, ◌∙◌, ◌<◌, ◌≤◌, ◌+◌, inl, inr, ap, sym, subst, refl, arith, ℕ, Bool, false, Some, List, [], ◌∷◌, ◌++◌, length, slice_get}
use Rattle.std.proofs.lemmas.Option.{slice_get_within}
use Rattle.repl_msg.specs.declared.message.Message.{Message}
use Rattle.oplog_store.proofs.PlaceLemmas.{last_length}
use Rattle.rs_optime.specs.Membership.{In}
use Rattle.safety_laws.specs.Bounds.{NumbersStaySmall}
use Rattle.safety_laws.specs.Laws.{InEveryRun}
use Rattle.safety_laws.proofs.Places.{get_append, get_in}
use Rattle.set_model.specs.Node.{Node}
use Rattle.set_model.specs.World.{World}
use Rattle.explore_laws.specs.Alike.{AlikeNodes}
use Rattle.explore_tables.proofs.Tables.{get_added, keeps}
use Rattle.explore_words.specs.declared.question.Question.{Question}
use Rattle.explore_steps.specs.Courses.{AreCells, of_nodes}
use Rattle.explore_steps.specs.Reaching.{IsPut, IsReachedBefore}
use Rattle.explore_steps.specs.Tables.{AreNoted, AreOf, Grow, IsCell, StandsFor, Tables}
use Rattle.explore_steps.proofs.Growth.{of_grows}
use Rattle.explore_steps.proofs.Reach.{reached_count}
use Rattle.explore_steps.proofs.TakeLemmas.{cells_of, to_node}

at_last : {A : Type 0} (xs : List A) (x : A) (n : ℕ) → length xs ≤ n → n < length (xs ++ x ∷ []) → n ≡ length xs
at_last xs x n order within = omega (arith, order, subst (λ k. n < k) (last_length xs x) within)

pub of_none : (tables : Tables) → AreOf tables [] (of_nodes [])
of_none tables = record { count = refl; each = λ number cell there. absurd (cc there) }

module _ (old new : Tables) (grow : Grow old new) (cells : List ℕ) (nodes : List Node) (are : AreOf old cells (of_nodes nodes))
    (node found : Node) (cell : ℕ) (is : IsCell new cell found []) (alike : AlikeNodes node found) where
  abbrev more : List Node
  more = nodes ++ node ∷ []

  still : (number other : ℕ) → StandsFor new other (of_nodes nodes) number → StandsFor new other (of_nodes more) number
  still number other stands = record {
    own = stands.own;
    node = stands.node;
    messages = stands.messages;
    there = keeps node nodes more (inr refl) number stands.own stands.there;
    is_cell = stands.is_cell;
    alike = stands.alike;
    live = λ message sent to_it alive. absurd sent;
    sent = λ message listed. absurd (stands.sent message listed).0;
  }

  next : StandsFor new cell (of_nodes more) (length nodes)
  next = record {
    own = node;
    node = found;
    messages = [];
    there = get_added nodes node;
    is_cell = is;
    alike = alike;
    live = λ message sent to_it alive. absurd sent;
    sent = λ message listed. absurd listed;
  }

  itself : (other : ℕ) → In other (cell ∷ []) → cell ≡ other
  itself other (inl same) = same
  itself other (inr none) = absurd none

  -- with one node more
  pub of_more : AreOf new (cells ++ cell ∷ []) (of_nodes more)
  of_more = record {
    count = last_length cells cell ∙ ap (λ k. k + 1) are.count ∙ sym (last_length nodes node);
    each = λ number other there. elim (get_append cells (cell ∷ []) number other there) [
      | inl before ↦ still number other ((of_grows old new grow cells (of_nodes nodes) are).each number other before)
      | inr last ↦
          (let place : number ≡ length nodes = at_last cells cell number last.0 (slice_get_within (cells ++ cell ∷ []) number other there) ∙ are.count in
          subst (λ k. StandsFor new other (of_nodes more) k) (sym place) (subst (λ o. StandsFor new o (of_nodes more) (length nodes)) (itself other last.1) next))
    ];
  }

-- nothing was sent, so nothing is dead
pub noted_none : (tables : Tables) (notes dead : Bool) (cells : List ℕ) (nodes : List Node) → dead ≡ false → AreOf tables cells (of_nodes nodes) → AreNoted tables notes cells dead (of_nodes nodes)
noted_none tables notes dead cells nodes alive are = record { cells_are = are; noted = λ on. alive; unnoted = λ off. alive }

-- each cell is one
pub all_cells : (old new : Tables) → Grow old new → (cells : List ℕ) (world : World) → AreOf old cells world → AreCells new cells
all_cells old new grow cells world are place cell there = cells_of new cells world (of_grows old new grow cells world are) place cell there

-- a message of a world is for a node that has a cell
pub is_for : InEveryRun NumbersStaySmall → (question : Question) → IsPut question → (world : World) → IsReachedBefore 0 question world
    → (items : List Message) → items ≡ world.messages → (message : Message) (place count : ℕ) → slice_get items place ≡ Some message → count ≡ length world.nodes → message.to < count
is_for small question put world reached items same message place count there as_many =
    subst (λ k. message.to < k) (sym (as_many ∙ reached_count question 0 world reached))
    (to_node small question 0 world put.sizes reached message (subst (λ (l : List Message). In message l) same (get_in items place message there)))
