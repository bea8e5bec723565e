-- The nodes of a set, read and written at a place.
use Rattle.std.proofs.Common.{◌≡◌, ◌∙◌, ◌<◌, ◌≤◌, ◌++◌, append-nil, append_assoc, take, drop, ap, sym, refl, arith, ℕ, zero, suc, Some, length, List, [], ◌∷◌, slice_get, slice_set, slice_index_or}
use Rattle.std.specs.Prelude.{Contains}
use Rattle.std.proofs.lemmas.Option.{same_Some}
use Rattle.repl_msg.specs.declared.message.Message.{Message}
use Rattle.set_model.specs.Node.{Node}
use Rattle.set_world.specs.World.{nodes_in, disks_in}

abbrev Nodes : Type 0 → Type 0
Nodes D = List (Node × D × D)

module _ {D : Type 0} where
  pub node_at : (nodes : Nodes D) (k : ℕ) (d : Node × D × D) → k < length nodes → slice_get (nodes_in nodes) k ≡ Some (slice_index_or nodes k d).0
  node_at [] k d within = absurd (omega (arith, within))
  node_at (node ∷ nodes) zero d within = refl
  node_at (node ∷ nodes) (suc k) d within = node_at nodes k d (omega (arith, within))

  pub nodes_set : (nodes : Nodes D) (k : ℕ) (node : Node × D × D) → nodes_in (slice_set nodes k node) ≡ slice_set (nodes_in nodes) k node.0
  nodes_set [] k node = refl
  nodes_set (first ∷ nodes) zero node = refl
  nodes_set (first ∷ nodes) (suc k) node = ap (λ l. first.0 ∷ l) (nodes_set nodes k node)

  pub nodes_long : (nodes : Nodes D) → length (nodes_in nodes) ≡ length nodes
  nodes_long [] = refl
  nodes_long (node ∷ nodes) = ap suc (nodes_long nodes)

  pub get_in : (nodes : Nodes D) (k : ℕ) (node : Node × D × D) → slice_get nodes k ≡ Some node → slice_get (nodes_in nodes) k ≡ Some node.0
  get_in [] k node there = absurd (cc there)
  get_in (first ∷ nodes) zero node there = ap (λ (n : Node × D × D). Some n.0) (same_Some first node there)
  get_in (first ∷ nodes) (suc k) node there = get_in nodes k node there

  -- a node that is as it was leaves all as they were
  pub same_nodes : (nodes : Nodes D) (k : ℕ) (before after : Node × D × D) → slice_get nodes k ≡ Some before → after.0 ≡ before.0 → nodes_in (slice_set nodes k after) ≡ nodes_in nodes
  same_nodes [] k before after there same = refl
  same_nodes (first ∷ nodes) zero before after there same = ap (λ n. n ∷ nodes_in nodes) (same ∙ ap (λ (n : Node × D × D). n.0) (sym (same_Some first before there)))
  same_nodes (first ∷ nodes) (suc k) before after there same = ap (λ l. first.0 ∷ l) (same_nodes nodes k before after there same)

-- what stands at a place is among the rest
pub among : (messages : List Message) (place : ℕ) (message : Message) → slice_get messages place ≡ Some message → Contains messages message
among [] place message there = absurd (cc there)
among (first ∷ messages) zero message there = (0, omega arith, cc there)
among (first ∷ messages) (suc place) message there =
    let rest : Contains messages message = among messages place message there in
    let within : rest.0 < length messages = rest.1 in
    (suc rest.0, omega (arith, within), rest.2)

-- a list of as many that was written over another
pub whole : {A : Type 0} (new old : List A) (size : ℕ) → length new ≡ length old → length old ≡ size → take size (new ++ drop (length new) old) ≡ new
whole new old size same long =
    ap (λ l. take size (new ++ l)) (drop-all old (length new) (omega (arith, same))) ∙ ap (λ l. take size l) (append-nil new) ∙ take-all new size (omega (arith, same, long))
  where
    drop-all : {A : Type 0} (xs : List A) (n : ℕ) → length xs ≤ n → drop n xs ≡ []
    drop-all [] zero short = refl
    drop-all [] (suc n) short = refl
    drop-all (x ∷ xs) zero short = absurd (omega (arith, short))
    drop-all (x ∷ xs) (suc n) short = drop-all xs n (omega (arith, short))

    take-all : {A : Type 0} (xs : List A) (n : ℕ) → length xs ≤ n → take n xs ≡ xs
    take-all [] zero short = refl
    take-all [] (suc n) short = refl
    take-all (x ∷ xs) zero short = absurd (omega (arith, short))
    take-all (x ∷ xs) (suc n) short = ap (λ l. x ∷ l) (take-all xs n (omega (arith, short)))

-- the disks of nodes, one more node's last
disks_last : {D : Type 0} (nodes : Nodes D) (node : Node × D × D) → disks_in (nodes ++ node ∷ []) ≡ disks_in nodes ++ node.1 ∷ node.2 ∷ []
disks_last [] node = refl
disks_last (first ∷ nodes) node = ap (λ l. first.1 ∷ first.2 ∷ l) (disks_last nodes node)

-- the last node's disks go in front
pub last_back : {D : Type 0} (whole_nodes nodes : Nodes D) (node : Node × D × D) (disks back later : List D) → whole_nodes ≡ nodes ++ node ∷ [] → back ≡ node.2 ∷ disks → later ≡ node.1 ∷ back
    → disks_in nodes ++ later ≡ disks_in whole_nodes ++ disks
last_back whole_nodes nodes node disks back later is one two =
    ap (λ l. disks_in nodes ++ l) (two ∙ ap (λ l. node.1 ∷ l) one)
    ∙ sym (append_assoc (disks_in nodes) (node.1 ∷ node.2 ∷ []) disks)
    ∙ ap (λ l. l ++ disks) (sym (disks_last nodes node)) ∙ ap (λ l. disks_in l ++ disks) (sym is)

pub none_left : {D : Type 0} (nodes : Nodes D) (disks : List D) → length nodes ≡ 0 → disks_in nodes ++ disks ≡ disks
none_left [] disks none = refl
none_left (node ∷ nodes) disks none = absurd (omega (arith, none))
