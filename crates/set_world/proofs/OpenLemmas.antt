-- The set when it begins: its configuration's members, and its nodes, one after another.
use Rattle.std.proofs.Common.{◌≡◌, ◌∙◌, ◌+◌, ◌≤◌, slice_get, None, Some, ap, sym, subst, refl, arith, ℕ, zero, suc, List, [], ◌∷◌, ◌++◌}
use Rattle.member_config.specs.declared.config.Config.{Config}
use Rattle.member_config.specs.declared.config.Member.{Member}
use Rattle.std.specs.Prelude.{All}
use Rattle.member_config.specs.Config.{first_config, first_member, members_from}
use Rattle.member_config.specs.Rule.{rule}
use Rattle.set_model.specs.Node.{Node, opening_node}
use Rattle.set_model.specs.Run.{Sizes, AreSizes}
use Rattle.set_model.specs.World.{nodes_from}
use Rattle.safety_laws.specs.Bounds.{ConfigsAreLawful}
use Rattle.safety_laws.specs.Laws.{InEveryRun}
use Rattle.set_world.specs.Pool.{Pool}
use Rattle.set_world.specs.World.{IsStanding, nodes_in}

members_last : (voters first count : ℕ) → members_from voters first (suc count) ≡ members_from voters first count ++ first_member voters (first + count) ∷ []
members_last voters first zero = ap (λ n. first_member voters n ∷ []) (let same : first ≡ first + 0 = omega arith in same)
members_last voters first (suc count) = ap (λ l. first_member voters first ∷ l)
    (members_last voters (first + 1) count ∙ ap (λ n. members_from voters (first + 1) count ++ first_member voters n ∷ []) (let same : first + 1 + count ≡ first + suc count = omega arith in same))

pub members_more : (voters count : ℕ) (old new : List Member) → old ≡ members_from voters 0 count → new ≡ old ++ first_member voters count ∷ [] → new ≡ members_from voters 0 (count + 1)
members_more voters count old new is more =
    more ∙ ap (λ l. l ++ first_member voters count ∷ []) is ∙ ap (λ n. members_from voters 0 count ++ first_member voters n ∷ []) (let same : count ≡ 0 + count = omega arith in same)
    ∙ sym (members_last voters 0 count) ∙ ap (λ n. members_from voters 0 n) (let same : suc count ≡ count + 1 = omega arith in same)

nodes_last : (config : Config) (first count : ℕ) → nodes_from config first (suc count) ≡ nodes_from config first count ++ opening_node config (first + count) ∷ []
nodes_last config first zero = ap (λ n. opening_node config n ∷ []) (let same : first ≡ first + 0 = omega arith in same)
nodes_last config first (suc count) =
    ap (λ l. opening_node config first ∷ l) (nodes_last config (first + 1) count ∙ ap (λ n. nodes_from config (first + 1) count ++ opening_node config n ∷ []) (let same : first + 1 + count ≡ first + suc count = omega arith in same))

nodes_after : {D : Type 0} (nodes : List (Node × D × D)) (node : Node × D × D) → nodes_in (nodes ++ node ∷ []) ≡ nodes_in nodes ++ node.0 ∷ []
nodes_after [] node = refl
nodes_after (first ∷ nodes) node = ap (λ l. first.0 ∷ l) (nodes_after nodes node)

pub nodes_more : {D : Type 0} (config : Config) (count : ℕ) (old new : List (Node × D × D)) (node : Node × D × D) → nodes_in old ≡ nodes_from config 0 count → new ≡ old ++ node ∷ []
    → node.0 ≡ opening_node config count → nodes_in new ≡ nodes_from config 0 (count + 1)
nodes_more config count old new node is more opened =
    ap nodes_in more ∙ nodes_after old node ∙ ap (λ l. l ++ node.0 ∷ []) is ∙ ap (λ n. nodes_from config 0 count ++ n ∷ []) opened
    ∙ ap (λ n. nodes_from config 0 count ++ opening_node config n ∷ []) (let same : count ≡ 0 + count = omega arith in same) ∙ sym (nodes_last config 0 count)
    ∙ ap (λ n. nodes_from config 0 n) (let same : suc count ≡ count + 1 = omega arith in same)

-- the set as it begins stands
pub begins : (sizes : Sizes) (nodes : List Node) (pool : Pool) → AreSizes sizes → nodes ≡ nodes_from (first_config sizes.voters sizes.members) 0 sizes.nodes → pool.nodes ≡ sizes.nodes → pool.messages ≡ []
    → IsStanding sizes [] nodes pool
begins sizes nodes pool are opened size none = record {
  reached = record {
    sizes_are = are;
    defined = tt;
    world = λ i. record { nodes = sym opened i; messages = sym none i };
    short = omega arith;
  };
  size = size;
}

-- no rule is broken by the configuration that a set begins with
pub first_rule : InEveryRun ConfigsAreLawful → (sizes : Sizes) → AreSizes sizes → rule (first_config sizes.voters sizes.members) ≡ None
first_rule law sizes are = ((law sizes [] are tt).nodes 0 0 (opening_node (first_config sizes.voters sizes.members) 0) (there sizes.nodes some)).first.rules
  where
    some : 1 ≤ sizes.nodes
    some = let one : 1 ≤ sizes.voters = are.one in let voting : sizes.voters ≤ sizes.members = are.voting in let within : sizes.members ≤ sizes.nodes = are.within in omega (arith, one, voting, within)

    there : (count : ℕ) → 1 ≤ count → slice_get (nodes_from (first_config sizes.voters sizes.members) 0 count) 0 ≡ Some (opening_node (first_config sizes.voters sizes.members) 0)
    there zero none = absurd (omega (arith, none))
    there (suc count) more = refl

pub all_after : {A : Type 0} (P : A → Type 0) (xs ys : List A) (x y : A) → xs ≡ x ∷ y ∷ ys → All P xs → All P ys
all_after P xs ys x y is each k d within = (subst (λ l. All P l) is each) (suc (suc k)) d (omega (arith, within))
