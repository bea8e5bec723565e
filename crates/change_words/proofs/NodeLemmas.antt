-- The nodes that words name, one after another.
use Rattle.std.proofs.Common.{ℕ, zero, suc, ◌≡◌, ◌<◌, List, [], ◌∷◌, ◌++◌, length, drop, get_or, Option, None, Some, String, refl, ap, sym, arith, ◌∙◌, append_assoc}
use Rattle.std.specs.Prelude.{map, string_bytes}
use Rattle.std.specs.declared.alloc.Global.{Global}
use Rattle.std.proofs.lemmas.List.{append-nil}
use Rattle.change_words.specs.Asked.{node_of, nodes_of, with_node}

-- these nodes, and then those of the words that follow
abbrev pub after : List ℕ → Option (List ℕ) → Option (List ℕ)
after nodes (Some others) = Some (nodes ++ others)
after nodes None = None

abbrev pub named : List (String Global) → Option (List ℕ)
named words = nodes_of (map string_bytes words)

pub after_none : (all : Option (List ℕ)) → all ≡ after [] all
after_none (Some nodes) = refl
after_none None = refl

rest_at : (words : List (String Global)) (i : ℕ) (word : String Global) → i < length words → word ≡ get_or words i word → drop i words ≡ word ∷ drop (suc i) words
rest_at [] i word within is = absurd (omega arith)
rest_at (first ∷ words) zero word within is = ap (λ (w : String Global). w ∷ words) (sym is)
rest_at (first ∷ words) (suc i) word within is = rest_at words i word (omega arith) is

-- one node more
pub node_more : (words : List (String Global)) (i : ℕ) (word : String Global) (nodes : List ℕ) (node : ℕ) → i < length words → word ≡ get_or words i word → Some node ≡ node_of (string_bytes word)
    → after nodes (named (drop i words)) ≡ after (nodes ++ node ∷ []) (named (drop (suc i) words))
node_more words i word nodes node within is known =
    ap (λ (ws : List (String Global)). after nodes (named ws)) (rest_at words i word within is)
    ∙ ap (λ (n : Option ℕ). after nodes (with_node n (named (drop (suc i) words)))) (sym known) ∙ more (named (drop (suc i) words))
  where
    more : (others : Option (List ℕ)) → after nodes (with_node (Some node) others) ≡ after (nodes ++ node ∷ []) others
    more (Some others) = ap Some (sym (append_assoc nodes (node ∷ []) others))
    more None = refl

-- a word that names none
pub no_node : (words : List (String Global)) (i : ℕ) (word : String Global) (nodes : List ℕ) → i < length words → word ≡ get_or words i word → None ≡ node_of (string_bytes word)
    → after nodes (named (drop i words)) ≡ None
no_node words i word nodes within is none =
    ap (λ (ws : List (String Global)). after nodes (named ws)) (rest_at words i word within is) ∙ ap (λ (n : Option ℕ). after nodes (with_node n (named (drop (suc i) words)))) (sym none)

-- after the last word
pub all_nodes : (words : List (String Global)) (i : ℕ) (nodes : List ℕ) → i ≡ length words → after nodes (named (drop i words)) ≡ Some nodes
all_nodes [] i nodes is = ap (λ (n : ℕ). after nodes (named (drop n []))) is ∙ ap Some (append-nil nodes)
all_nodes (word ∷ words) zero nodes is = absurd (omega arith)
all_nodes (word ∷ words) (suc i) nodes is = all_nodes words i nodes (omega arith)
