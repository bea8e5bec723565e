-- The words that ask for the changes of a collection.
--
--     COLLECTION TOKEN NODE..    what nodes have after a token
--
-- TOKEN is a resume token, or `start`: before all entries. There are 1 to 50 nodes, each `n` and a number of
-- one or two digits.
use Rattle.std.specs.Prelude.{ℕ, ◌*◌, ◌+◌, ◌-◌, ◌==◌, ◌&&◌, nat_le, List, [], ◌∷◌, length, Option, None, Some, codes, if◌then◌else◌}
use Rattle.std.specs.Char.{is_ascii_digit}
use Rattle.std.specs.Str.{bytes_eq}
use Rattle.rs_optime.specs.declared.optime.OpTime.{OpTime}
use Rattle.oplog_entry.specs.Visible.{ZERO}
use Rattle.set_model.specs.Limits.{is_collection}
use Rattle.change_words.specs.declared.asked.Watch.{Watch}
use Rattle.change_words.specs.Tokens.{token_of}

abbrev pub start_of : List ℕ → Option OpTime
start_of word = if bytes_eq word (codes "start") then Some ZERO else token_of word

abbrev pub digit_of : ℕ → Option ℕ
digit_of byte = if is_ascii_digit byte then Some (byte - 48) else None

abbrev pub tens : Option ℕ → Option ℕ → Option ℕ
tens (Some ten) (Some one) = Some (ten * 10 + one)
tens (Some ten) None = None
tens None one = None

-- `n`, and one or two digits
abbrev pub node_of : List ℕ → Option ℕ
node_of [] = None
node_of (letter ∷ []) = None
node_of (letter ∷ one ∷ []) = if letter == 110 then digit_of one else None
node_of (letter ∷ ten ∷ one ∷ []) = if letter == 110 then tens (digit_of ten) (digit_of one) else None
node_of (letter ∷ ten ∷ one ∷ more ∷ others) = None

abbrev pub with_node : Option ℕ → Option (List ℕ) → Option (List ℕ)
with_node (Some node) (Some nodes) = Some (node ∷ nodes)
with_node (Some node) None = None
with_node None nodes = None

abbrev pub nodes_of : List (List ℕ) → Option (List ℕ)
nodes_of [] = Some []
nodes_of (word ∷ words) = with_node (node_of word) (nodes_of words)

abbrev pub with_nodes : List ℕ → Option OpTime → Option (List ℕ) → Option Watch
with_nodes collection (Some token) (Some nodes) =
    Some (record { collection = collection; token = token; nodes = nodes })
with_nodes collection (Some token) None = None
with_nodes collection None nodes = None

abbrev pub watch_of : (collection token : List ℕ) → (nodes : List (List ℕ)) → Option Watch
watch_of collection token nodes =
    if is_collection collection && (nat_le 1 (length nodes) && nat_le (length nodes) 50)
    then with_nodes collection (start_of token) (nodes_of nodes)
    else None
