-- The words that ask for a linear read.
--
--     NODE COLLECTION ID    what the set shows of a document
--
-- NODE is `n` and a number of one or two digits. ID is one value in the notation of documents, which doesn't
-- begin with `-`.
use Rattle.std.specs.Prelude.{ℕ, ◌==◌, List, [], ◌∷◌, length, Option, None, Some, Result, Ok, Err, if◌then◌else◌}
use Rattle.bson_doc.specs.Tree.{Tree}
use Rattle.bson_doc.specs.declared.doc.Value.{Value}
use Rattle.change_words.specs.Asked.{node_of}
use Rattle.doc_text.specs.Values.{answer_at}
use Rattle.doc_text.specs.declared.errors.TextError.{TextError}
use Rattle.script_words.specs.Values.{value_of}
use Rattle.set_model.specs.Limits.{is_collection}
use Rattle.linear_words.specs.declared.asked.Linear.{Linear}

abbrev pub collection_of : List ℕ → Option (List ℕ)
collection_of word = if is_collection word then Some word else None

-- a value that ends here
abbrev pub if_ends : ℕ → Result (Tree × ℕ) TextError → Option Value
if_ends end (Ok value) = if value.1 == end then Some (value_of value.0) else None
if_ends end (Err error) = None

-- the value that the whole word spells
abbrev pub whole_value : List ℕ → Option Value
whole_value word = if_ends (length word) (answer_at word 0)

abbrev pub id_of : List ℕ → Option Value
id_of [] = None
id_of (first ∷ others) = if first == 45 then None else whole_value (first ∷ others)

abbrev pub with_all : Option ℕ → Option (List ℕ) → Option Value → Option Linear
with_all (Some node) (Some collection) (Some id) =
    Some (record { node = node; collection = collection; id = id })
with_all (Some node) (Some collection) None = None
with_all (Some node) None id = None
with_all None collection id = None

abbrev pub linear_of : (node collection id : List ℕ) → Option Linear
linear_of node collection id = with_all (node_of node) (collection_of collection) (id_of id)
