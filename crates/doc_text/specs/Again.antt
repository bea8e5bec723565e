-- The text that was written for a value is read back.
use Rattle.std.specs.Prelude.{◌≡◌, ℕ, ◌≤◌, List, ◌++◌, length, Ok}
use Rattle.bson_doc.specs.Length.{value_levels}
use Rattle.bson_doc.specs.Tree.{Tree}
use Rattle.doc_text.specs.Values.{answer_at}
use Rattle.doc_text.specs.Spelling.{EndsThere}

-- After the old text, the new one has the value, of at most 100 levels, whatever follows, unless that
-- continues a number.
abbrev pub IsReadAgain : List ℕ → List ℕ → Tree → Type 0
IsReadAgain old new tree =
    (after : List ℕ) → value_levels tree ≤ 100 → EndsThere tree after
    → answer_at (new ++ after) (length old) ≡ Ok (tree, length new)
