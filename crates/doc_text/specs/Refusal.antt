-- Where a text is refused, no continuation has a value.
use Rattle.std.specs.Prelude.{◌≡◌, ℕ, ◌+◌, ◌<◌, List, length, take}
use Rattle.bson_doc.specs.Tree.{Tree}
use Rattle.doc_text.specs.declared.errors.TextError.{TextError}
use Rattle.doc_text.specs.declared.errors.TextError.TheVariants as errors
use Rattle.doc_text.specs.Spelling.{Stands}

-- No text that is the same up to and including the byte at a place has a value where this one has none.
abbrev pub BeginsNoValue : List ℕ → ℕ → ℕ → Type 0
BeginsNoValue text at place =
    (other : List ℕ) (tree : Tree) (end : ℕ) → place < length text
    → take (place + 1) other ≡ take (place + 1) text → ¬ Stands other at tree end

-- What a refusal says about every text that is the same that far. A number out of range and a duplicate name
-- are refused once they are read whole, but at their first byte, with which others begin too.
abbrev pub RulesOut : List ℕ → ℕ → TextError → Type 0
RulesOut text at (errors.Unexpected place) = BeginsNoValue text at place
RulesOut text at (errors.Escape place) = BeginsNoValue text at place
RulesOut text at (errors.Hex place) = BeginsNoValue text at place
RulesOut text at (errors.TooDeep place) = BeginsNoValue text at place
RulesOut text at (errors.NameZero place) = BeginsNoValue text at place
RulesOut text at (errors.Number place) = Unit {0}
RulesOut text at (errors.DuplicateName place) = Unit {0}
RulesOut text at errors.Memory = Unit {0}
