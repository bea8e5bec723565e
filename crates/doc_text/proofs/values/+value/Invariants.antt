use Rattle.std.proofs.Common.{◌≡◌, ℕ, ◌+◌, ◌*◌, ◌<◌, length}
use denote.Shadow.{shadow}
use denote.Text.{Utf8}
use Rattle.doc_text.specs.Values.{field_at, item_at, members_at, document_at, array_at, value_at}
use Rattle.doc_text.proofs.values.+value.Given as goal

abbrev pub decreases-array : goal.decreases-array
decreases-array l = 2 * l.levels + 2

abbrev pub decreases-document : goal.decreases-document
decreases-document l = 2 * l.levels + 2

abbrev pub decreases-value : goal.decreases-value
decreases-value l = 2 * l.levels + 1

-- what was read, and what is still read, make the whole array
abbrev pub invariant-array-loop-items : goal.invariant-array-loop-items
invariant-array-loop-items l =
    shadow (Utf8 l.rest) × (length l.rest < length l.text)
    × ((most : ℕ) × (length l.rest < most) × (members_at (item_at (value_at l.levels)) 93 most l.items l.rest ≡ array_at (value_at l.levels) l.text))

abbrev pub decreases-array-loop-items : goal.decreases-array-loop-items
decreases-array-loop-items l = length l.rest

-- what was read, and what is still read, make the whole document
abbrev pub invariant-document-loop-fields : goal.invariant-document-loop-fields
invariant-document-loop-fields l =
    shadow (Utf8 l.rest) × (length l.rest < length l.text)
    × ((most : ℕ) × (length l.rest < most) × (members_at (field_at (value_at l.levels)) 125 most l.fields l.rest ≡ document_at (value_at l.levels) l.text))

abbrev pub decreases-document-loop-fields : goal.decreases-document-loop-fields
decreases-document-loop-fields l = length l.rest
