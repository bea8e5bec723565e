use Rattle.std.proofs.Common.{◌≡◌, ◌+◌, ◌*◌, ◌-◌, length}
use Rattle.bson_doc.specs.Tree.{no_fields, no_items}
use Rattle.bson_codec.specs.Reading.{fields_in, items_in, inner_at}
use Rattle.bson_codec.proofs.reading.+read.Given as goal

abbrev pub decreases-fields_of : goal.decreases-fields_of
decreases-fields_of l = 4 * l.levels + 3

abbrev pub decreases-items_of : goal.decreases-items_of
decreases-items_of l = 4 * l.levels + 3

abbrev pub decreases-field_of : goal.decreases-field_of
decreases-field_of l = 4 * l.levels + 2

abbrev pub decreases-item_of : goal.decreases-item_of
decreases-item_of l = 4 * l.levels + 2

abbrev pub decreases-value_of : goal.decreases-value_of
decreases-value_of l = 4 * l.levels + 1

abbrev pub decreases-inner_of : goal.decreases-inner_of
decreases-inner_of l = 4 * l.levels

abbrev pub invariant-fields_of-loop : goal.invariant-fields_of-loop
invariant-fields_of-loop l =
    fields_in (length l.bytes - l.counter) (inner_at l.levels) l.fields l.rest ≡ fields_in (length l.bytes) (inner_at l.levels) no_fields l.bytes

abbrev pub invariant-items_of-loop-place : goal.invariant-items_of-loop-place
invariant-items_of-loop-place l =
    items_in (length l.bytes - l.place) (inner_at l.levels) l.place l.items l.rest ≡ items_in (length l.bytes) (inner_at l.levels) 0 no_items l.bytes
