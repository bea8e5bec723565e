-- Where a document is: its collection and its key.
use Rattle.std.specs.Prelude.{ℕ, List}
use Rattle.std.specs.Ordering.{then_cmp, on, nat_cmp}
use Rattle.std.specs.Cmp.Lexicographic.{slice_cmp}
use Rattle.std.specs.declared.cmp.Ordering.{Ordering}
use Rattle.bson_doc.specs.declared.key.IdKey.{IdKey}
use Rattle.bson_doc.specs.Key.{key_cmp}

abbrev pub Place : Type 0
Place = List ℕ × IdKey

-- by the bytes of the collection's name, then by key
abbrev pub place_cmp : Place → Place → Ordering
place_cmp = then_cmp (on (λ p. p.0) (slice_cmp nat_cmp)) (on (λ p. p.1) key_cmp)
