-- Values that are the same are equal.
use Rattle.std.proofs.Common.{◌≡◌, ◌≢◌, ◌+◌, false, refl, arith, ap}
use Rattle.bson_doc.specs.Tree.{Fields, no_fields, field, Trees, no_items, item, count, items_count}
use Rattle.bson_doc.proofs.DocLemmas.{fields_from-zero, fields_from-end, trees_from-zero, trees_from-end}
use Rattle.bson_doc.specs.Same.{same_fields, same_items}

-- documents of other lengths aren't the same
pub same_fields-count : (a b : Fields) → count a ≢ count b → same_fields a b ≡ false
same_fields-count no_fields no_fields apart = absurd (apart refl)
same_fields-count no_fields (field m w b) apart = refl
same_fields-count (field n v a) no_fields apart = refl
same_fields-count (field n v a) (field m w b) apart =
    let rest = same_fields-count a b (λ e. apart (ap (λ k. 1 + k) e)) in grind arith

pub same_items-count : (a b : Trees) → items_count a ≢ items_count b → same_items a b ≡ false
same_items-count no_items no_items apart = absurd (apart refl)
same_items-count no_items (item w b) apart = refl
same_items-count (item v a) no_items apart = refl
same_items-count (item v a) (item w b) apart =
    let rest = same_items-count a b (λ e. apart (ap (λ k. 1 + k) e)) in grind arith

pub ruleset sameness = (fields_from-zero, fields_from-end, trees_from-zero, trees_from-end, same_fields-count, same_items-count)
