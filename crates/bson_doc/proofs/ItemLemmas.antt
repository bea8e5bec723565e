-- Items, one after another.
use Rattle.std.proofs.Common.{◌≡◌, refl, ap}
use Rattle.bson_doc.specs.Tree.{Tree, Trees, no_items, item, with_item}

abbrev pub both_items : Trees → Trees → Trees
both_items no_items later = later
both_items (item value rest) later = item value (both_items rest later)

pub both_items-nothing : (a : Trees) → both_items a no_items ≡ a
both_items-nothing no_items = refl
both_items-nothing (item value rest) = ap (λ r. item value r) (both_items-nothing rest)

pub both_items-with_item : (a : Trees) (value : Tree) (later : Trees) → both_items (with_item a value) later ≡ both_items a (item value later)
both_items-with_item no_items value later = refl
both_items-with_item (item first rest) value later = ap (λ r. item first r) (both_items-with_item rest value later)
