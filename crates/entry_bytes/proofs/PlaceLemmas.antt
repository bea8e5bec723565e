-- Fields by their places.
use Rattle.std.proofs.Common.{◌≡◌, ◌≤◌, ◌+◌, ℕ, zero, suc, List, ap, sym, ◌∙◌, add-one, arith}
use Rattle.bson_doc.specs.Tree.{Tree, Fields, no_fields, field, count, fields_from}
use Rattle.bson_doc.proofs.DocLemmas.{fields_from-zero, fields_from-end}

pub ruleset places = (fields_from-zero, fields_from-end)

-- how many fields there are, where one stands at a place
pub count-from : (d : Fields) (place : ℕ) (name : List ℕ) (value : Tree) (rest : Fields) → fields_from place d ≡ field name value rest → count d ≡ place + 1 + count rest
count-from no_fields place name value rest here = cc
count-from (field first one others) zero name value rest here =
    let same : others ≡ rest = cc in omega (arith, ap count same)
count-from (field first one others) (suc place) name value rest here =
    omega (arith, count-from others place name value rest here)

-- how many there are at most, where none stands at a place
pub count-none : (d : Fields) (place : ℕ) → fields_from place d ≡ no_fields → count d ≤ place
count-none no_fields place none = omega arith
count-none (field first one others) zero none = cc
count-none (field first one others) (suc place) none = omega (arith, count-none others place none)

-- what follows a field
pub fields_from-next : (d : Fields) (place : ℕ) (name : List ℕ) (value : Tree) (rest : Fields) → fields_from place d ≡ field name value rest → fields_from (place + 1) d ≡ rest
fields_from-next no_fields place name value rest here = cc
fields_from-next (field first one others) zero name value rest here = fields_from-zero others ∙ same here
  where
    same : field first one others ≡ field name value rest → others ≡ rest
    same here = cc
fields_from-next (field first one others) (suc place) name value rest here =
    ap (λ n. fields_from n (field first one others)) (add-one (suc place))
    ∙ ap (λ n. fields_from n others) (sym (add-one place))
    ∙ fields_from-next others place name value rest here
