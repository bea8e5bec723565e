use Rattle.std.proofs.Common.{◌∷◌}
use Rattle.doc_text.proofs.Numerals.{integer_plain, integer_minus, minus_parts, front_at, back_at, boundary_at}
use Rattle.doc_text.proofs.integers.integer.Goals as goal

pub returns-in_default-clause-gives : goal.returns-in_default-clause-gives
returns-in_default-clause-gives c = rw (integer_plain c.args.text.now c.in_default.ensures) c.digits.ensures.gives

pub split_at-requires : goal.split_at-requires
split_at-requires c =
    let parts = minus_parts c.args.text.now c.in-Some.unsigned.now c.in_ok-rest.field-0-0.now c.in_ok-rest.rest.now c.in-Some.ensures c.in_ok-rest.ensures.gives in
    boundary_at c.args.text.now c.in_ok-rest.field-0-0.now c.in_ok-rest.rest.now parts c.in_ok-rest.ensures.numeral.1 c.utf8.text

pub returns-clause-gives : goal.returns-clause-gives
returns-clause-gives c =
    let parts = minus_parts c.args.text.now c.in-Some.unsigned.now c.in_ok-rest.field-0-0.now c.in_ok-rest.rest.now c.in-Some.ensures c.in_ok-rest.ensures.gives in
    let front = front_at c.args.text.now (45 ∷ c.in_ok-rest.field-0-0.now) c.in_ok-rest.rest.now parts in
    let back = back_at c.args.text.now (45 ∷ c.in_ok-rest.field-0-0.now) c.in_ok-rest.rest.now parts in
    let read = integer_minus c.args.text.now c.in-Some.unsigned.now c.in_ok-rest.field-0-0.now c.in_ok-rest.rest.now c.in-Some.ensures c.in_ok-rest.ensures.gives in
    rw (c.split_at.ensures.front, c.split_at.ensures.back, front, back) read

pub returns-clause-numeral : goal.returns-clause-numeral
returns-clause-numeral c =
    let parts = minus_parts c.args.text.now c.in-Some.unsigned.now c.in_ok-rest.field-0-0.now c.in_ok-rest.rest.now c.in-Some.ensures c.in_ok-rest.ensures.gives in
    let front = front_at c.args.text.now (45 ∷ c.in_ok-rest.field-0-0.now) c.in_ok-rest.rest.now parts in
    rw (c.split_at.ensures.front, front) c.in_ok-rest.ensures.numeral
