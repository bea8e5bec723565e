use Rattle.std.proofs.Common.{◌≡◌, ◌∙◌, ◌+◌, ◌-◌, Ok, Err, false, length, ap, arith, sym}
use Rattle.std.specs.Prelude.{OnOk, Result, is_err}
use Rattle.doc_shelf.specs.Shelf.{Shelf}
use Rattle.doc_shelf.proofs.ShelfLemmas.{none_of_front, one_less}
use Rattle.doc_shelf.proofs.shelf.Shelf.back.Goals as goal

went_well : {T E P : Type 0} (r : Result T E) → is_err r ≡ false → OnOk r P → P
went_well (Ok x) fine done = done
went_well (Err e) failed done = absurd (cc failed)

pub returns-then-is_err : goal.returns-then-is_err
returns-then-is_err c log front =
    let none : length c.clear.new.self.before ≡ 0 = ap (λ (s : Shelf). length s.before) c.clear.ensures in
    (none_of_front log c.clear.new.self c.clear.ensures, omega (arith, none, c.requires))

pub returns-else-is_err : goal.returns-else-is_err
returns-else-is_err c log front =
    let old = c.args.self.now in
    let at : length old.before - 1 + 1 ≡ length old.before = omega (arith, c.requires) in
    let less = one_less log old c.take_back.new.self (length old.before - 1) front at
    (λ shelf entry made. went_well c.take_back.result (sym c.is_err.ensures.value ∙ c.if-is_err.false) (c.take_back.ensures shelf entry made)) in
    (less.0, omega (arith, less.1, at))
