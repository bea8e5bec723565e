use Rattle.std.proofs.Common.{◌≡◌, ◌∙◌, ℕ, Bool, List, Some, false, cond, ap, sym, rules}
use Rattle.std.specs.FinMap.{FinMap, entries}
use Rattle.std.specs.Ordering.{nat_cmp}
use Rattle.set_model.specs.Holds.{holder_among, holds}
use Rattle.set_model.specs.declared.writer.Writer.{Writer}
use Rattle.checker_tables.proofs.ListedLemmas.{pairs_listed}
use Rattle.checker_tables.proofs.writer_map.WriterMap.first_holder.Goals as goal

pub loop-number-init : goal.loop-number-init
loop-number-init c =
    let given : c.into_iter-number-iterator.result ≡ c.self.inside.writers.entries = search rules in
    let listed : c.into_iter-number-iterator.result ≡ entries c.args.self.now =
    given ∙ sym (pairs_listed c.self.inside.writers.entries c.into_iter-number-iterator.ensures.into_iter_gives.5) ∙ ap (λ (w : FinMap nat_cmp Writer). entries w) c.self.view_is in
    ap (λ (es : List (ℕ × Writer)). holder_among es c.args.place.now) listed

pub loop-number-preserved : goal.loop-number-preserved
loop-number-preserved c =
    let rest = c.next.new.self in
    let place = c.args.place.now in
    let free : holds c.in-Some.writer.now place ≡ false = sym c.in_ok-holds.ensures ∙ c.if-branch.false in
    sym (ap (λ (es : List (ℕ × Writer)). holder_among es place) c.in-Some.ensures.steps
    ∙ ap (λ (b : Bool). cond b (Some c.in-Some.number.now) (holder_among rest place)) free)
    ∙ c.loop-number.invariant
