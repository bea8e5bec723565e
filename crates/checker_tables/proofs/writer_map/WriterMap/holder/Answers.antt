use Rattle.std.proofs.Common.{◌≡◌, ◌∙◌, None, Some, false, subst, sym}
use Rattle.std.specs.FinMap as maps
use Rattle.std.specs.Ordering.{nat_cmp}
use Rattle.set_model.specs.Holds.{holds}
use Rattle.set_model.specs.declared.writer.Writer.{Writer}
use Rattle.checker_tables.specs.Holding.{Holders, LeadToAll}
use Rattle.checker_tables.proofs.HoldingLemmas.{first_led, led_astray, led_to_none}
use Rattle.checker_tables.proofs.writer_map.WriterMap.holder.Goals as goal

abbrev Writers : Type 0
Writers = maps.FinMap nat_cmp Writer

pub returns-in_default-get : goal.returns-in_default-get
returns-in_default-get c =
    let writers = c.args.self.now in
    let all : LeadToAll (Some c.in-Some.holders) writers =
    subst (λ (w : Writers). LeadToAll (Some c.in-Some.holders) w) c.self.view_is
    (subst (λ (h : Holders). LeadToAll h (maps.from_entries c.self.inside.writers.entries)) c.in-Some.is c.self.invariant) in
    sym (led_to_none c.in-Some.holders writers c.args.place.now all (sym c.in_default-get.ensures.value))

pub returns-in_default-get-2 : goal.returns-in_default-get-2
returns-in_default-get-2 c =
    let writers = c.args.self.now in
    let number = c.in-Some-get.number.now in
    let all : LeadToAll (Some c.in-Some.holders) writers =
    subst (λ (w : Writers). LeadToAll (Some c.in-Some.holders) w) c.self.view_is
    (subst (λ (h : Holders). LeadToAll h (maps.from_entries c.self.inside.writers.entries)) c.in-Some.is c.self.invariant) in
    let none : maps.get writers number ≡ None = sym c.in_default-get-2.ensures in
    sym (led_astray c.in-Some.holders writers c.args.place.now number all (sym c.in-Some-get.ensures.value) (λ has. cc (none, has.1)))

pub returns-then-branch : goal.returns-then-branch
returns-then-branch c =
    let writers = c.args.self.now in
    let number = c.in-Some-get.number.now in
    let all : LeadToAll (Some c.in-Some.holders) writers =
    subst (λ (w : Writers). LeadToAll (Some c.in-Some.holders) w) c.self.view_is
    (subst (λ (h : Holders). LeadToAll h (maps.from_entries c.self.inside.writers.entries)) c.in-Some.is c.self.invariant) in
    sym (first_led c.in-Some.holders writers c.args.place.now number c.in-Some-get-2.writer.now all (sym c.in-Some-get.ensures.value)
    (sym c.in-Some-get-2.ensures) (sym c.in_ok-holds.ensures ∙ c.if-branch.true))

pub returns : goal.returns
returns c =
    let writers = c.args.self.now in
    let number = c.in-Some-get.number.now in
    let all : LeadToAll (Some c.in-Some.holders) writers =
    subst (λ (w : Writers). LeadToAll (Some c.in-Some.holders) w) c.self.view_is
    (subst (λ (h : Holders). LeadToAll h (maps.from_entries c.self.inside.writers.entries)) c.in-Some.is c.self.invariant) in
    let here : maps.get writers number ≡ Some c.in-Some-get-2.writer.now = sym c.in-Some-get-2.ensures in
    let free : holds c.in-Some-get-2.writer.now c.args.place.now ≡ false = sym c.in_ok-holds.ensures ∙ c.if-branch.false in
    sym (led_astray c.in-Some.holders writers c.args.place.now number all (sym c.in-Some-get.ensures.value) (λ has. cc (here, has.1, has.2, free)))
