use Rattle.std.proofs.Common.{◌≡◌, ◌∙◌, [], ap, arith, refl, rules}
use Rattle.checks_sync.specs.Noops.{noops}
use Rattle.checks_sync.proofs.NoopLemmas.{pinned_so}
use Rattle.checks_sync.proofs.noops.noops.Goals as goal

pub returns : goal.returns
returns c =
    let all : c.loop-before.before ≡ c.args.count = omega (arith, c.loop-before-test.false, c.loop-before.auto.before-end) in
    let none : c.new.result.items ≡ [] = search rules in
    pinned_so (record { term = c.args.term; at = record { term = 1; ts = c.args.count }; entries = c.loop-before.entries; documents = c.new.result })
    c.args.count c.requires.some (omega (arith, c.requires.few)) (c.loop-before.invariant ∙ ap noops all) refl none
