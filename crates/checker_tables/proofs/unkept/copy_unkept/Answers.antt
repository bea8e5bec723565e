use Rattle.std.proofs.Common.{◌≡◌, ◌∙◌, ap, arith, length, rules, sym, take}
use Rattle.checker_tables.proofs.RunLemmas.{unkept_passed}
use Rattle.checker_tables.proofs.UnkeptLemmas.{none_unkept, unkept_full}
use Rattle.checker_tables.proofs.unkept.copy_unkept.Goals as goal

pub loop-place-init : goal.loop-place-init
loop-place-init c = (
  c.new-found.ensures.items ∙ sym (none_unkept c.args.kept.now.entries (take c.args.count c.args.log.now.entries) c.requires.there),
  omega (arith, ap length c.new-found.ensures.items),
  c.requires.within,
)

pub returns-then-len-most : goal.returns-then-len-most
returns-then-len-most c =
    let full : length c.loop-place.found.items ≡ c.args.most = search rules in
    unkept_full c.args.log.now.entries c.args.kept.now.entries c.loop-place.found.items c.loop-place.place c.args.most c.loop-place.invariant.0 full

pub loop-place-preserved-then-passed-gt0 : goal.loop-place-preserved-then-passed-gt0
loop-place-preserved-then-passed-gt0 c = (
  unkept_passed c.loop-place.place c.next_kept-passed.result c.args.log.now.entries c.args.kept.now.entries c.loop-place.found.items c.next_kept-passed.ensures.there c.loop-place.invariant.0,
  c.loop-place.invariant.1,
  c.next_kept-passed.ensures.within,
)
