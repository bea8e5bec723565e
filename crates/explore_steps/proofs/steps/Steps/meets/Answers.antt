use Rattle.std.proofs.Common.{◌≡◌, ◌∙◌, ◌<◌, ap, arith, lt-ltb, ltb-true}
use Rattle.explore_tables.specs.Numbers.{times}
use Rattle.explore_steps.specs.declared.deed.Deed.{Deed}
use Rattle.explore_steps.proofs.Numbers.{among, get_read}
use Rattle.explore_steps.proofs.steps.Steps.meets.Goals as goal

pub returns : goal.returns
returns c found there =
    let deed_is : c.index.result.now ≡ found = get_read c.args.self.now.deeds.items c.args.deed c.index.result.now found there c.index.ensures in
    let count : c.times.result ≡ times c.args.want found.meets.items = c.times.ensures ∙ ap (times c.args.want) (c.deref.ensures.value ∙ ap (λ (d : Deed). d.meets.items) deed_is) in
    let both = among c.args.want found.meets.items in (
      λ more. both.0 (let some : 0 < c.times.result = ltb-true 0 c.times.result more in omega (arith, count, some)),
      λ in_it. (let some : 0 < times c.args.want found.meets.items = both.1 in_it in lt-ltb 0 c.times.result (omega (arith, count, some))),
    )
