use Rattle.std.proofs.Common.{◌≡◌, ◌∙◌, ap, rules}
use Rattle.std.specs.FinMap as maps
use Rattle.std.specs.Iterator.Adapters.{rev_source}
use Rattle.checker_tables.proofs.CopyLemmas.{all_copied, copied_more, none_copied}
use Rattle.checker_tables.proofs.writer_map.WriterMap.copy.Goals as goal

pub loop-number-init : goal.loop-number-init
loop-number-init c = none_copied _ c.new-copies.result c.new-copies.ensures

pub loop-number-preserved : goal.loop-number-preserved
loop-number-preserved c =
    let number = c.in-Some.number.now in
    let same : c.insert.new.self ≡ maps.insert c.loop-number.copies number c.in-Some.writer.now = c.in_ok-insert.ensures ∙ ap (maps.insert c.loop-number.copies number) c.in_ok-copy.ensures in
    copied_more _ _ _ c.loop-number.copies _ number c.in-Some.writer.now c.in-Some.ensures.steps same c.loop-number.invariant

pub returns : goal.returns
returns c =
    let given : rev_source c.into_iter-number-iterator.result ≡ c.self.inside.writers.entries = search rules in
    all_copied _ _ c.loop-number.copies c.loop-number.invariant c.in-None.ensures.steps.0 ∙ ap maps.from_entries given ∙ c.self.view_is
