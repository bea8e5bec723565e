use Rattle.std.proofs.Common.{◌∙◌, ◌+◌, ap, length, subst, sym, List}
use Rattle.explore_tables.specs.declared.kept.KeptNumber.{KeptNumber}
use Rattle.explore_steps.specs.Keeping.{AreEmpty}
use Rattle.explore_steps.proofs.Keeping.{empty_more}
use Rattle.oplog_store.proofs.PlaceLemmas.{last_length}
use Rattle.explore_steps.proofs.steps.tables.Goals as goal

pub loop-place-preserved : goal.loop-place-preserved
loop-place-preserved c = record {
  count = ap length c.in_ok-push.ensures.items ∙ last_length c.loop-place.tables.items c.new.result ∙ ap (λ n. n + 1) c.loop-place.invariant.count;
  none = subst (λ (l : List (List KeptNumber)). AreEmpty l) (sym c.in_ok-push.ensures.items)
      (empty_more c.loop-place.tables.items c.new.result c.new.ensures c.loop-place.invariant.none);
}
