use Rattle.std.proofs.Common.{◌∙◌, ap, not}
use Rattle.version_store.proofs.HistoryLemmas.{unseen_none, unseen_deletion, unseen_before}
use Rattle.version_store.proofs.history.count_unseen.Goals as goal

pub returns-in_default-clause-rest : goal.returns-in_default-clause-rest
returns-in_default-clause-rest c =
    unseen_none c.args.at c.args.versions.now c.count_up_to-count.result c.count_up_to-count.ensures.up_to c.count_up_to-count.ensures.later_than c.in_default.ensures

pub returns-then-is_none-clause-rest : goal.returns-then-is_none-clause-rest
returns-then-is_none-clause-rest c =
    unseen_deletion c.args.at c.args.versions.now c.count_up_to-count.result c.in-Some.newest.now c.count_up_to-count.ensures.up_to c.count_up_to-count.ensures.later_than
    c.in-Some.ensures (c.is_none.ensures ∙ ap not c.if-is_none.true)

pub returns-clause-rest : goal.returns-clause-rest
returns-clause-rest c =
    unseen_before c.args.at c.args.versions.now c.count_up_to-count.result c.in-Some.newest.now c.count_up_to-count.ensures.within
    c.count_up_to-count.ensures.up_to c.count_up_to-count.ensures.later_than c.in-Some.ensures (c.is_none.ensures ∙ ap not c.if-is_none.false)
