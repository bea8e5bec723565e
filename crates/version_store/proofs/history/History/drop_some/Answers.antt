use Rattle.std.proofs.Common.{◌∙◌, [], ap, cond, sym}
use Rattle.version_store.specs.Versions.{once}
use Rattle.version_store.proofs.HistoryLemmas.{one_cut}
use Rattle.version_store.proofs.history.History.drop_some.Goals as goal

pub returns-then-not-keeps : goal.returns-then-not-keeps
returns-then-not-keeps c =
    rw (← c.self.view_is, c.in-One.is)
    (one_cut c.args.cut c.in-One.since c.in-One.field-1 c.self.inside.holder c.keeps.result _ (c.keeps.ensures c.in-One.field-1)
    (ap (λ b. cond b (once c.in-One.since c.in-One.field-1) []) c.if-not-keeps.true ∙ sym c.clear.ensures))

pub returns-else-not-keeps : goal.returns-else-not-keeps
returns-else-not-keeps c =
    rw (← c.self.view_is, c.in-One.is)
    (one_cut c.args.cut c.in-One.since c.in-One.field-1 c.self.inside.holder c.keeps.result _ (c.keeps.ensures c.in-One.field-1)
    (ap (λ b. cond b (once c.in-One.since c.in-One.field-1) []) c.if-not-keeps.false))
