use Rattle.std.proofs.Common.{◌∙◌, sym}
use Rattle.oplog_fetcher.proofs.FetchLemmas.{holds_found, holds_hidden}
use Rattle.oplog_fetcher.proofs.answer.holds.Goals as goal

pub returns-then-is_within : goal.returns-then-is_within
returns-then-is_within c =
    c.is_some.ensures
    ∙ holds_found c.args.log.now.entries c.args.visible c.args.base c.find.result (sym c.eq.ensures ∙ c.if-eq.false)
    (sym c.is_within.ensures ∙ c.if-is_within.true) c.find.ensures.found c.find.ensures.none

pub returns-else-is_within : goal.returns-else-is_within
returns-else-is_within c = c.if-is_within.false ∙ holds_hidden c.args.log.now.entries c.args.visible c.args.base (sym c.eq.ensures ∙ c.if-eq.false) (sym c.is_within.ensures ∙ c.if-is_within.false)
