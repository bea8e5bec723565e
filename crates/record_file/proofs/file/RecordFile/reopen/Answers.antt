use Rattle.std.proofs.lemmas.Result.{IfOk-weaker}
use Rattle.record_file.proofs.OpenLemmas.{opens, opened_left}
use Rattle.record_file.proofs.ParseLemmas.{one_list}
use Rattle.record_file.proofs.file.RecordFile.reopen.Goals as goal

pub returns-clause-only : goal.returns-clause-only
returns-clause-only g c =
    rw (← c.self.view_is) (IfOk-weaker c.prepare.result _ _ (λ read has records other. one_list _ _ _ has other) c.prepare.ensures.records)

pub returns-clause-left : goal.returns-clause-left
returns-clause-left g c = let has = rw (← c.self.view_is) at c.requires in opened_left _ has c.prepare.result _ c.prepare.ensures.calls

pub returns-clause-any_moment : goal.returns-clause-any_moment
returns-clause-any_moment g c =
    let has = rw (← c.self.view_is) at c.requires in rw (← c.self.view_is) (opens _ has c.prepare.result _ c.prepare.ensures.calls)
