use Rattle.std.proofs.Common.{length, ap, arith}
use Rattle.node_journal.proofs.JournalLemmas.{adds, calls_of, either_left, nothing_yet, open_after, rests_after}
use Rattle.node_journal.proofs.LoopLemmas.{written_as}
use Rattle.node_journal.proofs.SizeLemmas.{record_short}
use Rattle.node_journal.proofs.journal.Journal.add.Goals as goal

pub returns-in_err-lay-clause-any_moment : goal.returns-in_err-lay-clause-any_moment
returns-in_err-lay-clause-any_moment g c = rw (← c.self.view_is) (λ records rest. nothing_yet _ records _ rest)

pub append-requires-clause-short : goal.append-requires-clause-short
append-requires-clause-short g c =
    let here = written_as _ _ _ c.deref.ensures.value c.in_ok-lay.ensures.laid in
    omega (arith, ap length here.spelled, record_short _ here.lawful)

pub returns-clause-ok : goal.returns-clause-ok
returns-clause-ok g c =
    let here = written_as _ _ _ c.deref.ensures.value c.in_ok-lay.ensures.laid in
    rw (← c.self.view_is) (rests_after _ _ _ _ _ here c.append.ensures.ok)

pub returns-clause-open : goal.returns-clause-open
returns-clause-open g c =
    let here = written_as _ _ _ c.deref.ensures.value c.in_ok-lay.ensures.laid in
    let open_now = rw (← c.self.view_is) at c.requires.open in
    open_after _ _ _ c.args.item.now open_now (rests_after _ _ _ _ _ here c.append.ensures.ok)

pub returns-clause-left : goal.returns-clause-left
returns-clause-left g c =
    let here = written_as _ _ _ c.deref.ensures.value c.in_ok-lay.ensures.laid in
    let open_now = rw (← c.self.view_is) at c.requires.open in
    either_left open_now.records c.args.item.now _ _
    (adds open_now.records open_now.rests.pieces _ _ _ _ open_now.rests.spelled here (c.append.ensures.any_moment open_now.rests.pieces open_now.rests.rests))

pub returns-clause-any_moment : goal.returns-clause-any_moment
returns-clause-any_moment g c =
    let here = written_as _ _ _ c.deref.ensures.value c.in_ok-lay.ensures.laid in
    rw (← c.self.view_is)
    (λ records rest. adds records rest.pieces _ _ _ _ rest.spelled here (c.append.ensures.any_moment rest.pieces rest.rests))

pub returns-clause-calls : goal.returns-clause-calls
returns-clause-calls g c =
    let here = written_as _ _ _ c.deref.ensures.value c.in_ok-lay.ensures.laid in
    rw (← c.self.view_is) (calls_of c.append.result _ c.args.item.now _ _ _ here c.append.ensures.calls)
