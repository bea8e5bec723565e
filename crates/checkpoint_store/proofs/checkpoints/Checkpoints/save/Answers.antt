use Rattle.checkpoint_store.proofs.DiskLemmas.{are_laid, before_all, open_left, records_short, saved, saved_left, saved_open, saved_records, saves}
use Rattle.checkpoint_store.proofs.checkpoints.Checkpoints.save.Goals as goal

pub returns-in_err-records-clause-left : goal.returns-in_err-records-clause-left
returns-in_err-records-clause-left g c = open_left _ c.requires.open

pub returns-in_err-records-clause-any_moment : goal.returns-in_err-records-clause-any_moment
returns-in_err-records-clause-any_moment g c = λ documents shows stable rest. before_all _ stable _ rest

pub append_all-requires-clause-short : goal.append_all-requires-clause-short
append_all-requires-clause-short g c =
    let are = are_laid c.args.store.now c.args.at _ _ c.deref.ensures.value c.in_ok-records.ensures.records in
    let shown = c.in_ok-records.ensures.shows in
    records_short _ c.deref.result.now (are shown.0 shown.1)

pub returns-clause-ok : goal.returns-clause-ok
returns-clause-ok g c =
    let are = are_laid c.args.store.now c.args.at _ _ c.deref.ensures.value c.in_ok-records.ensures.records in
    rw (← c.self.view_is) (saved c.append_all.result _ _ c.args.store.now c.args.at _ are c.append_all.ensures.ok c.append_all.ensures.any_moment)

pub returns-clause-records : goal.returns-clause-records
returns-clause-records g c =
    let are = are_laid c.args.store.now c.args.at _ _ c.deref.ensures.value c.in_ok-records.ensures.records in
    rw (← c.self.view_is) (saved_records c.append_all.result _ _ c.args.store.now c.args.at _ are c.append_all.ensures.ok c.append_all.ensures.any_moment)

pub returns-clause-open : goal.returns-clause-open
returns-clause-open g c =
    let are = are_laid c.args.store.now c.args.at _ _ c.deref.ensures.value c.in_ok-records.ensures.records in
    let shown = c.in_ok-records.ensures.shows in
    let open_now = rw (← c.self.view_is) at c.requires.open in
    saved_open c.append_all.result _ _ c.args.store.now c.args.at _ are c.append_all.ensures.ok c.append_all.ensures.any_moment shown.0 shown.1 open_now

pub returns-clause-left : goal.returns-clause-left
returns-clause-left g c =
    let are = are_laid c.args.store.now c.args.at _ _ c.deref.ensures.value c.in_ok-records.ensures.records in
    let shown = c.in_ok-records.ensures.shows in
    let open_now = rw (← c.self.view_is) at c.requires.open in
    saved_left c.append_all.result _ _ c.args.store.now c.args.at _ are c.append_all.ensures.ok c.append_all.ensures.any_moment shown.0 shown.1 open_now

pub returns-clause-any_moment : goal.returns-clause-any_moment
returns-clause-any_moment g c =
    let are = are_laid c.args.store.now c.args.at _ _ c.deref.ensures.value c.in_ok-records.ensures.records in
    rw (← c.self.view_is) (saves c.append_all.result _ _ c.args.store.now c.args.at _ are c.append_all.ensures.ok c.append_all.ensures.any_moment)
