use Rattle.std.proofs.Common.{List, sym, subst}
use Rattle.std.proofs.lemmas.Result.{IfOk-weaker}
use Rattle.record_file.specs.Records.{lists}
use Rattle.version_store.specs.Shown.{AreShown}
use Rattle.checkpoint_store.specs.Checkpoint.{checkpoint_of}
use Rattle.checkpoint_store.specs.Files.{AreSpelled}
use Rattle.checkpoint_store.specs.Layout.{Saved}
use Rattle.checkpoint_store.proofs.ShownLemmas.{each_can, listed, some_map}
use Rattle.checkpoint_store.proofs.saving.checkpoint_records.Goals as goal

pub records_of-requires : goal.records_of-requires
records_of-requires c =
    each_can c.args.store.now c.args.at c.deref.result.now (subst (AreShown c.args.store.now c.args.at) (sym c.deref.ensures.value) c.in_ok-documents.ensures) c.requires

pub returns-clause-shows : goal.returns-clause-shows
returns-clause-shows c =
    let are = subst (AreShown c.args.store.now c.args.at) (sym c.deref.ensures.value) c.in_ok-documents.ensures in
    IfOk-weaker c.records_of.result _ _ (λ records _. some_map c.args.store.now c.args.at c.deref.result.now are) c.records_of.ensures

pub returns-clause-records : goal.returns-clause-records
returns-clause-records c =
    let at = c.args.at in
    let are = subst (AreShown c.args.store.now at) (sym c.deref.ensures.value) c.in_ok-documents.ensures in
    IfOk-weaker c.records_of.result _ _
    (λ records laid documents shows. subst (λ (l : List Saved). AreSpelled (checkpoint_of at l) (lists records.items)) (listed c.args.store.now at c.deref.result.now are documents shows) laid) c.records_of.ensures
