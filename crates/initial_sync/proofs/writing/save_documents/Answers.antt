use Rattle.std.proofs.Common.{◌∙◌, ap, map, sym, subst}
use Rattle.bson_doc.proofs.BindLemmas.{on_ok}
use Rattle.rs_optime.specs.declared.optime.OpTime.{OpTime}
use Rattle.oplog_entry.specs.Docs.{docs}
use Rattle.checkpoint_store.specs.Files.{IsAtRest}
use Rattle.checkpoint_store.proofs.OnceLemmas.{rest_has}
use Rattle.initial_sync.specs.Pinned.{placed}
use Rattle.initial_sync.proofs.WritingLemmas.{saved_none}
use Rattle.initial_sync.proofs.writing.save_documents.Goals as goal

pub returns-then-eq-clause-any_moment : goal.returns-then-eq-clause-any_moment
returns-then-eq-clause-any_moment g c = saved_none _ _ _ (rest_has _ _ c.requires.rests)

pub store_of-requires : goal.store_of-requires
store_of-requires g c = (docs c.args.pinned.now.entries.items, ap (map placed) c.deref.ensures.value ∙ c.requires.pinned.documents)

pub returns-in_err-store-clause-any_moment : goal.returns-in_err-store-clause-any_moment
returns-in_err-store-clause-any_moment g c = saved_none _ _ _ (rest_has _ _ c.requires.rests)

pub save-requires-clause-can : goal.save-requires-clause-can
save-requires-clause-can g c = λ place document there.
    let of = docs c.args.pinned.now.entries.items in
    c.requires.pinned.can place document (c.in_ok-store.ensures of (ap (map placed) c.deref.ensures.value ∙ c.requires.pinned.documents) place ∙ there)

pub returns-clause-ok : goal.returns-clause-ok
returns-clause-ok g c =
    let of = docs c.args.pinned.now.entries.items in
    let shows = c.in_ok-store.ensures of (ap (map placed) c.deref.ensures.value ∙ c.requires.pinned.documents) in
    on_ok c.save.result
    (λ saved. subst (λ (o : OpTime). IsAtRest (g.D.Disk.state c.save.new.self) (record { at = o; documents = of })) (sym c.requires.pinned.last) (saved of shows c.args.stable.now c.requires.rests))
    c.save.ensures.ok
