-- Documents listed with their places, and the map that results from them.
use Rattle.std.proofs.Common.{◌≡◌, cond, List, [], ◌∷◌, Option, None, Some, sym, ap, ◌∙◌}
use Rattle.std.specs.Cmp.{eq_by_cmp_equiv}
use Rattle.std.specs.FinMap.{empty, get, get-empty, insert, same_map}
use Rattle.std.specs.Map.{update, update_all}
use Rattle.std.specs.Ordering.{eq_by_cmp}
use Rattle.bson_doc.specs.Place.{Place, place_cmp}
use Rattle.bson_doc.specs.Tree.{Fields}
use Rattle.bson_doc.proofs.KeyLemmas.{place_cmp-total, place_cmp-antisymmetric}
use Rattle.doc_fold.specs.Map.{documents_of}
use Rattle.doc_fold.proofs.MapLemmas.{document_at, get-documents_of}
use Rattle.oplog_entry.specs.Docs.{Documents}
use Rattle.oplog_entry.proofs.DocsLemmas.{get-put_at}
use Rattle.checkpoint_store.specs.Checkpoint.{with_documents}
use Rattle.checkpoint_store.specs.Layout.{Saved}

-- inserted one after another, they are found as they were written over each other
in_turn : (items : List Saved) (documents : Documents) (found : Place → Option Fields) → ((q : Place) → found q ≡ get documents q) → (q : Place)
    → update_all (eq_by_cmp place_cmp) found items q ≡ get (with_documents documents items) q
in_turn [] documents found same q = same q
in_turn (item ∷ items) documents found same q =
    in_turn items (insert documents item.0 item.1) (update (eq_by_cmp place_cmp) found item.0 (Some item.1)) (λ p.
    ap (λ b. cond b (Some item.1) (found p)) ((eq_by_cmp_equiv place_cmp-total).symm item.0 p)
    ∙ ap (cond (eq_by_cmp place_cmp p item.0) (Some item.1)) (same p)
    ∙ sym (get-put_at documents item.0 (Some item.1) p)) q

-- a map that was made of them has them
pub listed_make : (items entries : List Saved) → ((q : Place) → document_at entries q ≡ update_all (eq_by_cmp place_cmp) (λ _. None) items q)
    → documents_of entries ≡ with_documents empty items
listed_make items entries made =
    same_map place_cmp-total place_cmp-antisymmetric _ _ (λ q. get-documents_of entries q ∙ made q ∙ in_turn items empty (λ _. None) (λ p. sym (get-empty place_cmp p)) q)
