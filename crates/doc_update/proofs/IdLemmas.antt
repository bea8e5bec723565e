-- A document with its `_id` first.
use Rattle.std.proofs.Common.{◌≡◌, ℕ, true, List, [], ◌∷◌, Contains, codes, ap, sym, subst, ◌∙◌, arith}
use Rattle.std.proofs.lemmas.Grind.{common_steps}
use Rattle.bson_doc.specs.Tree.{Tree, Fields, no_fields, field, found, fields_from, without, IsDocument}
use Rattle.bson_doc.proofs.NameLemmas.{IsDocument-without}
use Rattle.std.specs.Str.{bytes_eq}
use Rattle.oplog_entry.specs.Walk.{staying}
use Rattle.doc_update.specs.Effect.{id_first}
use Rattle.bson_doc.proofs.DocLemmas.{fields_from-zero}
use Rattle.oplog_entry.proofs.FieldLemmas.{found-without, same_name}
use Rattle.oplog_entry.proofs.WalkLemmas.{staying-nothing_set, without_all-but}

-- the other fields
pub others-without : (doc : Fields) → IsDocument doc → staying (codes "_id" ∷ []) no_fields doc ≡ without doc (codes "_id")
others-without doc names = staying-nothing_set (codes "_id" ∷ []) doc ∙ sym (without_all-but (codes "_id" ∷ []) doc names)

id_clean : ¬ Contains (codes "_id") 0
id_clean = grind (arith, common_steps)

pub IsDocument-id_first : (id : Tree) (doc : Fields) → IsDocument doc → IsDocument (field (codes "_id") id (staying (codes "_id" ∷ []) no_fields doc))
IsDocument-id_first id doc names =
    subst (λ f. IsDocument (field (codes "_id") id f)) (sym (others-without doc names)) (id_clean, found-without doc (codes "_id") (codes "_id") names, IsDocument-without doc (codes "_id") names)

-- an `_id` that is first already stays as it is
pub id_is_first : (doc : Fields) (name : List ℕ) (value : Tree) (rest : Fields) → fields_from 0 doc ≡ field name value rest → bytes_eq name (codes "_id") ≡ true → id_first (found (codes "_id") doc) doc ≡ doc
id_is_first doc name value rest is same =
    let whole : doc ≡ field name value rest = sym (fields_from-zero doc) ∙ is in
    subst (λ d. id_first (found (codes "_id") d) d ≡ d) (sym whole) (rw (same, same) (ap (λ n. field n value rest) (sym (same_name name (codes "_id") same))))

pub ruleset first_id = (id_is_first)
