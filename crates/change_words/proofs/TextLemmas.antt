-- The text of an update.
use Rattle.std.proofs.Common.{◌≡◌, List, ◌++◌, ap, sym, subst, ◌∙◌, append_assoc}
use Rattle.std.specs.Prelude.{ℕ, codes}
use Rattle.bson_doc.specs.Tree.{document, Fields, Trees}
use Rattle.bson_doc.specs.View.{tree_of}
use Rattle.bson_doc.specs.declared.doc.Value.{Value}
use Rattle.doc_text.specs.Printing.{printed}
use Rattle.entry_bytes.specs.Layout.{body_of}
use Rattle.oplog_entry.specs.declared.entry.Op.{Op}
use Rattle.oplog_entry.specs.declared.entry.Op.TheVariants as ops
use Rattle.change_words.specs.Texts.{op_text}

regrouped : (a b c d : List ℕ) → a ++ b ++ c ++ d ≡ a ++ (b ++ c ++ d)
regrouped a b c d = ap (λ (x : List ℕ). x ++ d) (append_assoc a b c) ∙ append_assoc a (b ++ c) d

written_so : (front old mid new id_text doc_text : List ℕ) → mid ≡ old ++ front → new ≡ mid ++ (id_text ++ codes " " ++ doc_text) → new ≡ old ++ (front ++ id_text ++ codes " " ++ doc_text)
written_so front old mid new id_text doc_text first then_all =
    then_all ∙ ap (λ (m : List ℕ). m ++ (id_text ++ codes " " ++ doc_text)) first ∙ append_assoc old front (id_text ++ codes " " ++ doc_text)
    ∙ ap (λ (t : List ℕ). old ++ t) (sym (regrouped front id_text (codes " ") doc_text))

pub update_written : (op : Op) (ns : List ℕ) (id : Value) (sets : Fields) (unsets : Trees) (old mid new : List ℕ) → op ≡ ops.Fields ns id sets unsets
    → mid ≡ old ++ (codes " update " ++ ns ++ codes " ") → new ≡ mid ++ (printed (tree_of id) ++ codes " " ++ printed (document (body_of op))) → new ≡ old ++ op_text op
update_written op ns id sets unsets old mid new is first rest =
    subst (λ (o : Op). new ≡ mid ++ (printed (tree_of id) ++ codes " " ++ printed (document (body_of o))) → new ≡ old ++ op_text o) (sym is)
    (λ so. written_so (codes " update " ++ ns ++ codes " ") old mid new (printed (tree_of id)) (printed (document (body_of (ops.Fields ns id sets unsets)))) first so) rest
