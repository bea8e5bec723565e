use Rattle.std.proofs.Common.{◌≡◌, ◌∙◌, ap, sym, subst, Some, true, rules}
use Rattle.std.specs.Prelude.{All, is_some}
use Rattle.std.specs.Map.{lookup, keys_of}
use Rattle.std.specs.BTreeMap.{insert_entry}
use Rattle.std.specs.Ordering.{eq_by_cmp}
use Rattle.bson_doc.specs.Key.{key_cmp}
use Rattle.version_store.specs.declared.history.Version.{Version}
use Rattle.version_store.specs.Past.{Past, no_past, is_before, with_version}
use Rattle.version_store.proofs.DocumentsLemmas.{past_found, past_missing, set_past}
use Rattle.version_store.proofs.Keyed.{same_entry, on_err}
use Rattle.version_store.proofs.tree.Tree.put.Goals.{in-Occupied+in_ok-put-in-Occupied, in-Vacant+in_ok-or_try_insert_with-in-Vacant}
use Rattle.version_store.proofs.tree.Tree.put.Goals as goal

pub put-requires : goal.put-requires
put-requires c =
    let found : Some c.into_mut.result.now ≡ lookup (eq_by_cmp key_cmp c.args.id) c.self.inside.documents.entries =
    let known = c.in_ok-entry.ensures.value in let is = c.in-Occupied.is in let value = c.into_mut.ensures.value in cc in
    subst (λ (past : Past). All (λ (version : Version). is_before version.at c.args.at ≡ true) past.versions)
    (past_found c.self.inside.documents.entries c.args.id c.into_mut.result.now found) (rw (← c.self.view_is) at c.requires)

pub returns-in_err-put-in-Occupied-clause-err : goal.returns-in_err-put-in-Occupied-clause-err
returns-in_err-put-in-Occupied-clause-err c =
    let known = c.in_ok-entry.ensures.value in
    let found : Some c.into_mut.result.now ≡ lookup (eq_by_cmp key_cmp c.args.id) c.self.inside.documents.entries = let is = c.in-Occupied.is in let value = c.into_mut.ensures.value in cc in
    let keys = ap keys_of (sym (c.in_ok-entry.ensures.update.1 c.put.new.self)) ∙ c.in_ok-entry.ensures.keys_stay (ap is_some (known ∙ sym found)) c.put.new.self in
    let written : _ ≡ insert_entry key_cmp c.self.inside.documents.entries c.args.id c.put.new.self = search rules in
    on_err c.from_residual-in_err-put-in-Occupied.result _
    (written ∙ same_entry key_cmp c.self.inside.documents.entries c.args.id c.put.new.self keys (ap (λ (p : Past). Some p) c.in_err-put-in-Occupied.ensures.err ∙ found) ∙ c.self.view_is)

pub returns-clause-ok : goal.returns-clause-ok
returns-clause-ok c = elim c.match-branch-2.branch [
  | in-Occupied+in_ok-put-in-Occupied w ↦
      let found : Some w.into_mut.result.now ≡ lookup (eq_by_cmp key_cmp c.args.id) c.self.inside.documents.entries =
      let known = c.in_ok-entry.ensures.value in let is = w.in-Occupied.is in let value = w.into_mut.ensures.value in cc in
      rw (w.self-inside-is, ← c.self.view_is)
      (set_past c.self.inside.documents.entries _ c.args.id w.into_mut.result.now w.put.new.self (λ past. with_version past (record { at = c.args.at; doc = c.args.doc }))
      (past_found c.self.inside.documents.entries c.args.id w.into_mut.result.now found) w.in_ok-put-in-Occupied.ensures.ok (λ q. search rules))
  | in-Vacant+in_ok-or_try_insert_with-in-Vacant w ↦
      let made : w.in_ok-or_try_insert_with-in-Vacant.field-0.now ≡ with_version no_past (record { at = c.args.at; doc = c.args.doc }) = search rules in
      rw (w.self-inside-is, ← c.self.view_is)
      (set_past c.self.inside.documents.entries _ c.args.id no_past w.in_ok-or_try_insert_with-in-Vacant.field-0.now (λ past. with_version past (record { at = c.args.at; doc = c.args.doc }))
      (past_missing c.self.inside.documents.entries c.args.id (sym (rw w.in-Vacant.is at c.in_ok-entry.ensures.found))) made (λ q. search rules))
]
