use Rattle.std.proofs.Common.{sym, subst, ◌∙◌}
use Rattle.bson_doc.specs.Tree.{IsDocument}
use Rattle.oplog_entry.proofs.WalkLemmas.{changed-walk, IsDocument-changed, staying-IsDocument}
use Rattle.oplog_entry.proofs.change.with_many.Goals as goal

pub staying-requires : goal.staying-requires
staying-requires c =
    rw (c.in_ok-gone.ensures, c.in_ok-new_values.ensures.index) (staying-IsDocument c.args.document.now c.args.sets.now c.args.unsets.now c.in_ok-old_values.ensures.names c.in_ok-new_values.ensures.names)

pub add_fresh-requires : goal.add_fresh-requires
add_fresh-requires c =
    let document = c.args.document.now in
    let sets = c.args.sets.now in
    let unsets = c.args.unsets.now in
    let walk = changed-walk sets document unsets c.in_ok-old_values.ensures.names c.in_ok-new_values.ensures.names in
    rw (c.in_ok-changed.ensures, c.in_ok-gone.ensures, c.in_ok-new_values.ensures.index, c.in_ok-old_values.ensures.index) (subst IsDocument walk (IsDocument-changed document sets unsets c.in_ok-old_values.ensures.names c.in_ok-new_values.ensures.names))

pub returns : goal.returns
returns c =
    let walk = changed-walk c.args.sets.now c.args.document.now c.args.unsets.now c.in_ok-old_values.ensures.names c.in_ok-new_values.ensures.names in
    c.in_ok-add_fresh.ensures ∙ rw (c.in_ok-changed.ensures, c.in_ok-gone.ensures, c.in_ok-new_values.ensures.index, c.in_ok-old_values.ensures.index) (sym walk)
