use Rattle.std.proofs.Common.{◌+◌, ◌∙◌, ◌++◌, ap, refl, sym, append-nil, arith}
use Rattle.std.proofs.lemmas.List.{drop_all}
use Rattle.version_store.specs.Documents.{Documents}
use Rattle.version_store.specs.Shown.{shown_here}
use Rattle.version_store.proofs.RowLemmas.{row_hidden, row_left, row_shown}
use Rattle.version_store.proofs.ShownLemmas.{left_in}
use Rattle.version_store.proofs.row.Row.add_shown.Goals as goal
use Rattle.version_store.proofs.row.Row.add_shown.Goals.{in-Some+in_ok-push, in_default}

pub loop-entry-preserved : goal.loop-entry-preserved
loop-entry-preserved c place = elim c.match-read_at.branch [
  | in-Some+in_ok-push w ↦
      rw w.gathered-is
      (row_shown c.args.at place c.deref-entry-items.result.now c.loop-entry.entry-index (c.loop-entry.entry-index + 1) c.entry-item.result c.loop-entry.gathered.items w.push.new.self.items _
      w.in_ok-push.ensures.items w.in-Some.ensures.shown refl (omega arith) c.loop-entry-test.true c.entry-item.is
      ∙ c.loop-entry.invariant place)
  | in_default w ↦
      rw w.gathered-is
      (row_hidden c.args.ns.now c.args.at place c.deref-entry-items.result.now c.loop-entry.entry-index (c.loop-entry.entry-index + 1) c.entry-item.result c.loop-entry.gathered.items
      (omega arith) c.loop-entry-test.true c.entry-item.is w.in_default.ensures.shown
      ∙ c.loop-entry.invariant place)
]

pub returns : goal.returns
returns c place =
    sym (append-nil (shown_here place c.loop-entry.gathered.items))
    ∙ ap (λ (es : Documents). shown_here place c.loop-entry.gathered.items ++ left_in c.args.ns.now c.args.at es place)
    (sym (drop_all c.loop-entry.entry-index c.deref-entry-items.result.now (omega arith)))
    ∙ c.loop-entry.invariant place
    ∙ ap (λ l. shown_here place c.args.gathered.now.items ++ l)
    (ap (λ (es : Documents). left_in c.args.ns.now c.args.at es place) (c.deref-entry-items.ensures.value ∙ c.self.view_is)
    ∙ row_left c.args.ns.now c.args.at c.args.self.now place (rw c.self.view_is at c.self.invariant))
