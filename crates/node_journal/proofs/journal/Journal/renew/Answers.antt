use Rattle.std.proofs.Common.{inl, ap, arith, rules, sym, ◌∙◌}
use Rattle.rs_disk.specs.Moments.{starts}
use Rattle.repl_msg.specs.Kept.{kept}
use Rattle.repl_msg.specs.declared.record.Kept.{Kept}
use Rattle.node_journal.specs.Files.{IsThemOrRenewed}
use Rattle.node_journal.proofs.DiskLemmas.{kept_count}
use Rattle.node_journal.proofs.JournalLemmas.{open_left, rest_leaves}
use Rattle.node_journal.proofs.RenewLemmas.{adds_form, form_is_added, kept_renewed, no_form_is_due, not_renewed, rests_as_they_are, rests_renewed}
use Rattle.node_journal.proofs.journal.Journal.renew.Goals as goal

-- of another form nothing is added
pub returns-then-read-ne-FIRST_FORM-clause-kept : goal.returns-then-read-ne-FIRST_FORM-clause-kept
returns-then-read-ne-FIRST_FORM-clause-kept g c = λ items rest.
    let is = c.requires.read items rest in
    is ∙ ap kept (sym (not_renewed items c.args.read is c.if-read-ne-FIRST_FORM.true))

pub returns-then-read-ne-FIRST_FORM-clause-at_rest : goal.returns-then-read-ne-FIRST_FORM-clause-at_rest
returns-then-read-ne-FIRST_FORM-clause-at_rest g c = λ items rest.
    rests_as_they_are _ items c.args.read (c.requires.read items rest) c.if-read-ne-FIRST_FORM.true rest

pub returns-then-read-ne-FIRST_FORM-clause-left : goal.returns-then-read-ne-FIRST_FORM-clause-left
returns-then-read-ne-FIRST_FORM-clause-left g c = open_left _ c.requires.open

pub returns-then-read-ne-FIRST_FORM-clause-any_moment : goal.returns-then-read-ne-FIRST_FORM-clause-any_moment
returns-then-read-ne-FIRST_FORM-clause-any_moment g c = λ items rest.
    starts (IsThemOrRenewed items) _ (λ image is. inl (rest_leaves _ items rest image is))

pub returns-then-read-ne-FIRST_FORM-clause-calls : goal.returns-then-read-ne-FIRST_FORM-clause-calls
returns-then-read-ne-FIRST_FORM-clause-calls g c = λ items rest.
    no_form_is_due items c.args.read _ (c.requires.read items rest) c.if-read-ne-FIRST_FORM.true

-- with the form more
pub with_form-requires : goal.with_form-requires
with_form-requires g c =
    let is_open = c.requires.open in
    let is = c.requires.read is_open.records is_open.rests in
    omega (arith, ap (λ (k : Kept). k.count) is, kept_count is_open.records, c.recall_count_fits.ensures is_open.records is_open.rests)

pub returns-in_err-add-clause-any_moment : goal.returns-in_err-add-clause-any_moment
returns-in_err-add-clause-any_moment g c = λ items rest.
    adds_form items c.args.read _ _ (c.requires.read items rest) c.if-read-ne-FIRST_FORM.false (search rules)

pub returns-in_err-add-clause-calls : goal.returns-in_err-add-clause-calls
returns-in_err-add-clause-calls g c = λ items rest.
    form_is_added items c.args.read _ _ _ (c.requires.read items rest) c.if-read-ne-FIRST_FORM.false (search rules)

pub returns-clause-kept : goal.returns-clause-kept
returns-clause-kept g c = λ items rest.
    c.with_form.ensures ∙ kept_renewed items c.args.read (c.requires.read items rest) c.if-read-ne-FIRST_FORM.false

pub returns-clause-at_rest : goal.returns-clause-at_rest
returns-clause-at_rest g c = λ items rest.
    rests_renewed _ items c.args.read (c.requires.read items rest) c.if-read-ne-FIRST_FORM.false (search rules)

pub returns-clause-calls : goal.returns-clause-calls
returns-clause-calls g c = λ items rest.
    form_is_added items c.args.read _ _ _ (c.requires.read items rest) c.if-read-ne-FIRST_FORM.false c.in_ok-add.ensures.calls

pub returns-clause-any_moment : goal.returns-clause-any_moment
returns-clause-any_moment g c = λ items rest.
    adds_form items c.args.read _ _ (c.requires.read items rest) c.if-read-ne-FIRST_FORM.false (search rules)
