-- Records in the newest form, and what an opening that adds it leaves.
use Rattle.std.proofs.Common.{◌≡◌, ◌==◌, inl, inr, ℕ, Bool, false, true, List, [], ◌∷◌, ◌++◌, refl, ap, sym, subst, ◌∙◌, arith}
use Rattle.std.specs.Prelude.{◌≢◌, Result, Ok, Err, IfOk, OnOk, if◌then◌else◌}
use Rattle.std.proofs.lemmas.Bool.Decides.{nat_tests}
use Rattle.std.proofs.lemmas.List.Sums.{fold-append}
use Rattle.rs_disk.specs.File.{contents}
use Rattle.rs_disk.specs.Images.{read_is_image}
use Rattle.rs_disk.specs.Moments.{EachMoment, joins, weakens}
use Rattle.rs_disk.specs.State.{State}
use Rattle.record_file.specs.declared.error.FileError.{FileError}
use Rattle.repl_msg.specs.Kept.{NEWEST_FORM, kept, nothing_kept, with_record}
use Rattle.repl_msg.specs.declared.record.Kept.{Kept}
use Rattle.repl_msg.specs.declared.record.Record.{Record}
use Rattle.repl_msg.specs.declared.record.Record.TheVariants as records
use Rattle.node_journal.specs.Files.{AddsForm, HasJournal, IsAtRest, IsBeforeOrAfter, IsJournalDisk, IsKeptOf, IsOneOf, IsOneOfRenewed, IsThemOrRenewed, OpensInForm}
use Rattle.node_journal.specs.Renewed.{is_first, renewed}
use Rattle.node_journal.proofs.ApartLemmas.{one_journal}
use Rattle.node_journal.proofs.JournalLemmas.{rest_leaves}

pub one_rest : (state : State) (one other : List Record) → IsAtRest state one → IsAtRest state other → one ≡ other
one_rest state one other rest rest' =
    one_journal (contents state.file) one other (rest_leaves state one rest (contents state.file) (read_is_image state.file))
    (rest_leaves state other rest' (contents state.file) (read_is_image state.file))

-- ---- which records have a form more

of_first : (n : ℕ) → n ≡ 1 → (n == 1) ≡ true
of_first n is = grind (arith, nat_tests)

of_another : (n : ℕ) → n ≢ 1 → (n == 1) ≡ false
of_another n is = grind (arith, nat_tests)

pub is_of_first : (items : List Record) (read : Kept) → read ≡ kept items → read.form ≡ 1 → is_first items ≡ true
is_of_first items read is first = of_first (kept items).form (ap (λ (k : Kept). k.form) (sym is) ∙ first)

pub is_of_another : (items : List Record) (read : Kept) → read ≡ kept items → read.form ≢ 1 → is_first items ≡ false
is_of_another items read is other = of_another (kept items).form (λ first. other (ap (λ (k : Kept). k.form) is ∙ first))

pub is_renewed : (items : List Record) (read : Kept) → read ≡ kept items → read.form ≡ 1 → renewed items ≡ items ++ records.Form NEWEST_FORM ∷ []
is_renewed items read is first =
    ap (λ (b : Bool). if b then items ++ records.Form NEWEST_FORM ∷ [] else items) (is_of_first items read is first)

pub not_renewed : (items : List Record) (read : Kept) → read ≡ kept items → read.form ≢ 1 → renewed items ≡ items
not_renewed items read is other =
    ap (λ (b : Bool). if b then items ++ records.Form NEWEST_FORM ∷ [] else items) (is_of_another items read is other)

pub kept_renewed : (items : List Record) (read : Kept) → read ≡ kept items → read.form ≡ 1 → with_record read (records.Form NEWEST_FORM) ≡ kept (renewed items)
kept_renewed items read is first =
    ap (λ (k : Kept). with_record k (records.Form NEWEST_FORM)) is ∙ sym (fold-append with_record nothing_kept items (records.Form NEWEST_FORM ∷ []))
    ∙ ap kept (sym (is_renewed items read is first))

pub rests_as_they_are : (state : State) (items : List Record) (read : Kept) → read ≡ kept items → read.form ≢ 1 → IsAtRest state items → IsAtRest state (renewed items)
rests_as_they_are state items read is other rest = subst (IsAtRest state) (sym (not_renewed items read is other)) rest

pub rests_renewed : (state : State) (items : List Record) (read : Kept) → read ≡ kept items → read.form ≡ 1 → IsAtRest state (items ++ records.Form NEWEST_FORM ∷ []) → IsAtRest state (renewed items)
rests_renewed state items read is first rest = subst (IsAtRest state) (sym (is_renewed items read is first)) rest

pub adds_form : (items : List Record) (read : Kept) (old new : State) → read ≡ kept items → read.form ≡ 1
    → EachMoment (IsBeforeOrAfter items (records.Form NEWEST_FORM)) old new → EachMoment (IsThemOrRenewed items) old new
adds_form items read old new is first moments =
    weakens (IsBeforeOrAfter items (records.Form NEWEST_FORM)) (IsThemOrRenewed items) either old new moments
  where
    either : (image : List ℕ) → IsBeforeOrAfter items (records.Form NEWEST_FORM) image → IsThemOrRenewed items image
    either image (inl before) = inl before
    either image (inr after) = inr (subst (λ (l : List Record). HasJournal image l) (sym (is_renewed items read is first)) after)

-- but for the form, and how many records there are, nothing changes
pub same_but_form : (items : List Record) → kept (renewed items) ≡ record (kept items) { form = (kept (renewed items)).form; count = (kept (renewed items)).count }
same_but_form items = by_test ((kept items).form == 1)
  where
    in_form : Bool → List Record
    in_form first = if first then items ++ records.Form NEWEST_FORM ∷ [] else items

    by_test : (first : Bool) → kept (in_form first) ≡ record (kept items) { form = (kept (in_form first)).form; count = (kept (in_form first)).count }
    by_test false = refl
    by_test true =
        let more : kept (items ++ records.Form NEWEST_FORM ∷ []) ≡ with_record (kept items) (records.Form NEWEST_FORM) = fold-append with_record nothing_kept items (records.Form NEWEST_FORM ∷ []) in
        more ∙ ap (λ (k : Kept). record (kept items) { form = k.form; count = k.count }) (sym more)

-- ---- an opening

pub as_they_were : (old new : State) → EachMoment (IsOneOf old) old new → EachMoment (IsOneOfRenewed old) old new
as_they_were old new moments = weakens (IsOneOf old) (IsOneOfRenewed old) (λ image is. (is.0, is.2, inl is.1)) old new moments

-- the records that were read are those that rest now
pub kept_now : (old mid : State) (read : Kept) → IsJournalDisk old → ((items : List Record) → HasJournal (contents old.file) items → read ≡ kept items)
    → ((items : List Record) → HasJournal (contents old.file) items → IsAtRest mid items) → IsKeptOf read mid
kept_now old mid read is kept_is rests items rest =
    let found = is.leaves (contents old.file) (read_is_image old.file) in
    kept_is found.0 found.1 ∙ ap kept (one_rest mid found.0 items (rests found.0 found.1) rest)

pub opened_in_form : (old mid new : State) → IsJournalDisk old → ((items : List Record) → HasJournal (contents old.file) items → IsAtRest mid items)
    → EachMoment (IsOneOf old) old mid → ((items : List Record) → IsAtRest mid items → EachMoment (IsThemOrRenewed items) mid new)
    → EachMoment (IsOneOfRenewed old) old new
opened_in_form old mid new is rests opening adding =
    let found = is.leaves (contents old.file) (read_is_image old.file) in
    joins (IsOneOfRenewed old) old mid new (as_they_were old mid opening)
    (weakens (IsThemOrRenewed found.0) (IsOneOfRenewed old) (λ image them. (found.0, (contents old.file, read_is_image old.file, found.1), them)) mid new (adding found.0 (rests found.0 found.1)))

pub kept_from : {E : Type 0} (result : Result Kept E) (P Q : List Record → Type 0) → ((items : List Record) → Q items → P items)
    → IfOk result (λ found. (items : List Record) → P items → found ≡ kept (renewed items)) → IfOk result (λ found. (items : List Record) → Q items → found ≡ kept (renewed items))
kept_from (Ok found) P Q so is = λ items here. is items (so items here)
kept_from (Err error) P Q so is = tt

pub rests_from : {X E : Type 0} (result : Result X E) (P Q R : List Record → Type 0) → ((items : List Record) → Q items → P items)
    → OnOk result ((items : List Record) → P items → R items) → OnOk result ((items : List Record) → Q items → R items)
rests_from (Ok found) P Q R so is = λ items here. is items (so items here)
rests_from (Err error) P Q R so is = tt

-- ---- its calls

pub form_is_added : {X : Type 0} (items : List Record) (read : Kept) (result : Result X FileError) (old new : State) → read ≡ kept items → read.form ≡ 1
    → AddsForm true result old new → AddsForm (is_first items) result old new
form_is_added items read result old new is first calls = subst (λ (due : Bool). AddsForm due result old new) (sym (is_of_first items read is first)) calls

pub no_form_is_due : (items : List Record) (read : Kept) (state : State) → read ≡ kept items → read.form ≢ 1
    → AddsForm {T = Kept} (is_first items) (Ok read) state state
no_form_is_due items read state is other =
    subst (λ (due : Bool). AddsForm {T = Kept} due (Ok read) state state) (sym (is_of_another items read is other)) (refl, refl)

-- the same calls, whatever else is answered
pub opens_as_well : {X Y : Type 0} {P : List Record → Type 0} (found : X) (answer : Y) (old new : State)
    → ((items : List Record) → P items → OpensInForm {T = X} (is_first items) (Ok found) old new)
    → (items : List Record) → P items → OpensInForm {T = Y} (is_first items) (Ok answer) old new
opens_as_well {X = X} {Y = Y} found answer old new calls items has = by_form (is_first items) (calls items has)
  where
    by_form : (due : Bool) → OpensInForm {T = X} due (Ok found) old new → OpensInForm {T = Y} due (Ok answer) old new
    by_form true opens = opens
    by_form false opens = opens

pub fails_as_well : (X Y : Type 0) {P : List Record → Type 0} (error : FileError) (old new : State)
    → ((items : List Record) → P items → OpensInForm {T = X} (is_first items) (Err error) old new)
    → (items : List Record) → P items → OpensInForm {T = Y} (is_first items) (Err error) old new
fails_as_well X Y error old new calls items has = by_form (is_first items) (calls items has)
  where
    by_form : (due : Bool) → OpensInForm {T = X} due (Err error) old new → OpensInForm {T = Y} due (Err error) old new
    by_form true opens = opens
    by_form false opens = opens
