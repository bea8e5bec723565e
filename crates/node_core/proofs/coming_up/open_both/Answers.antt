use Rattle.std.proofs.Common.{◌≡◌, ◌∙◌, ap, inl, inr, refl, subst, sym, Ok, Err, rules}
use Rattle.std.proofs.lemmas.Result.{err_from_is_err_and}
use Rattle.std.specs.Prelude.{Result}
use Rattle.record_file.specs.declared.error.FileError.{FileError}
use Rattle.record_file.specs.declared.error.FileError.TheVariants.{Disk, Memory}
use Rattle.node_journal.specs.Files.{IsOneOf as IsOneJournal}
use Rattle.node_core.specs.Opening.{ReopensInTurn}
use Rattle.node_core.specs.declared.coming_up.Found.{Found}
use Rattle.node_core.proofs.PuttingLemmas.{runs_checkpoints, runs_journal, runs_then}
use Rattle.node_core.proofs.ReopeningLemmas.{calls_reserved, opened_both, read_both, runs_opened, stands_both, stands_opened, stands_reserved, then_reserved, unopened}
use Rattle.node_core.proofs.coming_up.open_both.Goals as goal

no_fault : {T : Type 0} (result : Result T FileError) → result ≡ Err Memory → result ≡ Err Disk → ⊥
no_fault (Ok value) is fault = cc is
no_fault (Err error) is fault = cc

abbrev read_so : Found → Result Found FileError
read_so found = Ok found

found_not : (found : Found) → read_so found ≡ Err Disk → ⊥
found_not found is = cc is

-- the same fault is told on
abbrev failed_so : {T : Type 0} → FileError → Result T FileError
failed_so error = Err error

told_on : {S T : Type 0} (result : Result S FileError) (error : FileError) → result ≡ Err error → result ≡ Err Disk → failed_so {T = T} error ≡ Err Disk
told_on result Disk is fault = refl
told_on result Memory is fault = absurd (no_fault result is fault)

pub returns-in_err-kept-clause-stands : goal.returns-in_err-kept-clause-stands
returns-in_err-kept-clause-stands g c = λ node stands.
    stands_opened node (g.D.Disk.state c.args.disks.now.journal.0) (g.D.Disk.state c.reopen.new.self.0) (g.D.Disk.state c.args.disks.now.checkpoints) stands c.reopen.ensures.any_moment

pub returns-in_err-kept-clause-checkpoints : goal.returns-in_err-kept-clause-checkpoints
returns-in_err-kept-clause-checkpoints g c = unopened (g.D.Disk.state c.args.disks.now.checkpoints) c.requires.checkpoints

pub returns-in_err-stable-clause-stands : goal.returns-in_err-stable-clause-stands
returns-in_err-stable-clause-stands g c = λ node stands.
    stands_both node (g.D.Disk.state c.args.disks.now.journal.0) (g.D.Disk.state c.reopen.new.self.0) (g.D.Disk.state c.args.disks.now.checkpoints) (g.D.Disk.state c.reopen-2.new.self)
    c.reopen.ensures.any_moment c.reopen-2.ensures.any_moment stands

pub returns-in_err-stable-clause-runs : goal.returns-in_err-stable-clause-runs
returns-in_err-stable-clause-runs g c =
    let p = err_from_is_err_and c.from_residual-in_err-stable.result c.from_residual-in_err-stable.ensures.1 in
    let j = g.D.Disk.state c.args.disks.now.journal.0 in
    let k = g.D.Disk.state c.args.disks.now.checkpoints in
    runs_then j (g.D.Disk.state c.reopen.new.self.0) (g.D.Disk.state c.reopen.new.self.0) k k (g.D.Disk.state c.reopen-2.new.self)
    (λ fault. inr (told_on c.from_residual-in_err-stable.result c.in_err-stable.field-0.0 (p.1 ∙ ap (λ (e : FileError). Err e) p.2) fault))
    (runs_journal j (g.D.Disk.state c.reopen.new.self.0) k c.reopen.ensures.keeps)
    (runs_checkpoints (g.D.Disk.state c.reopen.new.self.0) k (g.D.Disk.state c.reopen-2.new.self) c.in_err-stable.ensures.keeps)

pub returns-in_err-reserve-clause-stands : goal.returns-in_err-reserve-clause-stands
returns-in_err-reserve-clause-stands g c = λ node stands.
    stands_reserved node (g.D.Disk.state c.reopen.new.self.0) (g.D.Disk.state c.reserve.new.self.0) (g.D.Disk.state c.reopen-2.new.self)
    (stands_both node (g.D.Disk.state c.args.disks.now.journal.0) (g.D.Disk.state c.reopen.new.self.0) (g.D.Disk.state c.args.disks.now.checkpoints) (g.D.Disk.state c.reopen-2.new.self)
    c.reopen.ensures.any_moment c.reopen-2.ensures.any_moment stands)
    c.reserve.ensures.same

pub returns-in_err-reserve-clause-journal : goal.returns-in_err-reserve-clause-journal
returns-in_err-reserve-clause-journal g c =
    then_reserved (IsOneJournal (g.D.Disk.state c.args.disks.now.journal.0)) (g.D.Disk.state c.args.disks.now.journal.0) (g.D.Disk.state c.reopen.new.self.0) (g.D.Disk.state c.reserve.new.self.0)
    c.reopen.ensures.any_moment c.reserve.ensures.same

pub returns-in_err-reserve-clause-runs : goal.returns-in_err-reserve-clause-runs
returns-in_err-reserve-clause-runs g c =
    let is : c.from_residual-in_err-reserve.result ≡ Err Memory = search rules in
    runs_opened (c.from_residual-in_err-reserve.result ≡ Err Disk) (g.D.Disk.state c.args.disks.now.journal.0) (g.D.Disk.state c.reopen.new.self.0) (g.D.Disk.state c.reserve.new.self.0)
    (g.D.Disk.state c.args.disks.now.checkpoints) (g.D.Disk.state c.reopen-2.new.self)
    (no_fault c.from_residual-in_err-reserve.result is) c.reopen.ensures.keeps c.reopen-2.ensures.keeps c.reserve.ensures.same

pub returns-clause-read : goal.returns-clause-read
returns-clause-read g c =
    read_both (record { kept = c.in_ok-kept.kept; stable = c.in_ok-stable.stable })
    (g.D.Disk.state c.args.disks.now.journal.0) (g.D.Disk.state c.reopen.new.self.0) (g.D.Disk.state c.reserve.new.self.0)
    (g.D.Disk.state c.args.disks.now.checkpoints) (g.D.Disk.state c.reopen-2.new.self)
    c.reserve.ensures.same c.in_ok-kept.ensures.kept c.in_ok-kept.ensures.at_rest c.in_ok-stable.ensures.stable c.in_ok-stable.ensures.at_rest

pub returns-clause-stands : goal.returns-clause-stands
returns-clause-stands g c = λ node stands.
    stands_reserved node (g.D.Disk.state c.reopen.new.self.0) (g.D.Disk.state c.reserve.new.self.0) (g.D.Disk.state c.reopen-2.new.self)
    (stands_both node (g.D.Disk.state c.args.disks.now.journal.0) (g.D.Disk.state c.reopen.new.self.0) (g.D.Disk.state c.args.disks.now.checkpoints) (g.D.Disk.state c.reopen-2.new.self)
    c.reopen.ensures.any_moment c.reopen-2.ensures.any_moment stands)
    c.reserve.ensures.same

pub returns-clause-journal : goal.returns-clause-journal
returns-clause-journal g c =
    then_reserved (IsOneJournal (g.D.Disk.state c.args.disks.now.journal.0)) (g.D.Disk.state c.args.disks.now.journal.0) (g.D.Disk.state c.reopen.new.self.0) (g.D.Disk.state c.reserve.new.self.0)
    c.reopen.ensures.any_moment c.reserve.ensures.same

pub returns-clause-runs : goal.returns-clause-runs
returns-clause-runs g c =
    let found : Found = record { kept = c.in_ok-kept.kept; stable = c.in_ok-stable.stable } in
    runs_opened (read_so found ≡ Err Disk) (g.D.Disk.state c.args.disks.now.journal.0) (g.D.Disk.state c.reopen.new.self.0) (g.D.Disk.state c.reserve.new.self.0)
    (g.D.Disk.state c.args.disks.now.checkpoints) (g.D.Disk.state c.reopen-2.new.self)
    (found_not found) c.reopen.ensures.keeps c.reopen-2.ensures.keeps c.reserve.ensures.same

pub returns-in_err-kept-clause-calls : goal.returns-in_err-kept-clause-calls
returns-in_err-kept-clause-calls g c =
    let p = err_from_is_err_and c.from_residual.result c.from_residual.ensures.1 in
    let k = g.D.Disk.state c.args.disks.now.checkpoints in
    subst (λ (r : Result Found FileError). ReopensInTurn r (g.D.Disk.state c.args.disks.now.journal.0) (g.D.Disk.state c.reopen.new.self.0) k k)
    (sym (p.1 ∙ ap (λ (e : FileError). Err e) p.2)) (inl (c.in_err-kept.ensures.calls, refl))

pub returns-in_err-stable-clause-calls : goal.returns-in_err-stable-clause-calls
returns-in_err-stable-clause-calls g c =
    let p = err_from_is_err_and c.from_residual-in_err-stable.result c.from_residual-in_err-stable.ensures.1 in
    subst (λ (r : Result Found FileError). ReopensInTurn r (g.D.Disk.state c.args.disks.now.journal.0) (g.D.Disk.state c.reopen.new.self.0)
    (g.D.Disk.state c.args.disks.now.checkpoints) (g.D.Disk.state c.reopen-2.new.self))
    (sym (p.1 ∙ ap (λ (e : FileError). Err e) p.2)) (inr (c.in_ok-kept.ensures.calls, c.in_err-stable.ensures.calls))

pub returns-in_err-reserve-clause-calls : goal.returns-in_err-reserve-clause-calls
returns-in_err-reserve-clause-calls g c =
    let is : c.from_residual-in_err-reserve.result ≡ Err Memory = search rules in
    let j = g.D.Disk.state c.args.disks.now.journal.0 in
    let j' = g.D.Disk.state c.reserve.new.self.0 in
    let k = g.D.Disk.state c.args.disks.now.checkpoints in
    let k' = g.D.Disk.state c.reopen-2.new.self in
    subst (λ (r : Result Found FileError). ReopensInTurn r j j' k k') (sym is)
    (opened_both j j' k k' (calls_reserved j (g.D.Disk.state c.reopen.new.self.0) j' c.in_ok-kept.ensures.calls c.reserve.ensures.same, c.in_ok-stable.ensures.calls))

pub returns-clause-calls : goal.returns-clause-calls
returns-clause-calls g c = (
  calls_reserved (g.D.Disk.state c.args.disks.now.journal.0) (g.D.Disk.state c.reopen.new.self.0) (g.D.Disk.state c.reserve.new.self.0) c.in_ok-kept.ensures.calls c.reserve.ensures.same,
  c.in_ok-stable.ensures.calls,
)
