use Rattle.std.proofs.Common.{inl, inr, rules}
use Rattle.record_file.proofs.KeepsLemmas.{keeps_not, keeps_then}
use Rattle.rs_disk.specs.File.{contents}
use Rattle.node_journal.specs.Files.{HasJournal, IsAtRest}
use Rattle.node_journal.specs.Renewed.{renewed}
use Rattle.node_journal.proofs.RenewLemmas.{as_they_were, kept_from, kept_now, opened_in_form, rests_from}
use Rattle.node_journal.proofs.journal.Journal.open_renewed.Goals as goal

pub returns-in_err-read-clause-calls : goal.returns-in_err-read-clause-calls
returns-in_err-read-clause-calls g c = λ items has. inl (search rules, search rules)

pub returns-in_err-read-clause-any_moment : goal.returns-in_err-read-clause-any_moment
returns-in_err-read-clause-any_moment g c = as_they_were _ _ c.reopen.ensures.any_moment

pub renew-requires-clause-read : goal.renew-requires-clause-read
renew-requires-clause-read g c = kept_now _ _ c.in_ok-read.read c.requires c.in_ok-read.ensures.kept c.in_ok-read.ensures.at_rest

pub returns-clause-kept : goal.returns-clause-kept
returns-clause-kept g c =
    kept_from c.renew.result (λ items. IsAtRest (g.D.Disk.state c.reopen.new.self.0) items) (λ items. HasJournal (contents (g.D.Disk.state c.args.self.now.0).file) items)
    c.in_ok-read.ensures.at_rest c.renew.ensures.kept

pub returns-clause-at_rest : goal.returns-clause-at_rest
returns-clause-at_rest g c =
    rests_from c.renew.result (λ items. IsAtRest (g.D.Disk.state c.reopen.new.self.0) items) (λ items. HasJournal (contents (g.D.Disk.state c.args.self.now.0).file) items)
    (λ items. IsAtRest (g.D.Disk.state c.renew.new.self.0) (renewed items)) c.in_ok-read.ensures.at_rest c.renew.ensures.at_rest

pub returns-clause-calls : goal.returns-clause-calls
returns-clause-calls g c = λ items has. inr (_, c.in_ok-read.ensures.calls, c.renew.ensures.calls items (c.in_ok-read.ensures.at_rest items has))

pub returns-clause-any_moment : goal.returns-clause-any_moment
returns-clause-any_moment g c = opened_in_form _ _ _ c.requires c.in_ok-read.ensures.at_rest c.in_ok-read.ensures.any_moment c.renew.ensures.any_moment

pub returns-clause-keeps : goal.returns-clause-keeps
returns-clause-keeps g c = keeps_then _ _ _ (keeps_not _ _ (λ failed. cc failed) c.in_ok-read.ensures.keeps) c.renew.ensures.keeps
