use Rattle.std.proofs.Common.{◌≡◌, [], ap, inl, inr, refl, subst, sym, true, Err, Ok}
use Rattle.checkpoint_store.specs.Files.{empty_disk}
use Rattle.node_journal.specs.Files.{OpensInForm}
use Rattle.set_model.specs.Node.{opening_node}
use Rattle.record_file.specs.declared.error.FileError.TheVariants.{Disk}
use Rattle.node_core.specs.Acting.{RunsWithoutOrders}
use Rattle.node_core.specs.Opening.{unopened_node}
use Rattle.node_core.specs.Stands.{StandsSince}
use Rattle.node_core.proofs.PuttingLemmas.{runs_as, runs_checkpoints, runs_journal, runs_then}
use Rattle.node_core.proofs.OpeningLemmas.{both_begun, empty_journal, journal_begun, opens_rested}
use Rattle.node_core.proofs.disks.Disks.open.Goals as goal

pub open-requires-2 : goal.open-requires-2
open-requires-2 g c = empty_disk (g.D.Disk.state c.args.checkpoint) c.requires.checkpoint

pub returns-in-Ok-open-clause-rests : goal.returns-in-Ok-open-clause-rests
returns-in-Ok-open-clause-rests g c = λ config number.
    let empty = empty_journal (g.D.Disk.state c.args.journal) c.requires.journal in
    opens_rested config number (opening_node config number) c.in-Ok.kept c.in-Ok.kept.count (g.D.Disk.state c.in-Ok.journal.0) (g.D.Disk.state c.args.checkpoint)
    (g.D.Disk.state c.in-Ok-open.checkpoints) c.in-Ok-open.field-0-1 refl (c.in-Ok.ensures.kept [] empty) refl (c.in-Ok.ensures.at_rest [] empty) c.requires.checkpoint
    c.in-Ok-open.ensures.stable c.in-Ok-open.ensures.at_rest

pub returns-in-Err-clause-any_moment : goal.returns-in-Err-clause-any_moment
returns-in-Err-clause-any_moment g c = λ config number.
    let k = g.D.Disk.state c.args.checkpoint in
    journal_begun config number (g.D.Disk.state c.args.journal) (g.D.Disk.state c.in-Err.journal) k k c.requires.journal c.requires.checkpoint
    c.in-Err.ensures.any_moment

pub returns-clause-any_moment : goal.returns-clause-any_moment
returns-clause-any_moment g c = λ config number.
    let j = g.D.Disk.state c.args.journal in
    let k = g.D.Disk.state c.args.checkpoint in
    let k' = g.D.Disk.state c.in-Err-open.checkpoint in
    subst (λ (disk : g.row.D.Denot). StandsSince (unopened_node config number) j (g.D.Disk.state disk) k k') (sym c.close.ensures.disk)
    (both_begun config number j (g.D.Disk.state c.in-Ok.journal.0) k k' c.requires.journal c.requires.checkpoint
    c.in-Ok.ensures.any_moment c.in-Err-open.ensures.any_moment)

pub returns-in-Ok-open-clause-any_moment : goal.returns-in-Ok-open-clause-any_moment
returns-in-Ok-open-clause-any_moment g c = λ config number.
    both_begun config number (g.D.Disk.state c.args.journal) (g.D.Disk.state c.in-Ok.journal.0) (g.D.Disk.state c.args.checkpoint)
    (g.D.Disk.state c.in-Ok-open.checkpoints) c.requires.journal c.requires.checkpoint c.in-Ok.ensures.any_moment c.in-Ok-open.ensures.any_moment

pub returns-in-Err-clause-calls : goal.returns-in-Err-clause-calls
returns-in-Err-clause-calls g c = inl (c.in-Err.ensures.calls [] (empty_journal (g.D.Disk.state c.args.journal) c.requires.journal), refl)

pub returns-clause-calls : goal.returns-clause-calls
returns-clause-calls g c =
    inr (
      subst (λ (disk : g.row.D.Denot). OpensInForm {T = Unit {0}} true (Ok tt) (g.D.Disk.state c.args.journal) (g.D.Disk.state disk)) (sym c.close.ensures.disk) (c.in-Ok.ensures.calls [] (empty_journal (g.D.Disk.state c.args.journal) c.requires.journal)),
      c.in-Err-open.ensures.calls,
    )

pub returns-in-Ok-open-clause-calls : goal.returns-in-Ok-open-clause-calls
returns-in-Ok-open-clause-calls g c = (c.in-Ok.ensures.calls [] (empty_journal (g.D.Disk.state c.args.journal) c.requires.journal), c.in-Ok-open.ensures.calls)

pub returns-in-Err-clause-runs : goal.returns-in-Err-clause-runs
returns-in-Err-clause-runs g c =
    let j = g.D.Disk.state c.args.journal in
    let j' = g.D.Disk.state c.in-Err.journal in
    let k = g.D.Disk.state c.args.checkpoint in
    runs_as j j' k k (λ fault. ap Err fault) (runs_journal j j' k c.in-Err.ensures.keeps)

pub returns-clause-runs : goal.returns-clause-runs
returns-clause-runs g c =
    let j = g.D.Disk.state c.args.journal in
    let j' = g.D.Disk.state c.in-Ok.journal.0 in
    let k = g.D.Disk.state c.args.checkpoint in
    let k' = g.D.Disk.state c.in-Err-open.checkpoint in
    subst (λ (disk : g.row.D.Denot). RunsWithoutOrders (c.in-Err-open.error ≡ Disk) j (g.D.Disk.state disk) k k') (sym c.close.ensures.disk)
    (runs_then j j' j' k k k' (λ fault. inr (ap Err fault)) (runs_journal j j' k c.in-Ok.ensures.keeps) (runs_checkpoints j' k k' c.in-Err-open.ensures.keeps))
