use Rattle.std.proofs.Common.{◌≡◌, ◌∙◌, ap, inr, refl, sym, subst, ℕ, Bool, true, Option, None, Some, Ok, Err}
use Rattle.std.specs.Prelude.{◌↔◌, IfSome, IsErrOf, IsSome, OnErr, Result}
use Rattle.set_model.specs.Disk.{recovered, settled_doubt}
use Rattle.set_model.specs.Node.{Node}
use Rattle.set_model.specs.Stores.{storing}
use Rattle.record_file.specs.declared.error.FileError.{FileError}
use Rattle.record_file.specs.declared.error.FileError.TheVariants.{Disk}
use Rattle.set_model.specs.declared.store.Store.{Store}
use Rattle.node_core.specs.Acting.{Follows, IsThere}
use Rattle.node_core.specs.declared.coming_up.Found.{Found}
use Rattle.node_core.specs.Coming.{IsFound, is_there, settled}
use Rattle.node_core.specs.Down.{down_node, down_state, seen_node}
use Rattle.node_core.specs.Opening.{ReopensInTurn}
use Rattle.node_core.proofs.ActingLemmas.{past_first}
use Rattle.node_core.proofs.PuttingLemmas.{runs_as, runs_then}
use Rattle.node_core.proofs.ReopeningLemmas.{found_settles, found_there, goes_up, lies_on, opened_both, reopened, stands_checkpoints}
use Rattle.node_core.proofs.coming_up.come_up.Goals as goal

-- what is there was in doubt
there_doubt : (doubt : Option Store) (count : ℕ) (found : Found) → is_there doubt count found ≡ true → IsSome doubt
there_doubt None count found is = absurd (cc)
there_doubt (Some item) count found is = refl

disk_error : (error : FileError) → error ≡ Disk → IsErrOf {T = Found} {E = FileError} (Err error) Disk
disk_error error is = ap (λ (e : FileError). Err e) is

on_err : {T E : Type 0} (result : Result T E) (P : Type 0) → P → OnErr result P
on_err (Ok value) P holds = tt
on_err (Err error) P holds = holds

pub open_both-requires-clause-checkpoints : goal.open_both-requires-clause-checkpoints
open_both-requires-clause-checkpoints g c =
    stands_checkpoints (down_node c.args.state.now.node (down_state c.args.left.now)) (g.D.Disk.state c.args.disks.now.journal.0) (g.D.Disk.state c.args.disks.now.checkpoints)
    c.requires.lies.stands

pub prepare-requires-clause-found : goal.prepare-requires-clause-found
prepare-requires-clause-found g c κs within =
    let node = down_node c.args.state.now.node (down_state c.args.left.now) in
    subst (λ (n : ℕ). IsFound (settled node n c.in-Ok.found) c.in-Ok.found) (sym c.open_both.ensures.count)
    (found_settles node c.args.disks.now.count (g.D.Disk.state c.args.disks.now.journal.0) (g.D.Disk.state c.open_both.new.disks.journal.0)
    (g.D.Disk.state c.args.disks.now.checkpoints) (g.D.Disk.state c.open_both.new.disks.checkpoints) c.in-Ok.found c.requires.lies c.in-Ok.ensures.read).0

pub returns-in_err-prepared-in-Ok-clause-left : goal.returns-in_err-prepared-in-Ok-clause-left
returns-in_err-prepared-in-Ok-clause-left g c =
    let node = down_node c.args.state.now.node (down_state c.args.left.now) in
    on_err c.from_residual.result _
    (lies_on c.args.up.now c.args.state.now.node (down_state c.args.left.now) c.args.disks.now.count c.open_both.new.disks.count
    (g.D.Disk.state c.args.disks.now.journal.0) (g.D.Disk.state c.open_both.new.disks.journal.0)
    (g.D.Disk.state c.args.disks.now.checkpoints) (g.D.Disk.state c.open_both.new.disks.checkpoints)
    c.requires.down c.open_both.ensures.count c.requires.lies (c.open_both.ensures.stands node c.requires.lies.stands))

pub returns-in_err-prepared-in-Ok-clause-reopened : goal.returns-in_err-prepared-in-Ok-clause-reopened
returns-in_err-prepared-in-Ok-clause-reopened g c =
    on_err c.from_residual.result _
    (reopened (g.D.Disk.state c.args.disks.now.journal.0) (g.D.Disk.state c.open_both.new.disks.journal.0)
    (g.D.Disk.state c.args.disks.now.checkpoints) (g.D.Disk.state c.open_both.new.disks.checkpoints)
    (opened_both (g.D.Disk.state c.args.disks.now.journal.0) (g.D.Disk.state c.open_both.new.disks.journal.0)
    (g.D.Disk.state c.args.disks.now.checkpoints) (g.D.Disk.state c.open_both.new.disks.checkpoints) c.in-Ok.ensures.calls) c.in-Ok.ensures.runs c.open_both.ensures.journal c.open_both.ensures.checkpoints)

pub go_up-requires-clause-well : goal.go_up-requires-clause-well
go_up-requires-clause-well g c =
    let node = down_node c.args.state.now.node (down_state c.args.left.now) in
    let prepared = c.in_ok-prepared-in-Ok.prepared in
    (goes_up node (down_node c.args.state.now.node (down_state prepared.left)) c.args.disks.now.count prepared.count c.in-Ok.found
    (g.D.Disk.state c.args.disks.now.journal.0) (g.D.Disk.state c.open_both.new.disks.journal.0)
    (g.D.Disk.state c.args.disks.now.checkpoints) (g.D.Disk.state c.open_both.new.disks.checkpoints)
    c.requires.lies c.in-Ok.ensures.read (c.in_ok-prepared-in-Ok.ensures.left ∙ ap (λ (n : ℕ). settled node n c.in-Ok.found) c.open_both.ensures.count)
    c.in_ok-prepared-in-Ok.ensures.prepared.count).0

pub go_up-requires-clause-rests : goal.go_up-requires-clause-rests
go_up-requires-clause-rests g c =
    let node = down_node c.args.state.now.node (down_state c.args.left.now) in
    let prepared = c.in_ok-prepared-in-Ok.prepared in
    (goes_up node (down_node c.args.state.now.node (down_state prepared.left)) c.args.disks.now.count prepared.count c.in-Ok.found
    (g.D.Disk.state c.args.disks.now.journal.0) (g.D.Disk.state c.open_both.new.disks.journal.0)
    (g.D.Disk.state c.args.disks.now.checkpoints) (g.D.Disk.state c.open_both.new.disks.checkpoints)
    c.requires.lies c.in-Ok.ensures.read (c.in_ok-prepared-in-Ok.ensures.left ∙ ap (λ (n : ℕ). settled node n c.in-Ok.found) c.open_both.ensures.count)
    c.in_ok-prepared-in-Ok.ensures.prepared.count).1

pub returns-in_ok-prepared-in-Ok-clause-follows : goal.returns-in_ok-prepared-in-Ok-clause-follows
returns-in_ok-prepared-in-Ok-clause-follows g c =
    let node = down_node c.args.state.now.node (down_state c.args.left.now) in
    let prepared = c.in_ok-prepared-in-Ok in
    subst (λ (n : Node). Follows (storing node (recovered n)) (seen_node c.go_up.new.up c.go_up.new.state.node (down_state c.go_up.new.left)) c.go_up.result)
    (prepared.ensures.left ∙ ap (λ (b : Bool). settled_doubt node c.args.left.now.doubt b) (sym (c.go_up.ensures.kept ∙ prepared.ensures.kept)))
    (c.go_up.ensures.follows node)

pub returns-in_ok-prepared-in-Ok-clause-runs : goal.returns-in_ok-prepared-in-Ok-clause-runs
returns-in_ok-prepared-in-Ok-clause-runs g c =
    runs_then (g.D.Disk.state c.args.disks.now.journal.0) (g.D.Disk.state c.open_both.new.disks.journal.0) (g.D.Disk.state c.go_up.new.disks.journal.0)
    (g.D.Disk.state c.args.disks.now.checkpoints) (g.D.Disk.state c.open_both.new.disks.checkpoints) (g.D.Disk.state c.go_up.new.disks.checkpoints)
    (λ failed. inr failed) c.in-Ok.ensures.runs c.go_up.ensures.runs

pub returns-in-Err-Memory-clause-left : goal.returns-in-Err-Memory-clause-left
returns-in-Err-Memory-clause-left g c =
    let node = down_node c.args.state.now.node (down_state c.args.left.now) in
    lies_on c.args.up.now c.args.state.now.node (down_state c.args.left.now) c.args.disks.now.count c.open_both.new.disks.count
    (g.D.Disk.state c.args.disks.now.journal.0) (g.D.Disk.state c.open_both.new.disks.journal.0)
    (g.D.Disk.state c.args.disks.now.checkpoints) (g.D.Disk.state c.open_both.new.disks.checkpoints)
    c.requires.down c.open_both.ensures.count c.requires.lies (c.open_both.ensures.stands node c.requires.lies.stands)

pub returns-in-Err-Memory-clause-reopened : goal.returns-in-Err-Memory-clause-reopened
returns-in-Err-Memory-clause-reopened g c =
    reopened (g.D.Disk.state c.args.disks.now.journal.0) (g.D.Disk.state c.open_both.new.disks.journal.0)
    (g.D.Disk.state c.args.disks.now.checkpoints) (g.D.Disk.state c.open_both.new.disks.checkpoints)
    (subst (λ (e : FileError). ReopensInTurn {T = Unit {0}} (Err e) (g.D.Disk.state c.args.disks.now.journal.0) (g.D.Disk.state c.open_both.new.disks.journal.0)
    (g.D.Disk.state c.args.disks.now.checkpoints) (g.D.Disk.state c.open_both.new.disks.checkpoints)) c.in-Err-Memory.field-0-is c.in-Err-Memory.ensures.calls)
    c.in-Err-Memory.ensures.runs c.open_both.ensures.journal c.open_both.ensures.checkpoints

pub returns-in-Err-Disk-clause-rests : goal.returns-in-Err-Disk-clause-rests
returns-in-Err-Disk-clause-rests g c =
    let node = down_node c.args.state.now.node (down_state c.args.left.now) in
    lies_on c.args.up.now c.args.state.now.node (down_state c.args.left.now) c.args.disks.now.count c.open_both.new.disks.count
    (g.D.Disk.state c.args.disks.now.journal.0) (g.D.Disk.state c.open_both.new.disks.journal.0)
    (g.D.Disk.state c.args.disks.now.checkpoints) (g.D.Disk.state c.open_both.new.disks.checkpoints)
    c.requires.down c.open_both.ensures.count c.requires.lies (c.open_both.ensures.stands node c.requires.lies.stands)

pub returns-in_ok-prepared-in-Ok-clause-opening : goal.returns-in_ok-prepared-in-Ok-clause-opening
returns-in_ok-prepared-in-Ok-clause-opening g c = λ is. absurd (past_first c.go_up.result.failed c.go_up.ensures.passes is)

pub returns-in-Err-Disk-clause-opening : goal.returns-in-Err-Disk-clause-opening
returns-in-Err-Disk-clause-opening g c = λ is.
    subst (λ (e : FileError). ReopensInTurn {T = Unit {0}} (Err e) (g.D.Disk.state c.args.disks.now.journal.0) (g.D.Disk.state c.open_both.new.disks.journal.0)
    (g.D.Disk.state c.args.disks.now.checkpoints) (g.D.Disk.state c.open_both.new.disks.checkpoints)) c.in-Err-Disk.field-0-is c.in-Err-Disk.ensures.calls

pub returns-in_ok-prepared-in-Ok-clause-settles : goal.returns-in_ok-prepared-in-Ok-clause-settles
returns-in_ok-prepared-in-Ok-clause-settles g c = λ is. (
  there_doubt c.args.left.now.doubt c.open_both.new.disks.count c.in-Ok.found
      (sym c.in_ok-prepared-in-Ok.ensures.kept ∙ sym c.go_up.ensures.kept ∙ is),
  c.go_up.ensures.passes,
)

pub returns-in_ok-prepared-in-Ok-clause-found : goal.returns-in_ok-prepared-in-Ok-clause-found
returns-in_ok-prepared-in-Ok-clause-found g c = λ passes.
    let node = down_node c.args.state.now.node (down_state c.args.left.now) in
    let j = g.D.Disk.state c.args.disks.now.journal.0 in
    let k = g.D.Disk.state c.args.disks.now.checkpoints in
    let told : c.go_up.result.kept ≡ is_there c.args.left.now.doubt c.args.disks.now.count c.in-Ok.found =
    c.go_up.ensures.kept ∙ c.in_ok-prepared-in-Ok.ensures.kept ∙ ap (λ (n : ℕ). is_there c.args.left.now.doubt n c.in-Ok.found) c.open_both.ensures.count in
    subst (λ (b : Bool). IfSome c.args.left.now.doubt (λ item. b ≡ true ↔ IsThere node item j k)) (sym told)
    (found_there node c.args.disks.now.count j (g.D.Disk.state c.open_both.new.disks.journal.0) k (g.D.Disk.state c.open_both.new.disks.checkpoints)
    c.in-Ok.found c.requires.lies c.in-Ok.ensures.read)

pub returns-in-Err-Disk-clause-found : goal.returns-in-Err-Disk-clause-found
returns-in-Err-Disk-clause-found g c = λ passes. absurd (past_first c.disk_failed.result.failed passes c.disk_failed.ensures.failed)

pub returns-in-Err-Disk-clause-runs : goal.returns-in-Err-Disk-clause-runs
returns-in-Err-Disk-clause-runs g c =
    runs_as (g.D.Disk.state c.args.disks.now.journal.0) (g.D.Disk.state c.open_both.new.disks.journal.0)
    (g.D.Disk.state c.args.disks.now.checkpoints) (g.D.Disk.state c.open_both.new.disks.checkpoints)
    (λ failed. disk_error c.in-Err-Disk.field-0 c.in-Err-Disk.field-0-is) c.in-Err-Disk.ensures.runs
