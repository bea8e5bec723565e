use Rattle.std.proofs.Common.{◌∙◌, sym}
use Rattle.initial_sync.specs.Answers.{error_after}
use Rattle.initial_sync.specs.Pinned.{copy_of}
use Rattle.initial_sync.proofs.MomentLemmas.{copy_disks, law}
use Rattle.initial_sync.proofs.RunLemmas.{as_read, goes_on_of, moments, other_found, this_of, whole_of}
use Rattle.initial_sync.proofs.copying.copy.Goals as goal

pub returns-clause-whole : goal.returns-clause-whole
returns-clause-whole g c =
    let pinned = c.requires.pinned in
    whole_of g.D.Disk.state (copy_of c.args.pinned.now) pinned.oplog.order (λ is. pinned.above (sym pinned.last ∙ is)) _ _ c.requires.disks c.run.result c.run.ensures.ran

pub returns-clause-goes_on : goal.returns-clause-goes_on
returns-clause-goes_on g c =
    let pinned = c.requires.pinned in
    goes_on_of g.D.Disk.state (copy_of c.args.pinned.now) pinned.oplog.order (λ is. pinned.above (sym pinned.last ∙ is)) _ _ c.requires.disks c.run.result c.run.ensures.ran

pub returns-clause-other : goal.returns-clause-other
returns-clause-other g c = λ other.
    other_found (copy_of c.args.pinned.now) c.requires.pinned.oplog.order (error_after c.run.result) _ _ _ _ c.requires.disks c.run.ensures.ran other

pub returns-clause-this : goal.returns-clause-this
returns-clause-this g c =
    let pinned = c.requires.pinned in
    this_of g.D.Disk.state (copy_of c.args.pinned.now) pinned.oplog.order (λ is. pinned.above (sym pinned.last ∙ is)) _ _ c.requires.disks c.run.result c.run.ensures.ran

pub returns-clause-nothing_added : goal.returns-clause-nothing_added
returns-clause-nothing_added g c = λ other.
    as_read (copy_of c.args.pinned.now) c.requires.pinned.oplog.order (error_after c.run.result) _ _ _ _ c.requires.disks c.run.ensures.ran other

pub returns-clause-left : goal.returns-clause-left
returns-clause-left g c =
    let pinned = c.requires.pinned in
    copy_disks _ _ _ _ (copy_of c.args.pinned.now) (λ is. pinned.above (sym pinned.last ∙ is)) c.requires.disks
    (moments (copy_of c.args.pinned.now) pinned.oplog.order (error_after c.run.result) _ _ _ _ c.requires.disks c.run.ensures.ran)

pub returns-clause-any_moment : goal.returns-clause-any_moment
returns-clause-any_moment g c =
    moments (copy_of c.args.pinned.now) c.requires.pinned.oplog.order (error_after c.run.result) _ _ _ _ c.requires.disks c.run.ensures.ran

pub returns-clause-goes_on_after_a_crash : goal.returns-clause-goes_on_after_a_crash
returns-clause-goes_on_after_a_crash g c = λ leave.
    law _ _ _ _ (copy_of c.args.pinned.now)
    (moments (copy_of c.args.pinned.now) c.requires.pinned.oplog.order (error_after c.run.result) _ _ _ _ c.requires.disks c.run.ensures.ran) leave
