use Rattle.std.proofs.Common.{◌≡◌, ◌∙◌, [], ap, rules}
use Rattle.std.specs.Prelude.{Err}
use Rattle.record_file.specs.Records.{lists}
use Rattle.record_file.specs.declared.error.FileError.TheVariants.{Memory}
use Rattle.record_file.proofs.OpenLemmas.{opened_calls}
use Rattle.checkpoint_store.proofs.DiskLemmas.{disk_is, found_records, opened_left, opens, reads_so, rests_so, at_rest_open}
use Rattle.checkpoint_store.proofs.checkpoints.Checkpoints.reopen.Goals as goal

pub reopen-requires : goal.reopen-requires
reopen-requires g c = let has = rw (← c.self.view_is) at c.requires in disk_is _ has

pub returns-in_err-pieces-clause-left : goal.returns-in_err-pieces-clause-left
returns-in_err-pieces-clause-left g c = let has = rw (← c.self.view_is) at c.requires in opened_left _ _ has c.reopen.ensures.any_moment

pub returns-in_err-pieces-clause-any_moment : goal.returns-in_err-pieces-clause-any_moment
returns-in_err-pieces-clause-any_moment g c =
    let has = rw (← c.self.view_is) at c.requires in rw (← c.self.view_is) (opens _ _ has c.reopen.ensures.any_moment)

pub stable_of-requires : goal.stable_of-requires
stable_of-requires g c =
    let has = rw (← c.self.view_is) at c.requires in
    let found = found_records _ (lists c.in_ok-pieces.pieces.items) has c.in_ok-pieces.ensures.records in
    (found.0, found.1, ap lists c.deref.ensures.value ∙ found.2)

pub returns-in_err-stable_of-clause-left : goal.returns-in_err-stable_of-clause-left
returns-in_err-stable_of-clause-left g c = let has = rw (← c.self.view_is) at c.requires in opened_left _ _ has c.in_ok-pieces.ensures.any_moment

pub returns-in_err-stable_of-clause-calls : goal.returns-in_err-stable_of-clause-calls
returns-in_err-stable_of-clause-calls g c =
    let is : c.from_residual-in_err-stable_of.result ≡ Err Memory = search rules in
    rw (← c.self.view_is) (opened_calls _ _ _ is c.in_ok-pieces.ensures.calls)

pub returns-in_err-stable_of-clause-any_moment : goal.returns-in_err-stable_of-clause-any_moment
returns-in_err-stable_of-clause-any_moment g c =
    let has = rw (← c.self.view_is) at c.requires in rw (← c.self.view_is) (opens _ _ has c.in_ok-pieces.ensures.any_moment)

pub returns-clause-stable : goal.returns-clause-stable
returns-clause-stable g c =
    let has = rw (← c.self.view_is) at c.requires in
    let pieces = lists c.in_ok-pieces.pieces.items in
    let found = found_records _ pieces has c.in_ok-pieces.ensures.records in
    rw (← c.self.view_is)
    (reads_so _ (g.D.Disk.state c.reopen.new.self.0) pieces found.0 found.1 found.2 c.in_ok-stable_of.field-0
    (c.in_ok-stable_of.ensures found.0 found.1 (ap lists c.deref.ensures.value ∙ found.2)) c.in_ok-pieces.ensures.records)

pub returns-clause-at_rest : goal.returns-clause-at_rest
returns-clause-at_rest g c =
    let has = rw (← c.self.view_is) at c.requires in
    let pieces = lists c.in_ok-pieces.pieces.items in
    let found = found_records _ pieces has c.in_ok-pieces.ensures.records in
    rests_so [] (g.D.Disk.state c.reopen.new.self.0) pieces found.0 found.1 found.2 c.in_ok-stable_of.field-0
    (c.in_ok-stable_of.ensures found.0 found.1 (ap lists c.deref.ensures.value ∙ found.2)) c.in_ok-pieces.ensures.at_rest

pub returns-clause-open : goal.returns-clause-open
returns-clause-open g c =
    let has = rw (← c.self.view_is) at c.requires in
    let pieces = lists c.in_ok-pieces.pieces.items in
    let found = found_records _ pieces has c.in_ok-pieces.ensures.records in
    at_rest_open _ c.in_ok-stable_of.field-0
    (rests_so [] (g.D.Disk.state c.reopen.new.self.0) pieces found.0 found.1 found.2 c.in_ok-stable_of.field-0
    (c.in_ok-stable_of.ensures found.0 found.1 (ap lists c.deref.ensures.value ∙ found.2)) c.in_ok-pieces.ensures.at_rest)

pub returns-clause-left : goal.returns-clause-left
returns-clause-left g c = let has = rw (← c.self.view_is) at c.requires in opened_left _ _ has c.in_ok-pieces.ensures.any_moment

pub returns-clause-calls : goal.returns-clause-calls
returns-clause-calls g c = rw (← c.self.view_is) c.in_ok-pieces.ensures.calls

pub returns-clause-any_moment : goal.returns-clause-any_moment
returns-clause-any_moment g c =
    let has = rw (← c.self.view_is) at c.requires in rw (← c.self.view_is) (opens _ _ has c.in_ok-pieces.ensures.any_moment)
