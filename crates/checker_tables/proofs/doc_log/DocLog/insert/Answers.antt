use Rattle.std.proofs.Common.{◌≤◌, ◌∙◌, List, ap, arith, drop, length, refl, subst, sym}
use Rattle.std.specs.Prelude.{insert}
use Rattle.std.specs.List.{All}
use Rattle.doc_shelf.specs.Shelf.{AreApart, IsOfFront}
use Rattle.oplog_entry.specs.Visible.{is_before}
use Rattle.oplog_entry.specs.declared.entry.Entry.{Entry}
use Rattle.oplog_store.specs.Log.{IsOplog, with_entry}
use Rattle.rs_optime.proofs.MembershipLemmas.{length-passed}
use Rattle.checker_tables.specs.SessionTable.{IsTableOf}
use Rattle.checker_tables.specs.Touching.{EndAll}
use Rattle.checker_tables.proofs.FrontLemmas.{StandBeside, beside_inserted}
use Rattle.checker_tables.proofs.LogLemmas.{entry_lawful}
use Rattle.checker_tables.proofs.TouchLemmas.{IsApartAfter, apart_from_place}
use Rattle.checker_tables.proofs.doc_log.DocLog.insert.Goals as goal

pub insert-requires-clause-within : goal.insert-requires-clause-within
insert-requires-clause-within c =
    omega (arith, ap length c.before-place.ensures, length-passed (λ (e : Entry). is_before e.optime c.args.entry.optime) c.reserve.new.self.entries, ap length c.as_slice-2.ensures.entries)

pub insert-requires-clause-lawful : goal.insert-requires-clause-lawful
insert-requires-clause-lawful c = entry_lawful c.args.self.now c.args.entry c.requires

pub insert-requires-2-clause-within : goal.insert-requires-2-clause-within
insert-requires-2-clause-within c =
    omega (arith, ap length c.before-place.ensures, length-passed (λ (e : Entry). is_before e.optime c.args.entry.optime) c.reserve.new.self.entries, ap length c.as_slice-3.ensures.entries)

pub insert-requires-2-clause-lawful : goal.insert-requires-2-clause-lawful
insert-requires-2-clause-lawful c = entry_lawful c.args.self.now c.args.entry c.requires

pub insert-requires-clause-apart : goal.insert-requires-clause-apart
insert-requires-clause-apart c known =
    subst (λ (l : List Entry). All (AreApart c.args.entry) (drop (length c.before-place.result.now) l)) (sym c.as_slice-2.ensures.entries)
    (apart_from_place c.args.entry c.reserve.new.self.entries (length c.before-place.result.now) (ap length c.before-place.ensures)
    (subst (λ (l : List Entry). IsOplog (with_entry l c.args.entry)) (sym (c.reserve.ensures.entries ∙ c.self.view_is)) c.requires)
    (subst (λ (l : List Entry). IsApartAfter c.args.entry l) c.as_slice.ensures.entries
    (c.is_apart-is_apart.ensures.apart (subst (λ (l : List Entry). EndAll l c.self.inside.touches.ends) (sym (c.as_slice.ensures.entries ∙ c.reserve.ensures.entries)) c.self.invariant.4) known)))

pub insert-requires-2-clause-apart : goal.insert-requires-2-clause-apart
insert-requires-2-clause-apart c known =
    subst (λ (l : List Entry). All (AreApart c.args.entry) (drop (length c.before-place.result.now) l)) (sym c.as_slice-3.ensures.entries)
    (apart_from_place c.args.entry c.reserve.new.self.entries (length c.before-place.result.now) (ap length c.before-place.ensures)
    (subst (λ (l : List Entry). IsOplog (with_entry l c.args.entry)) (sym (c.reserve.ensures.entries ∙ c.self.view_is)) c.requires)
    (subst (λ (l : List Entry). IsApartAfter c.args.entry l) c.as_slice.ensures.entries
    (c.is_apart-is_apart.ensures.apart (subst (λ (l : List Entry). EndAll l c.self.inside.touches.ends) (sym (c.as_slice.ensures.entries ∙ c.reserve.ensures.entries)) c.self.invariant.4) known)))

pub invariant_of-self-2 : goal.invariant_of-self-2
invariant_of-self-2 c =
    let log = c.reserve.new.self.entries in
    let place = length c.before-place.result.now in
    let within : place ≤ length log = omega (arith, ap length c.before-place.ensures, length-passed (λ (e : Entry). is_before e.optime c.args.entry.optime) log) in
    let before : EndAll log c.self.inside.touches.ends = subst (λ (l : List Entry). EndAll l c.self.inside.touches.ends) (sym c.reserve.ensures.entries) c.self.invariant.4 in
    let asked : EndAll log c.is_apart-is_apart.new.self.ends =
    subst (λ (l : List Entry). EndAll l c.is_apart-is_apart.new.self.ends) c.as_slice.ensures.entries
    (c.is_apart-is_apart.ensures.ends (subst (λ (l : List Entry). EndAll l c.self.inside.touches.ends) (sym c.as_slice.ensures.entries) before)) in
    let beside =
    subst (λ (l : List Entry). StandBeside l c.insert.new.self c.insert-2.new.self c.insert-3.new.self c.note.new.self.ends) (sym (ap (λ l. l.entries) c.insert-4.ensures))
    (beside_inserted log c.args.entry place c.insert.new.self c.insert-2.new.self c.insert-3.new.self c.note.new.self.ends (ap length c.before-place.ensures)
    (subst (λ (l : List Entry). IsOplog (with_entry l c.args.entry)) (sym (c.reserve.ensures.entries ∙ c.self.view_is)) c.requires)
    (subst (λ (l : List Entry). IsOfFront (insert l place c.args.entry) c.insert.new.self) c.as_slice-2.ensures.entries c.insert.ensures)
    (subst (λ (l : List Entry). IsOfFront (insert l place c.args.entry) c.insert-2.new.self) c.as_slice-3.ensures.entries c.insert-2.ensures)
    (c.insert-3.ensures log c.args.entry refl within (subst (λ (l : List Entry). IsTableOf l c.self.inside.sessions) (sym c.reserve.ensures.entries) c.self.invariant.3))
    (c.note.ensures log asked)) in
    (c.clear.ensures c.insert-4.new.self.entries, beside.0, beside.1, beside.2, beside.3)
