use Rattle.std.proofs.Common.{◌≡◌, ◌∙◌, Err, inr, refl, rules, subst, sym}
use Rattle.sync_words.specs.declared.stop.SyncStop.TheVariants.{Memory}
use Rattle.std.specs.List.{All}
use Rattle.std.specs.Prelude.{IsSome}
use Rattle.oplog_entry.specs.Step.{id_key}
use Rattle.set_model.specs.Run.{Sizes}
use Rattle.safety_laws.specs.Majority.{MajorityLogsAreFit}
use Rattle.sync_pin.proofs.AskLemmas.{documents_keyed, documents_told, dump_some}
use Rattle.sync_pin.proofs.EventLemmas.{dump_is_for}
use Rattle.sync_pin.proofs.asking.ask_documents.Goals as goal

pub step-requires-clause-command : goal.step-requires-clause-command
step-requires-clause-command g c κs within = dump_is_for c.args.node _ c.requires.node

pub unreachable-requires : goal.unreachable-requires
unreachable-requires g c =
    dump_some (g.S.Stepper.sizes c.args.set.now) c.args.node (g.S.Stepper.known c.args.set.now) (g.S.Stepper.known c.step.new.set) c.requires.up c.in_ok-told.told c.in_ok-told.ensures.tells c.in_default.ensures

pub keyed-requires : goal.keyed-requires
keyed-requires g c =
    let sizes = g.S.Stepper.sizes c.args.set.now in
    let new = g.S.Stepper.known c.step.new.set in
    let fit : MajorityLogsAreFit sizes new = subst (λ (s : Sizes). MajorityLogsAreFit s new) c.step.ensures.sizes
    (c.majority_logs_are_fit.ensures _ _ c.step.ensures.defined.sizes_are c.step.ensures.defined.run) in
    subst (All (λ one. IsSome (id_key one.1))) (sym c.as_slice.ensures)
    (documents_keyed sizes c.args.node (g.S.Stepper.known c.args.set.now) new c.requires.up c.in_ok-told.told c.in_ok-told.ensures.tells c.in-Some.documents c.in-Some.ensures fit)

pub returns-clause-ok : goal.returns-clause-ok
returns-clause-ok g c =
    documents_told (g.S.Stepper.sizes c.args.set.now) c.args.node (g.S.Stepper.known c.args.set.now) (g.S.Stepper.known c.step.new.set) c.requires.up c.in_ok-told.told c.in_ok-told.ensures.tells
    c.in-Some.documents c.in-Some.ensures c.in_ok-keyed.field-0.items (c.in_ok-keyed.ensures.listed ∙ c.as_slice.ensures)

pub returns-in_err-keyed-clause-err : goal.returns-in_err-keyed-clause-err
returns-in_err-keyed-clause-err g c =
    let is : c.from_residual-in_err-keyed.result ≡ Err Memory = search rules in
    rw is (refl, inr (c.in_ok-told.told, c.in_ok-told.ensures.tells))
