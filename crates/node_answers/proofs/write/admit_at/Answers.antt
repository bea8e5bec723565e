use Rattle.std.proofs.Common.{◌≡◌, ◌∙◌, ap, sym, subst, None, Some, rules}
use Rattle.std.specs.Option.{option_copied}
use Rattle.std.specs.FinMap.{get}
use Rattle.oplog_entry.specs.Docs.{Documents, docs}
use Rattle.oplog_entry.specs.Visible.{log_up_to}
use Rattle.doc_update.specs.Effect.{prepared}
use Rattle.doc_update.specs.Borrowed.{shown}
use Rattle.doc_update.specs.Sound.{IsSound}
use Rattle.set_model.specs.Admitted.{or_refused}
use Rattle.set_model.specs.Holds.{holder}
use Rattle.set_model.specs.Reads.{local_documents}
use Rattle.set_model.specs.Roles.{if_primary}
use Rattle.set_model.specs.declared.role.Role.{Role}
use Rattle.node_state.specs.StateView.{StateView}
use Rattle.node_data.specs.Versions.{AreSmall}
use Rattle.node_state.proofs.StateLemmas.{local_seen}
use Rattle.node_state.proofs.Inside.{rest_in}
use Rattle.node_answers.proofs.AdmitLemmas.{admitted-held, admitted-free, refuses, effect_can}
use Rattle.node_answers.proofs.write.admit_at.Goals as goal

pub returns-in-Some : goal.returns-in-Some
returns-in-Some c =
    let stands = rw c.as_str.ensures at c.current-found.ensures.holder in
    let held : c.current-found.result.holder ≡ Some c.in-Some.writer = search rules in
    admitted-held c.args.state.now.node (shown c.args.borrowed) (c.args.ns, c.args.id) c.in-Some.writer c.requires.place
    (ap (λ (s : StateView). holder s.node (c.args.ns, c.args.id)) (sym c.state.view_is) ∙ sym stands ∙ held)

pub returns-in-Ok : goal.returns-in-Ok
returns-in-Ok c =
    let held = rw c.as_str.ensures at c.current-found.ensures.holder in
    let none : c.current-found.result.holder ≡ None = search rules in
    let free : holder c.args.state.now.node (c.args.ns, c.args.id) ≡ None = ap (λ (s : StateView). holder s.node (c.args.ns, c.args.id)) (sym c.state.view_is) ∙ sym held ∙ none in
    let stands = rw c.as_str.ensures at c.current-found.ensures.latest in
    let latest : option_copied c.current-found.result.latest ≡ get (docs c.args.state.now.node.log) (c.args.ns, c.args.id) =
    stands ∙ ap (λ (ds : Documents). get ds (c.args.ns, c.args.id)) (local_seen c.state.inside.node_data.node (rest_in c.state.inside) c.state.invariant.writable)
    ∙ ap (λ (s : StateView). get (local_documents s.node) (c.args.ns, c.args.id)) c.state.view_is
    ∙ ap (λ (r : Role). get (docs (if_primary r c.args.state.now.node.log (log_up_to c.args.state.now.node.applied c.args.state.now.node.log))) (c.args.ns, c.args.id)) c.requires.role in
    let sound = subst (λ place. IsSound place (option_copied c.current-found.result.latest) c.in-Ok.effect) c.requires.place c.in-Ok.ensures.sound in (
      admitted-free c.args.state.now.node (shown c.args.borrowed) (c.args.ns, c.args.id) c.requires.place free ∙ ap or_refused (ap (prepared (shown c.args.borrowed)) (sym latest) ∙ c.in-Ok.ensures.answer),
      free,
      effect_can c.args.state.now.node (shown c.args.borrowed) (c.args.ns, c.args.id) (option_copied c.current-found.result.latest) c.in-Ok.effect
          (subst (λ (s : StateView). AreSmall s.node.log) c.state.view_is c.recall_sound.ensures.node.documents) c.requires.sound c.requires.name c.requires.place latest c.current-found.ensures.own c.in-Ok.ensures.answer sound,
    )

pub returns-in_ok-refusal-in-Err : goal.returns-in_ok-refusal-in-Err
returns-in_ok-refusal-in-Err c =
    let held = rw c.as_str.ensures at c.current-found.ensures.holder in
    let none : c.current-found.result.holder ≡ None = search rules in
    let free : holder c.args.state.now.node (c.args.ns, c.args.id) ≡ None = ap (λ (s : StateView). holder s.node (c.args.ns, c.args.id)) (sym c.state.view_is) ∙ sym held ∙ none in
    let stands = rw c.as_str.ensures at c.current-found.ensures.latest in
    let latest : option_copied c.current-found.result.latest ≡ get (docs c.args.state.now.node.log) (c.args.ns, c.args.id) =
    stands ∙ ap (λ (ds : Documents). get ds (c.args.ns, c.args.id)) (local_seen c.state.inside.node_data.node (rest_in c.state.inside) c.state.invariant.writable)
    ∙ ap (λ (s : StateView). get (local_documents s.node) (c.args.ns, c.args.id)) c.state.view_is
    ∙ ap (λ (r : Role). get (docs (if_primary r c.args.state.now.node.log (log_up_to c.args.state.now.node.applied c.args.state.now.node.log))) (c.args.ns, c.args.id)) c.requires.role in
    admitted-free c.args.state.now.node (shown c.args.borrowed) (c.args.ns, c.args.id) c.requires.place free ∙ ap or_refused (ap (prepared (shown c.args.borrowed)) (sym latest))
    ∙ refuses c.in-Err.why c.in_ok-refusal-in-Err.field-0 (prepared (shown c.args.borrowed) (option_copied c.current-found.result.latest)) c.in-Err.ensures.answer c.in_ok-refusal-in-Err.ensures
