use Rattle.std.proofs.Common.{IfOk, IfSome, codes, subst, ap, sym}
use Rattle.std.specs.Option.{option_copied}
use Rattle.doc_update.specs.Check.{checked}
use Rattle.doc_update.specs.Effect.{replace_prepared, update_prepared}
use Rattle.doc_update.specs.Borrowed.{shown}
use Rattle.doc_update.specs.Sound.{IsNamed, IsSound}
use Rattle.doc_update.proofs.SoundLemmas.{sound-answer, replace-sound, update-sound}
use Rattle.doc_update.proofs.preparing.prepare_checked.Goals as goal
use Rattle.doc_update.proofs.ApartLemmas.{IsDocument-under}

pub returns-in-Replace-Some-clause-sound : goal.returns-in-Replace-Some-clause-sound
returns-in-Replace-Some-clause-sound c =
    let w = c.in-Replace-Some in
    let place = checked (shown c.args.write) in
    let named = subst (λ o. IfSome (option_copied o) (λ d. IsNamed place d)) w.is-1 c.requires.own in
    sound-answer (λ p. IsSound place (option_copied c.args.before) p) _ _ c.prepare_replace.ensures
    (subst (λ o. IfOk (replace_prepared w.ns.now w.id.now w.doc.now w.before.now) (λ p. IsSound place (option_copied o) p)) (sym w.is-1)
    (replace-sound w.ns.now w.id.now w.doc.now w.before.now place (ap (λ borrowed. checked (shown borrowed)) w.is-0) named))

pub returns-in-Update-Some-clause-sound : goal.returns-in-Update-Some-clause-sound
returns-in-Update-Some-clause-sound c =
    let w = c.in-Update-Some in
    let place = checked (shown c.args.write) in
    let named = subst (λ o. IfSome (option_copied o) (λ d. IsNamed place d)) w.is-1 c.requires.own in
    sound-answer (λ p. IsSound place (option_copied c.args.before) p) _ _ c.prepare_update.ensures
    (subst (λ o. IfOk (update_prepared w.ns.now w.id.now w.operators.now w.before.now) (λ p. IsSound place (option_copied o) p)) (sym w.is-1)
    (update-sound w.ns.now w.id.now w.operators.now w.before.now place (ap (λ borrowed. checked (shown borrowed)) w.is-0) named (IsDocument-under (codes "$unset") w.operators.now c.recall_sound.ensures.1)))
