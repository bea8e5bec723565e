use Rattle.std.proofs.Common.{◌∙◌, sym}
use Rattle.bson_doc.proofs.BindLemmas.{on_ok}
use Rattle.entry_bytes.proofs.AppendingLemmas.{sound_target}
use Rattle.entry_bytes.proofs.appending.put_target.Goals as goal

pub returns-clause-sound : goal.returns-clause-sound
returns-clause-sound c =
    on_ok c.put_document.result (λ _. sound_target _ c.in-Some.target (sym c.in_ok-target.ensures ∙ c.in-Some.is) c.recall_sound.ensures) c.put_document.ensures.laid
