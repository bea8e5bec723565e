use Rattle.bson_doc.proofs.BindLemmas.{on_ok}
use Rattle.entry_bytes.proofs.AppendingLemmas.{session_laid, sound_session}
use Rattle.entry_bytes.proofs.appending.put_numbers.Goals as goal

pub returns-clause-laid : goal.returns-clause-laid
returns-clause-laid c = on_ok c.put_number-2.result (λ laid. session_laid c.args.session c.args.out.now.items _ _ c.in_ok-put_number.ensures.laid laid) c.put_number-2.ensures.laid

pub returns-clause-sound : goal.returns-clause-sound
returns-clause-sound c = on_ok c.put_number-2.result (λ _. sound_session c.args.session c.requires) c.put_number-2.ensures.laid
