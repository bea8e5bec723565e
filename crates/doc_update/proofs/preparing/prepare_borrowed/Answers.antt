use Rattle.std.specs.Option.{option_copied}
use Rattle.doc_update.specs.Check.{checked}
use Rattle.doc_update.specs.Borrowed.{shown}
use Rattle.doc_update.proofs.LoggedLemmas.{is_logged}
use Rattle.doc_update.proofs.preparing.prepare_borrowed.Goals as goal

pub returns-clause-stored : goal.returns-clause-stored
returns-clause-stored c = is_logged (checked (shown c.args.write)) (option_copied c.args.before) _ c.prepare_checked.ensures.sound
