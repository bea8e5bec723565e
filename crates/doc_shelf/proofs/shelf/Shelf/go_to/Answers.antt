use Rattle.doc_shelf.proofs.ShelfLemmas.{none_of_front}
use Rattle.doc_shelf.proofs.shelf.Shelf.go_to.Goals as goal

pub returns-in-Err-clause-front : goal.returns-in-Err-clause-front
returns-in-Err-clause-front c = none_of_front c.args.entries.now c.clear.new.self c.clear.ensures
