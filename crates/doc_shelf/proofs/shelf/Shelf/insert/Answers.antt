use Rattle.doc_shelf.proofs.InsertLemmas.{still_front}
use Rattle.std.proofs.Common.{arith}
use Rattle.doc_shelf.proofs.ShelfLemmas.{none_of_front}
use Rattle.std.specs.Prelude.{insert}
use Rattle.doc_shelf.proofs.shelf.Shelf.insert.Goals as goal

pub returns-then-not-is_apart : goal.returns-then-not-is_apart
returns-then-not-is_apart c =
    still_front c.args.entries.now c.back_to.new.self c.args.place c.args.entry.now c.back_to.ensures.front c.requires.within c.back_to.ensures.count

pub returns-then-count-place : goal.returns-then-count-place
returns-then-count-place c =
    still_front c.args.entries.now c.args.self.now c.args.place c.args.entry.now c.requires.front c.requires.within (omega arith)

pub returns-then-is_err : goal.returns-then-is_err
returns-then-is_err c = none_of_front (insert c.args.entries.now c.args.place c.args.entry.now) c.clear.new.self c.clear.ensures
