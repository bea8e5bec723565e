use Rattle.std.proofs.Common.{◌≡◌, [], drop, filter}
use Rattle.oplog_entry.specs.Step.{is_at, place_of}
use Rattle.explore_steps.proofs.looking.last_of_document.Given as goal

abbrev pub invariant-loop-place : goal.invariant-loop-place
invariant-loop-place l = filter (λ entry. is_at (place_of entry.op) (l.collection, l.key)) (drop l.place l.entries) ≡ []
