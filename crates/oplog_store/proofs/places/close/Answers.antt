use Rattle.oplog_store.proofs.PlaceLemmas.{moved_closed}
use Rattle.oplog_store.proofs.places.close.Goals as goal

pub returns-then-is_open_at : goal.returns-then-is_open_at
returns-then-is_open_at c = λ settled held. moved_closed settled c.args.beyond.now.items c.place_from-place.result c.args.at (c.is_open_at.ensures c.if-is_open_at.true) held
