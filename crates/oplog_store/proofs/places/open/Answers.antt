use Rattle.std.proofs.Common.{◌∷◌, ◌++◌, [], subst, sym, List}
use Rattle.oplog_store.specs.Places.{Moved}
use Rattle.oplog_store.specs.declared.places.Place.{Place}
use Rattle.oplog_store.specs.declared.places.Place.TheVariants.{Open}
use Rattle.oplog_store.proofs.PlaceLemmas.{moved_open}
use Rattle.oplog_store.proofs.places.open.Goals as goal

pub returns-then-is_ok : goal.returns-then-is_ok
returns-then-is_ok c = λ settled held last.
    subst (λ (ps : List Place). Moved settled c.args.beyond.now.items 0 settled ps 1) (sym c.push_back_reserved.ensures.items)
    (subst (λ (ps : List Place). Moved settled c.args.beyond.now.items 0 settled (ps ++ Open c.args.at ∷ []) 1) (sym c.reserve.ensures.items)
    (moved_open settled c.args.beyond.now.items c.args.at held (c.end_of.ensures settled c.args.at held last (c.precedes.ensures c.if-precedes.true))))
