use Rattle.std.proofs.Common.{◌≡◌, ◌∙◌, ◌<◌, ◌-◌, ◌∷◌, ap, arith, subst, sym, List}
use Rattle.oplog_store.specs.Log.{Log, with_entry}
use Rattle.oplog_store.specs.Places.{IsHeld, Moved}
use Rattle.oplog_store.specs.declared.places.Place.{Place}
use Rattle.oplog_store.specs.declared.places.Place.TheVariants.{Written}
use Rattle.oplog_store.proofs.PlaceLemmas.{first_stays, moved_empty, moved_entry, written_rest}
use Rattle.oplog_store.proofs.places.move_first.Goals as goal

pub insert-requires-clause-stays : goal.insert-requires-clause-stays
insert-requires-clause-stays c =
    let rest = c.pop_front.new.self.items in
    let is : c.args.beyond.now.items ≡ Written c.in-Some-into_entry.entry ∷ rest = c.in-Some.ensures.items ∙ ap (λ (p : Place). p ∷ rest) c.in-Some-into_entry.ensures in
    first_stays c.args.settled.now.entries c.in-Some-into_entry.entry rest (subst (IsHeld c.args.settled.now.entries) is c.requires.held)

pub returns-in-Some-into_entry-clause-moved : goal.returns-in-Some-into_entry-clause-moved
returns-in-Some-into_entry-clause-moved c =
    let log = c.args.settled.now in
    let rest = c.pop_front.new.self.items in
    let is : c.args.beyond.now.items ≡ Written c.in-Some-into_entry.entry ∷ rest = c.in-Some.ensures.items ∙ ap (λ (p : Place). p ∷ rest) c.in-Some-into_entry.ensures in
    let some : 0 < log.spare = omega (arith, c.requires.some, c.requires.room) in
    subst (λ (l : Log). Moved log.entries c.args.beyond.now.items log.spare l.entries rest l.spare) (sym c.insert.ensures)
    (subst (λ (ps : List Place). Moved log.entries ps log.spare (with_entry log.entries c.in-Some-into_entry.entry) rest (log.spare - 1)) (sym is)
    (moved_entry log.entries c.in-Some-into_entry.entry rest log.spare (subst (IsHeld log.entries) is c.requires.held) some))

pub returns-in-None-clause-moved : goal.returns-in-None-clause-moved
returns-in-None-clause-moved c =
    let log = c.args.settled.now in
    let rest = c.pop_front.new.self.items in
    subst (λ (ps : List Place). Moved log.entries ps log.spare log.entries rest log.spare) (sym c.in-Some.ensures.items)
    (moved_empty log.entries c.in-Some.place rest log.spare (written_rest c.in-Some.place rest c.in-None.ensures) (subst (IsHeld log.entries) c.in-Some.ensures.items c.requires.held))
