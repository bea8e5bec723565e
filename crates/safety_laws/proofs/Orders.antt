-- A log whose entries are in order rises.
use Rattle.std.proofs.Common.{inl, inr, subst, arith, List, [], ◌∷◌}
use Rattle.std.proofs.lemmas.List.Elements.{All-tail}
use Rattle.std.specs.List.{All, AllPairs}
use Rattle.rs_optime.specs.declared.optime.OpTime.{OpTime}
use Rattle.oplog_entry.specs.declared.entry.Entry.{Entry}
use Rattle.oplog_entry.specs.Log.{StandsBefore}
use Rattle.oplog_store.proofs.Keeps.{pairs_head, pairs_tail}
use Rattle.commit_machine.specs.Words.{Follows, Has, Rises}

followed_by_all : (entry : Entry) (log : List Entry) → All (StandsBefore entry) log → (o : OpTime) → Has o log → Follows entry.optime o
followed_by_all entry [] all o has = absurd has
followed_by_all entry (next ∷ log) all o (inl same) =
    let before : StandsBefore entry next = all 0 next (omega arith) in
    subst (λ p. Follows entry.optime p) same (before.earlier, before.term)
followed_by_all entry (next ∷ log) all o (inr there) = followed_by_all entry log (All-tail (StandsBefore entry) next log all) o there

pub rises_of : (log : List Entry) → AllPairs StandsBefore log → Rises log
rises_of [] pairs = tt
rises_of (entry ∷ log) pairs =
    (followed_by_all entry log (pairs_head StandsBefore entry log pairs), rises_of log (pairs_tail StandsBefore entry log pairs))
