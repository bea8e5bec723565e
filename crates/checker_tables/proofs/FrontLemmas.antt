-- What is kept of a prefix of a log is still right when the log changes after that prefix.
use Rattle.std.proofs.Common.{◌≡◌, ◌∙◌, ◌≤◌, ℕ, List, ◌++◌, length, take, ap, sym, subst, refl, arith}
use Rattle.std.specs.Prelude.{filter, insert}
use Rattle.std.specs.List.{AllPairs}
use Rattle.std.proofs.lemmas.List.{length-append, take-append-le, take-take, take_all, take_at}
use Rattle.doc_shelf.specs.Shelf.{IsOfFront, Shelf, shelf_of}
use Rattle.doc_shelf.proofs.ShelfLemmas.{documents_shelf}
use Rattle.oplog_entry.specs.Docs.{docs}
use Rattle.oplog_entry.specs.Visible.{is_before, log_up_to}
use Rattle.oplog_entry.specs.declared.entry.Entry.{Entry}
use Rattle.oplog_store.specs.Log.{IsOplog, StandsBefore, with_entry}
use Rattle.rs_optime.specs.declared.optime.OpTime.{OpTime}
use Rattle.checker_tables.specs.SessionTable.{IsTableOf, Table}
use Rattle.checker_tables.specs.Touching.{EndAll, Ends}
use Rattle.checker_tables.proofs.JournalLemmas.{up_to_first}
use Rattle.checker_tables.proofs.LogLemmas.{placed}
use Rattle.checker_tables.proofs.SessionLemmas.{table_alike}
use Rattle.checker_tables.proofs.TouchLemmas.{ends_cut}

front_alike : (log other : List Entry) (shelf : Shelf) (count : ℕ) → length shelf.before ≤ count → count ≤ length other → take count other ≡ take count log → IsOfFront log shelf → IsOfFront other shelf
front_alike log other shelf count less within alike front =
    let same : take (length shelf.before) log ≡ take (length shelf.before) other =
    sym (take-take (length shelf.before) count log less) ∙ ap (take (length shelf.before)) (sym alike) ∙ take-take (length shelf.before) count other less in
    record { within = omega (arith, less, within); is = front.is ∙ ap shelf_of same }

-- what stands beside a log
abbrev pub StandBeside : List Entry → Shelf → Shelf → Table → Ends → Type 0
StandBeside log local majority sessions ends = IsOfFront log local × IsOfFront log majority × IsTableOf log sessions × EndAll log ends

-- entries come after it
pub beside_after : (log more : List Entry) (local majority : Shelf) (sessions : Table) (old new : Ends) → EndAll (log ++ more) new → StandBeside log local majority sessions old
    → StandBeside (log ++ more) local majority sessions new
beside_after log more local majority sessions old new ends are =
    let alike : take (length log) (log ++ more) ≡ take (length log) log = take_at log more (length log) refl ∙ sym (take_all (length log) log (omega arith)) in
    let within : length log ≤ length (log ++ more) = omega (arith, length-append log more) in (
      front_alike log (log ++ more) local (length log) are.0.within within alike are.0,
      front_alike log (log ++ more) majority (length log) are.1.within within alike are.1,
      table_alike log (log ++ more) sessions (length log) are.2.within alike are.2,
      ends,
    )

-- an entry is put into it
pub beside_inserted : (log : List Entry) (entry : Entry) (place : ℕ) (local majority : Shelf) (sessions : Table) (ends : Ends) → place ≡ length (filter (λ (e : Entry). is_before e.optime entry.optime) log)
    → IsOplog (with_entry log entry) → IsOfFront (insert log place entry) local → IsOfFront (insert log place entry) majority → IsTableOf (insert log place entry) sessions
    → EndAll (with_entry log entry) ends → StandBeside (with_entry log entry) local majority sessions ends
beside_inserted log entry place local majority sessions ends is oplog one other table ends_are =
    let same : insert log place entry ≡ with_entry log entry = ap (λ (n : ℕ). insert log n entry) is ∙ placed log entry oplog.order in (
      subst (λ (l : List Entry). IsOfFront l local) same one,
      subst (λ (l : List Entry). IsOfFront l majority) same other,
      subst (λ (l : List Entry). IsTableOf l sessions) same table,
      ends_are,
    )

-- it is cut
pub cut_alike : (at : OpTime) (log : List Entry) → AllPairs StandsBefore log → take (length (log_up_to at log)) (log_up_to at log) ≡ take (length (log_up_to at log)) log
cut_alike at log order =
    let first = up_to_first at log order in
    sym (ap (take (length (log_up_to at log))) first.1 ∙ take-append-le (length (log_up_to at log)) (log_up_to at log) first.0 (omega arith))

pub beside_cut : (at : OpTime) (log : List Entry) (local majority : Shelf) (sessions : Table) (ends : Ends) → AllPairs StandsBefore log → length local.before ≤ length (log_up_to at log) → length majority.before ≤ length (log_up_to at log)
    → IsOfFront log local → IsOfFront log majority → IsTableOf (log_up_to at log) sessions → EndAll log ends → StandBeside (log_up_to at log) local majority sessions ends
beside_cut at log local majority sessions ends order local_early majority_early one other table ends_are =
    let alike = cut_alike at log order in (
      front_alike log (log_up_to at log) local (length (log_up_to at log)) local_early (omega arith) alike one,
      front_alike log (log_up_to at log) majority (length (log_up_to at log)) majority_early (omega arith) alike other,
      table,
      ends_cut at log ends ends_are,
    )

-- ---- the whole log

-- the documents that it leaves
pub documents_whole : (log : List Entry) (count : ℕ) → count ≡ length log → (shelf_of (take count log)).documents ≡ docs log
documents_whole log count is = documents_shelf (take count log) ∙ ap docs (take_all count log (omega (arith, is)))
