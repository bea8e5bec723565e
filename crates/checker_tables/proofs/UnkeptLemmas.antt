-- The entries of a log that aren't in the records, and the next record of them.
use Rattle.std.proofs.Common.{◌≡◌, ◌∙◌, ◌+◌, ◌==◌, ℕ, zero, true, not, List, [], ◌∷◌, ◌++◌, length, take, drop, refl, sym, ap, subst, arith}
use Rattle.std.specs.Prelude.{nat_lt, min}
use Rattle.std.specs.List.{All}
use Rattle.std.proofs.lemmas.Bool.Decides.{nat_tests}
use Rattle.std.proofs.lemmas.List.{length-take, take-append-drop, take-take, take_at}
use Rattle.std.proofs.lemmas.List.Elements.{All-tail, filter-append}
use Rattle.oplog_entry.specs.Lawful.{IsLawful}
use Rattle.oplog_entry.specs.declared.entry.Entry.{Entry}
use Rattle.oplog_store.specs.Log.{IsOplog}
use Rattle.oplog_store.proofs.LogLemmas.{oplog_filter}
use Rattle.oplog_store.proofs.PlaceLemmas.{oplog_front}
use Rattle.repl_msg.specs.Logs.{has_entry}
use Rattle.checker_tables.specs.Journal.{AreKept, unkept}

-- ---- prefixes of the log

-- no more are asked for
pub unkept_full : (log found so_far : List Entry) (place most : ℕ) → so_far ≡ unkept (take place log) found → length so_far ≡ most → so_far ≡ take most (unkept log found)
unkept_full log found so_far place most so full =
    let parted : unkept log found ≡ so_far ++ unkept (drop place log) found =
    ap (λ (l : List Entry). unkept l found) (sym (take-append-drop place log)) ∙ filter-append (λ (e : Entry). not (has_entry found e.optime)) (take place log) (drop place log)
    ∙ ap (λ (l : List Entry). l ++ unkept (drop place log) found) (sym so) in
    sym (ap (take most) parted ∙ take_at so_far (unkept (drop place log) found) most full)

pub none_unkept : (found log : List Entry) → All (λ (e : Entry). has_entry found e.optime ≡ true) log → unkept log found ≡ []
none_unkept found [] all = refl
none_unkept found (entry ∷ log) all =
    let here : has_entry found entry.optime ≡ true = all zero entry (omega arith) in
    rw here (none_unkept found log (All-tail (λ (e : Entry). has_entry found e.optime ≡ true) entry log all))

-- those of the first entries that are kept aren't among them
pub unkept_after : (count : ℕ) (log found : List Entry) → AreKept count log found → unkept log found ≡ unkept (drop count log) found
unkept_after count log found are =
    ap (λ (l : List Entry). unkept l found) (sym (take-append-drop count log)) ∙ filter-append (λ (e : Entry). not (has_entry found e.optime)) (take count log) (drop count log)
    ∙ ap (λ (l : List Entry). l ++ unkept (drop count log) found) (none_unkept found (take count log) are.there)

-- those of a log in order are lawful
pub unkept_lawful : (many : ℕ) (log found : List Entry) → IsOplog log → All IsLawful (take many (unkept log found))
unkept_lawful many log found oplog =
    let all : IsOplog (unkept log found) = oplog_filter (λ (e : Entry). not (has_entry found e.optime)) log oplog in
    (oplog_front (take many (unkept log found)) (drop many (unkept log found)) (subst (λ (l : List Entry). IsOplog l) (sym (take-append-drop many (unkept log found))) all)).lawful

-- ---- the next record

-- of one entry more than a record has
module _ (most : ℕ) (all next : List Entry) (is : next ≡ take (most + 1) all) where
  long : length next ≡ min (most + 1) (length all)
  long = ap length is ∙ length-take (most + 1) all

  pub next_first : take most next ≡ take most all
  next_first = ap (take most) is ∙ take-take most (most + 1) all (omega arith)

  pub next_more : nat_lt most (length next) ≡ nat_lt most (length all)
  next_more = grind (arith, nat_tests, long)

  pub next_none : (length next == 0) ≡ (length all == 0)
  next_none = grind (arith, nat_tests, long)
