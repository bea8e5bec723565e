-- Which first entries of a log are in the records, and what may come after these.
use Rattle.std.proofs.Common.{◌≡◌, ◌∙◌, ◌≤◌, ◌<◌, ◌+◌, ◌||◌, ℕ, zero, suc, Bool, true, false, cond, not, nat_lt, None, Some, List, [], ◌∷◌, ◌++◌, length, take, drop, get_or, ap, sym, subst, refl, arith}
use Rattle.std.specs.Prelude.{◌==◌, filter, insert}
use Rattle.std.specs.List.{All, AllPairs, list_any}
use Rattle.std.proofs.lemmas.Bool.Decides.{nat_tests}
use Rattle.std.proofs.lemmas.List.{length-append, length-take-le, take-append-drop, take-append-le, take-take, take_more}
use Rattle.std.proofs.lemmas.List.Edits.{length-insert}
use Rattle.std.proofs.lemmas.List.Elements.{All-append, All-cons, All-tail}
use Rattle.std.proofs.lemmas.List.Kept.{AllPairs-cons}
use Rattle.std.proofs.lemmas.List.Sums.{fold-append}
use Rattle.rs_optime.specs.declared.optime.OpTime.{OpTime}
use Rattle.rs_optime.proofs.Optimes.{before_trans}
use Rattle.oplog_entry.specs.Lawful.{IsLawful}
use Rattle.oplog_entry.specs.Visible.{is_before, log_up_to}
use Rattle.oplog_entry.specs.declared.entry.Entry.{Entry}
use Rattle.oplog_entry.proofs.LogLemmas.{stands_before}
use Rattle.oplog_store.specs.Log.{IsOplog, StandsBefore, with_entry}
use Rattle.oplog_store.proofs.Keeps.{pairs_head, pairs_tail}
use Rattle.oplog_store.proofs.LogLemmas.{oplog_filter}
use Rattle.oplog_store.proofs.PlaceLemmas.{all_front}
use Rattle.repl_msg.specs.Kept.{kept, with_entries, with_record}
use Rattle.repl_msg.specs.Logs.{has_entry, same_optime}
use Rattle.repl_msg.specs.declared.record.Kept.{Kept}
use Rattle.repl_msg.specs.declared.record.Record.{Record}
use Rattle.repl_msg.specs.declared.record.Record.TheVariants as records
use Rattle.repl_msg.proofs.HasLemmas.{has_filter}
use Rattle.repl_msg.proofs.KeptLemmas.{kept_more}
use Rattle.set_model.specs.Disk.{has_more}
use Rattle.set_model.specs.Stores.{records_after}
use Rattle.set_model.specs.declared.store.Store.{Store}
use Rattle.set_model.specs.declared.store.Store.TheVariants as stores
use Rattle.checker_tables.specs.Journal.{AreJournaled, AreKept, cut_of, has_entries}

-- ---- what the records come to

-- a record that has no entries leaves a log in order
pub other_oplog : (items : List Record) (item : Store) → has_entries item ≡ false → IsOplog (kept items).entries → IsOplog (kept (records_after items item)).entries
other_oplog items (stores.Checkpoint at) other oplog = oplog
other_oplog items (stores.Record item) other oplog = subst (λ (k : Kept). IsOplog k.entries) (sym (kept_more items item)) (by_record (kept items) item other oplog)
  where
    by_record : (found : Kept) (item : Record) → has_entries (stores.Record item) ≡ false → IsOplog found.entries → IsOplog (with_record found item).entries
    by_record found (records.Entries list point) other oplog = absurd (cc other)
    by_record found (records.Vote vote) other oplog = oplog
    by_record found (records.Config config) other oplog = oplog
    by_record found (records.Cut at) other oplog = oplog_filter (λ (entry : Entry). not (is_before at entry.optime)) found.entries oplog
    by_record found (records.Form form) other oplog = oplog

-- where entries come after a point
some_passed : (test : Entry → Bool) (log : List Entry) → not (length (filter test log) == 0) ≡ list_any test log
some_passed test [] = refl
some_passed test (entry ∷ log) = by_test (test entry) (some_passed test log)
  where
    by_test : (b : Bool) → not (length (filter test log) == 0) ≡ list_any test log → not (length (cond b (entry ∷ filter test log) (filter test log)) == 0) ≡ (b || list_any test log)
    by_test true again = let some : (suc (length (filter test log)) == 0) ≡ false = grind (arith, nat_tests) in ap not some
    by_test false again = again

pub more_after : (items : List Record) (after entries : List Entry) (point : OpTime) → entries ≡ (kept items).entries → point ≡ (kept items).point
    → after ≡ filter (λ (entry : Entry). is_before point entry.optime) entries → not (length after == 0) ≡ has_more (kept items)
more_after items after entries point entries_are point_is is =
    ap (λ (l : List Entry). not (length l == 0)) is ∙ some_passed (λ (entry : Entry). is_before point entry.optime) entries
    ∙ ap (λ (l : List Entry). list_any (λ (entry : Entry). is_before point entry.optime) l) entries_are
    ∙ ap (λ (o : OpTime). list_any (λ (entry : Entry). is_before o entry.optime) (kept items).entries) point_is

-- ---- the entries of a record are put in one by one

all_less : (P : Entry → Type 0) (log : List Entry) (entry : Entry) → All P (with_entry log entry) → All P log
all_less P [] entry all = λ k d within. absurd (omega (arith, within))
all_less P (other ∷ log) entry all = by_time (nat_lt other.optime.ts entry.optime.ts) (all_less P log entry) all
  where
    by_time : (b : Bool) → (All P (with_entry log entry) → All P log) → All P (cond b (other ∷ with_entry log entry) (entry ∷ other ∷ log)) → All P (other ∷ log)
    by_time true again all = All-cons P other log (all zero other (omega arith)) (again (All-tail P other (with_entry log entry) all))
    by_time false again all = All-tail P entry (other ∷ log) all

order_less : (log : List Entry) (entry : Entry) → AllPairs StandsBefore (with_entry log entry) → AllPairs StandsBefore log
order_less [] entry order = λ i j d less within. absurd (omega (arith, within))
order_less (other ∷ log) entry order = by_time (nat_lt other.optime.ts entry.optime.ts) (order_less log entry) order
  where
    by_time : (b : Bool) → (AllPairs StandsBefore (with_entry log entry) → AllPairs StandsBefore log)
        → AllPairs StandsBefore (cond b (other ∷ with_entry log entry) (entry ∷ other ∷ log)) → AllPairs StandsBefore (other ∷ log)
    by_time true again order =
        AllPairs-cons StandsBefore other log (all_less (StandsBefore other) log entry (pairs_head StandsBefore other (with_entry log entry) order))
        (again (pairs_tail StandsBefore other (with_entry log entry) order))
    by_time false again order = pairs_tail StandsBefore entry (other ∷ log) order

without_more : (log more : List Entry) → IsOplog (with_entries log more) → IsOplog log
without_more log [] oplog = oplog
without_more log (entry ∷ more) oplog =
    let next : IsOplog (with_entry log entry) = without_more (with_entry log entry) more oplog in
    record { order = order_less log entry next.order; lawful = all_less IsLawful log entry next.lawful }

-- where they leave a log in order, so does each prefix of them
front_stays : (log entries : List Entry) → IsOplog (with_entries log entries) → (count : ℕ) → IsOplog (with_entries log (take count entries))
front_stays log entries oplog count =
    without_more (with_entries log (take count entries)) (drop count entries)
    (subst (λ (l : List Entry). IsOplog l)
    (ap (with_entries log) (sym (take-append-drop count entries)) ∙ fold-append with_entry log (take count entries) (drop count entries)) oplog)

-- a record of them is stored
pub record_stays : (items : List Record) (list : List Entry) (point : OpTime) (log entries : List Entry) → log ≡ (kept items).entries → entries ≡ list
    → IsOplog (kept (records_after items (stores.Record (records.Entries list point)))).entries → (count : ℕ) → IsOplog (with_entries log (take count entries))
record_stays items list point log entries is same oplog =
    front_stays log entries
    (subst (λ (l : List Entry). IsOplog l)
    (ap (λ (k : Kept). k.entries) (kept_more items (records.Entries list point)) ∙ ap (λ (l : List Entry). with_entries l list) (sym is) ∙ ap (with_entries log) (sym same)) oplog)

-- ---- the first entries of a log

abbrev IsThere : List Record → Entry → Type 0
IsThere items entry = has_entry (kept items).entries entry.optime ≡ true

pub journaled_fewer : (count fewer : ℕ) (log : List Entry) (items : List Record) → fewer ≤ count → AreJournaled count log items → AreJournaled fewer log items
journaled_fewer count fewer log items less are = record {
  within = omega (arith, less, are.within);
  there = all_front (IsThere items) (take fewer log) (drop fewer (take count log))
      (subst (λ (l : List Entry). All (IsThere items) l)
      (sym (ap (λ (l : List Entry). l ++ drop fewer (take count log)) (sym (take-take fewer count log less)) ∙ take-append-drop fewer (take count log))) are.there);
}

-- entries that come after them
pub journaled_after : (count : ℕ) (log more : List Entry) (items : List Record) → AreJournaled count log items → AreJournaled count (log ++ more) items
journaled_after count log more items are = record {
  within = omega (arith, are.within, length-append log more);
  there = subst (λ (l : List Entry). All (IsThere items) l) (sym (take-append-le count log more are.within)) are.there;
}

pub journaled_inserted : (count place : ℕ) (log : List Entry) (entry : Entry) (items : List Record) → count ≤ place → place ≤ length log → AreJournaled count log items → AreJournaled count (insert log place entry) items
journaled_inserted count place log entry items early within are =
    let long : length (take place log) ≡ place = length-take-le place log within in
    let own : count ≤ length (take place log) = omega (arith, early, long) in record {
      within = omega (arith, are.within, length-insert log place entry within);
      there = subst (λ (l : List Entry). All (IsThere items) l)
          (sym (take-append-le count (take place log) (entry ∷ drop place log) own ∙ take-take count place log early)) are.there;
    }

-- one of them more
pub one_more_kept : (count : ℕ) (log : List Entry) (entry : Entry) (found : List Entry) → count < length log → entry ≡ get_or log count entry → has_entry found entry.optime ≡ true
    → AreKept count log found → AreKept (count + 1) log found
one_more_kept count log entry found less is here are = record {
  within = omega (arith, less);
  there = subst (λ (l : List Entry). All (λ (e : Entry). has_entry found e.optime ≡ true) l)
      (sym (take_more log count entry less ∙ ap (λ (e : Entry). take count log ++ e ∷ []) (sym is)))
      (All-append (λ (e : Entry). has_entry found e.optime ≡ true) (take count log) (entry ∷ []) are.there
      (All-cons (λ (e : Entry). has_entry found e.optime ≡ true) entry [] here (λ k d within. absurd (omega (arith, within)))));
}

-- the log is cut after them
journaled_front : (count : ℕ) (log front rest : List Entry) (items : List Record) → log ≡ front ++ rest → count ≤ length front → AreJournaled count log items → AreJournaled count front items
journaled_front count log front rest items is within are = record {
  within = within;
  there = subst (λ (l : List Entry). All (IsThere items) l) (ap (take count) is ∙ take-append-le count front rest within) are.there;
}

-- ---- a log that is cut

late_after : (at : OpTime) (entry other : Entry) → is_before at entry.optime ≡ true → StandsBefore entry other → is_before at other.optime ≡ true
late_after at entry other late before = before_trans at entry.optime other.optime late (stands_before entry other before)

-- nothing is up to an optime that is before the first entry
none_up_to : (at : OpTime) (entry : Entry) (log : List Entry) → AllPairs StandsBefore (entry ∷ log) → is_before at entry.optime ≡ true → log_up_to at (entry ∷ log) ≡ []
none_up_to at entry [] order late = rw late refl
none_up_to at entry (next ∷ log) order late =
    let later : is_before at next.optime ≡ true = late_after at entry next late (pairs_head StandsBefore entry (next ∷ log) order zero next (omega arith)) in
    rw late (none_up_to at next log (pairs_tail StandsBefore entry (next ∷ log) order) later)

-- what is up to an optime stands in front
pub up_to_first : (at : OpTime) (log : List Entry) → AllPairs StandsBefore log → (rest : List Entry) × (log ≡ log_up_to at log ++ rest)
up_to_first at [] order = ([], refl)
up_to_first at (entry ∷ log) order = by_test (is_before at entry.optime) refl (up_to_first at log (pairs_tail StandsBefore entry log order))
  where
    by_test : (b : Bool) → is_before at entry.optime ≡ b → (rest : List Entry) × (log ≡ log_up_to at log ++ rest) → (rest : List Entry) × (entry ∷ log ≡ log_up_to at (entry ∷ log) ++ rest)
    by_test true late again = (entry ∷ log, sym (ap (λ (l : List Entry). l ++ entry ∷ log) (none_up_to at entry log order late)))
    by_test false early again = (again.0, rw early (ap (λ (l : List Entry). entry ∷ l) again.1))

-- the first of them stay in the log, and in the records
pub journaled_up_to : (count : ℕ) (at : OpTime) (log : List Entry) (items : List Record) → AllPairs StandsBefore log → count ≤ length (log_up_to at log)
    → AreJournaled count log items → AreJournaled count (log_up_to at log) items
journaled_up_to count at log items order within are =
    let first = up_to_first at log order in journaled_front count log (log_up_to at log) first.0 items first.1 within are

-- ---- once a record more is there

grown_one : (log : List Entry) (entry : Entry) (o : OpTime) → has_entry log o ≡ true → has_entry (with_entry log entry) o ≡ true
grown_one [] entry o none = absurd (cc none)
grown_one (other ∷ log) entry o here = by_time (nat_lt other.optime.ts entry.optime.ts) (grown_one log entry o) here
  where
    after : (b : Bool) → (b || has_entry (other ∷ log) o) ≡ true
    after true = refl
    after false = here

    with_first : (c : Bool) → (has_entry log o ≡ true → has_entry (with_entry log entry) o ≡ true) → (c || has_entry log o) ≡ true → (c || has_entry (with_entry log entry) o) ≡ true
    with_first true again found = refl
    with_first false again found = again found

    by_time : (b : Bool) → (has_entry log o ≡ true → has_entry (with_entry log entry) o ≡ true) → (same_optime other.optime o || has_entry log o) ≡ true
        → has_entry (cond b (other ∷ with_entry log entry) (entry ∷ other ∷ log)) o ≡ true
    by_time true again found = with_first (same_optime other.optime o) again found
    by_time false again found = after (same_optime entry.optime o)

grown : (found more : List Entry) (o : OpTime) → has_entry found o ≡ true → has_entry (with_entries found more) o ≡ true
grown found [] o has = has
grown found (entry ∷ more) o has = grown (with_entry found entry) more o (grown_one found entry o has)

uncut : (found : Kept) (item : Record) (o : OpTime) → cut_of (stores.Record item) ≡ None → has_entry found.entries o ≡ true → has_entry (with_record found item).entries o ≡ true
uncut found (records.Entries list point) o none has = grown found.entries list o has
uncut found (records.Vote vote) o none has = has
uncut found (records.Config config) o none has = has
uncut found (records.Cut at) o none has = absurd (cc none)
uncut found (records.Form form) o none has = has

-- a record that is no cut leaves them there
pub journaled_uncut : (count : ℕ) (log : List Entry) (items : List Record) (item : Store) → cut_of item ≡ None → AreJournaled count log items → AreJournaled count log (records_after items item)
journaled_uncut count log items (stores.Checkpoint at) none are = are
journaled_uncut count log items (stores.Record item) none are = record {
  within = are.within;
  there = λ k d within.
      subst (λ (f : Kept). has_entry f.entries (get_or (take count log) k d).optime ≡ true) (sym (kept_more items item))
      (uncut (kept items) item (get_or (take count log) k d).optime none (are.there k d within));
}

cut_there : (found : Kept) (at o : OpTime) → is_before at o ≡ false → has_entry found.entries o ≡ true → has_entry (log_up_to at found.entries) o ≡ true
cut_there found at o early has = has_filter (λ (p : OpTime). not (is_before at p)) found.entries o ∙ rw (early, has) refl

passed : (at : OpTime) (log : List Entry) → All (λ (e : Entry). is_before at e.optime ≡ false) (log_up_to at log)
passed at [] = λ k d within. absurd (omega (arith, within))
passed at (entry ∷ log) = by_test (is_before at entry.optime) refl (passed at log)
  where
    by_test : (b : Bool) → is_before at entry.optime ≡ b → All (λ (e : Entry). is_before at e.optime ≡ false) (log_up_to at log)
        → All (λ (e : Entry). is_before at e.optime ≡ false) (cond (not b) (entry ∷ log_up_to at log) (log_up_to at log))
    by_test true late rest = rest
    by_test false early rest = All-cons (λ (e : Entry). is_before at e.optime ≡ false) entry (log_up_to at log) early rest

-- and a cut those up to it
journaled_cut : (count fewer : ℕ) (at : OpTime) (log : List Entry) (items : List Record) → fewer ≤ count → fewer ≤ length (log_up_to at log) → AllPairs StandsBefore log
    → AreJournaled count log items → AreJournaled fewer log (records_after items (stores.Record (records.Cut at)))
journaled_cut count fewer at log items less within order are =
    let old : AreJournaled fewer log items = journaled_fewer count fewer log items less are in
    let first = up_to_first at log order in
    let same : take fewer log ≡ take fewer (log_up_to at log) = ap (take fewer) first.1 ∙ take-append-le fewer (log_up_to at log) first.0 within in
    let early : All (λ (e : Entry). is_before at e.optime ≡ false) (take fewer log) =
    subst (λ (l : List Entry). All (λ (e : Entry). is_before at e.optime ≡ false) l) (sym same)
    (all_front (λ (e : Entry). is_before at e.optime ≡ false) (take fewer (log_up_to at log)) (drop fewer (log_up_to at log))
    (subst (λ (l : List Entry). All (λ (e : Entry). is_before at e.optime ≡ false) l) (sym (take-append-drop fewer (log_up_to at log))) (passed at log))) in
    record {
      within = old.within;
      there = λ k d inside.
          subst (λ (f : Kept). has_entry f.entries (get_or (take fewer log) k d).optime ≡ true) (sym (kept_more items (records.Cut at)))
          (cut_there (kept items) at (get_or (take fewer log) k d).optime (early k d inside) (old.there k d inside));
    }

-- whatever cuts
pub journaled_past : (count fewer : ℕ) (at : OpTime) (log : List Entry) (items : List Record) (item : Store) → cut_of item ≡ Some at → fewer ≤ count → fewer ≤ length (log_up_to at log)
    → AllPairs StandsBefore log → AreJournaled count log items → AreJournaled fewer log (records_after items item)
journaled_past count fewer at log items (stores.Checkpoint other) cuts less within order are = absurd (cc cuts)
journaled_past count fewer at log items (stores.Record (records.Entries list point)) cuts less within order are = absurd (cc cuts)
journaled_past count fewer at log items (stores.Record (records.Vote vote)) cuts less within order are = absurd (cc cuts)
journaled_past count fewer at log items (stores.Record (records.Config config)) cuts less within order are = absurd (cc cuts)
journaled_past count fewer at log items (stores.Record (records.Form form)) cuts less within order are = absurd (cc cuts)
journaled_past count fewer at log items (stores.Record (records.Cut other)) cuts less within order are =
    let same : other ≡ at = cc cuts in
    subst (λ (o : OpTime). AreJournaled fewer log (records_after items (stores.Record (records.Cut o)))) (sym same) (journaled_cut count fewer at log items less within order are)
