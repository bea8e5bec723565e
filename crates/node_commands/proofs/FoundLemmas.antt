-- Entries of a log that are found by their optimes.
use Rattle.std.proofs.Common.{◌≡◌, ◌≢◌, ◌∙◌, ◌<◌, ◌+◌, ◌++◌, nat_lt, add-one, ap, sym, subst, refl, arith, inl, inr, ℕ, zero, suc, Bool, true, false, cond, take, map, length, Option, None, Some, List, [], ◌∷◌}
use Rattle.std.specs.Prelude.{slice_get, slice_index_or, is_some, IfNone, IfSome, ◌==◌}
use Rattle.std.proofs.Math.Seq.{take-suc}
use Rattle.std.proofs.lemmas.List.Elements.{filter_map-append, All-tail}
use Rattle.std.proofs.lemmas.Bool.Decides.{nat_tests}
use Rattle.std.proofs.lemmas.List.{append-nil, take-map}
use Rattle.std.specs.List.{All, cons_option}
use Rattle.std.specs.Option.{option_map}
use Rattle.rs_optime.specs.declared.optime.OpTime.{OpTime}
use Rattle.rs_optime.specs.Membership.{In}
use Rattle.rs_optime.proofs.MembershipLemmas.{in_filter, all_in, in_all, in_take}
use Rattle.oplog_entry.specs.Lawful.{IsLawful}
use Rattle.oplog_entry.specs.Visible.{last_of}
use Rattle.oplog_entry.specs.declared.entry.Entry.{Entry}
use Rattle.oplog_store.specs.Log.{IsOplog, StandsBefore}
use Rattle.oplog_store.specs.Places.{IsEntryAt}
use Rattle.oplog_store.proofs.Keeps.{pairs_tail, pairs_head}
use Rattle.repl_msg.specs.Logs.{has_entry, same_optime}
use Rattle.repl_msg.proofs.HasLemmas.{has_found, same_is, same_itself}
use Rattle.set_model.specs.Disk.{next_entries, next_durable, unjournaled}
use Rattle.set_model.specs.Points.{visible_point, earlier_of}
use Rattle.set_model.specs.Node.{Node}
use Rattle.node_commands.specs.Flushing.{entry_at, entries_at}
use Rattle.node_state.proofs.MergeLemmas.{Rises, not_before_same}

-- ---- one entry

pub entry_at-in : (log : List Entry) → Rises log → (entry : Entry) → In entry log → entry_at log entry.optime ≡ Some entry
entry_at-in [] rises entry there = absurd there
entry_at-in (other ∷ log) rises entry (inl same) =
    ap (λ (e : Entry). cond (same_optime other.optime e.optime) (Some other) (entry_at log e.optime)) (sym same)
    ∙ ap (λ b. cond b (Some other) (entry_at log other.optime)) (same_itself other.optime) ∙ ap (λ (e : Entry). Some e) same
entry_at-in (other ∷ log) rises entry (inr there) = go (same_optime other.optime entry.optime) refl (entry_at-in log (pairs_tail StandsBefore other log rises) entry there)
  where
    go : (b : Bool) → same_optime other.optime entry.optime ≡ b → entry_at log entry.optime ≡ Some entry → cond b (Some other) (entry_at log entry.optime) ≡ Some entry
    go true is rest = absurd (not_before_same other entry (same_is other.optime entry.optime is) (all_in (StandsBefore other) log entry (pairs_head StandsBefore other log rises) there))
    go false is rest = rest

pub entry_at-none : (log : List Entry) (at : OpTime) → All (λ (e : Entry). e.optime ≢ at) log → entry_at log at ≡ None
entry_at-none [] at apart = refl
entry_at-none (entry ∷ log) at apart = go (same_optime entry.optime at) refl (entry_at-none log at (All-tail (λ (e : Entry). e.optime ≢ at) entry log apart))
  where
    go : (b : Bool) → same_optime entry.optime at ≡ b → entry_at log at ≡ None → cond b (Some entry) (entry_at log at) ≡ None
    go true is rest = absurd (apart zero entry (omega arith) (same_is entry.optime at is))
    go false is rest = rest

in_entry_at : (log : List Entry) (at : OpTime) (entry : Entry) → entry_at log at ≡ Some entry → In entry log
in_entry_at [] at entry is = absurd (cc is)
in_entry_at (other ∷ log) at entry is = go (same_optime other.optime at) (λ more. in_entry_at log at entry more) is
  where
    go : (b : Bool) → (entry_at log at ≡ Some entry → In entry log) → cond b (Some other) (entry_at log at) ≡ Some entry → In entry (other ∷ log)
    go true rest is = inl (cc is)
    go false rest is = inr (rest is)

get_in : (xs : List Entry) (k : ℕ) (x : Entry) → slice_get xs k ≡ Some x → In x xs
get_in [] k x is = absurd (cc is)
get_in (y ∷ ys) zero x is = inl (cc is)
get_in (y ∷ ys) (suc k) x is = inr (get_in ys k x is)

-- what a look-up gives is the entry with this optime
pub looked_up : {B : Type 0} (found : Option B) (now : B → Entry) (log : List Entry) (at : OpTime) → IsOplog log → IfSome (option_map now found) (λ entry. IsEntryAt log at entry)
    → IfNone found (All (λ (e : Entry). e.optime ≢ at) log) → option_map now found ≡ entry_at log at
looked_up None now log at oplog some none = sym (entry_at-none log at none)
looked_up (Some x) now log at oplog some none = sym (entry_at-in log oplog.order (now x) (get_in log some.0 (now x) some.1)) ∙ ap (entry_at log) some.2

pub has_looked_up : {B : Type 0} (found : Option B) (now : B → Entry) (log : List Entry) (at : OpTime) → IfSome (option_map now found) (λ entry. IsEntryAt log at entry)
    → IfNone found (All (λ (e : Entry). e.optime ≢ at) log) → has_entry log at ≡ is_some found
has_looked_up None now log at some none = has_found log at None some none
has_looked_up (Some x) now log at some none =
    has_found log at (Some some.0) (ap (option_map (λ (e : Entry). e.optime)) some.1 ∙ ap (λ (o : OpTime). Some o) some.2) none

-- ---- some of them

pub entries_at-more : (log : List Entry) (optimes : List OpTime) → All IsLawful log → All IsLawful (entries_at log optimes)
entries_at-more log [] lawful = in_all IsLawful [] (λ x none. absurd none)
entries_at-more log (at ∷ optimes) lawful = go (entry_at log at) refl (entries_at-more log optimes lawful)
  where
    go : (o : Option Entry) → entry_at log at ≡ o → All IsLawful (entries_at log optimes) → All IsLawful (cons_option o (entries_at log optimes))
    go None is rest = rest
    go (Some entry) is rest = in_all IsLawful (entry ∷ entries_at log optimes) (λ x there. elim there [
      | inl same ↦ subst IsLawful same (all_in IsLawful log entry lawful (in_entry_at log at entry is))
      | inr more ↦ all_in IsLawful (entries_at log optimes) x rest more
    ])

entries_at-map : (log : List Entry) → Rises log → (xs : List Entry) → ((x : Entry) → In x xs → In x log) → entries_at log (map (λ (e : Entry). e.optime) xs) ≡ xs
entries_at-map log rises [] there = refl
entries_at-map log rises (x ∷ xs) there =
    ap (λ o. cons_option o (entries_at log (map (λ (e : Entry). e.optime) xs))) (entry_at-in log rises x (there x (inl refl)))
    ∙ ap (λ rest. x ∷ rest) (entries_at-map log rises xs (λ y more. there y (inr more)))

pub next_entries-at : (node : Node) (optimes : List OpTime) → IsOplog node.log → optimes ≡ map (λ (e : Entry). e.optime) (unjournaled node)
    → entries_at node.log (take 2000 optimes) ≡ next_entries node
next_entries-at node optimes oplog is =
    ap (λ xs. entries_at node.log (take 2000 xs)) is
    ∙ ap (entries_at node.log) (take-map (λ (e : Entry). e.optime) 2000 (unjournaled node))
    ∙ entries_at-map node.log oplog.order (next_entries node)
    (λ x there. (in_filter _ node.log x (in_take 2000 x (unjournaled node) there)).0)

-- one optime more
entries_more : (log : List Entry) (optimes : List OpTime) (i : ℕ) (at : OpTime) → i < length optimes → at ≡ slice_index_or optimes i at
    → entries_at log (take (i + 1) optimes) ≡ entries_at log (take i optimes) ++ cons_option (entry_at log at) []
entries_more log optimes i at within is = rw (add-one, take-suc optimes i at within, ← is) (filter_map-append (entry_at log) (take i optimes) (at ∷ []))

pub entries_more_some : (log : List Entry) (optimes : List OpTime) (i : ℕ) (at : OpTime) (entry : Entry) → i < length optimes → at ≡ slice_index_or optimes i at → entry_at log at ≡ Some entry
    → entries_at log (take (i + 1) optimes) ≡ entries_at log (take i optimes) ++ entry ∷ []
entries_more_some log optimes i at entry within is there = entries_more log optimes i at within is ∙ ap (λ o. entries_at log (take i optimes) ++ cons_option o []) there

pub entries_more_none : (log : List Entry) (optimes : List OpTime) (i : ℕ) (at : OpTime) → i < length optimes → at ≡ slice_index_or optimes i at → entry_at log at ≡ None
    → entries_at log (take (i + 1) optimes) ≡ entries_at log (take i optimes)
entries_more_none log optimes i at within is none =
    entries_more log optimes i at within is ∙ ap (λ o. entries_at log (take i optimes) ++ cons_option o []) none ∙ simp append-nil

same_index : (optimes : List OpTime) (i : ℕ) (d e : OpTime) → i < length optimes → slice_index_or optimes i d ≡ slice_index_or optimes i e
same_index [] i d e within = absurd (omega (arith, within))
same_index (x ∷ xs) zero d e within = refl
same_index (x ∷ xs) (suc i) d e within = same_index xs i d e (omega (arith, within))

pub entries_next_some : (log : List Entry) (optimes : List OpTime) (i : ℕ) (d : OpTime) (entry : Entry) → i < length optimes → Some entry ≡ entry_at log (slice_index_or optimes i d)
    → entries_at log (take (i + 1) optimes) ≡ entries_at log (take i optimes) ++ entry ∷ []
entries_next_some log optimes i d entry within there =
    entries_more_some log optimes i (slice_index_or optimes i d) entry within (same_index optimes i d (slice_index_or optimes i d) within) (sym there)

pub entries_next_none : (log : List Entry) (optimes : List OpTime) (i : ℕ) (d : OpTime) → i < length optimes → None ≡ entry_at log (slice_index_or optimes i d)
    → entries_at log (take (i + 1) optimes) ≡ entries_at log (take i optimes)
entries_next_none log optimes i d within none =
    entries_more_none log optimes i (slice_index_or optimes i d) within (same_index optimes i d (slice_index_or optimes i d) within) (sym none)

-- ---- how far a record goes

map-length : (xs : List Entry) → length (map (λ (e : Entry). e.optime) xs) ≡ length xs
map-length [] = refl
map-length (x ∷ xs) = ap (λ n. suc n) (map-length xs)

pub next_durable-long : (node : Node) (optimes : List OpTime) → optimes ≡ map (λ (e : Entry). e.optime) (unjournaled node) → 2000 < length optimes
    → next_durable node ≡ earlier_of (visible_point node) (last_of (next_entries node))
next_durable-long node optimes is long =
    let same : length optimes ≡ length (unjournaled node) = ap length is ∙ map-length (unjournaled node) in
    let test : nat_lt 2000 (length (unjournaled node)) ≡ true = grind arith in
    ap (λ b. cond b (earlier_of (visible_point node) (last_of (next_entries node))) (visible_point node)) test

-- ---- whether a record is wanted

none_of : (xs : List Entry) → map (λ (e : Entry). e.optime) xs ≡ [] → (length xs == 0) ≡ true
none_of [] none = refl
none_of (x ∷ xs) none = absurd (cc none)

some_of : (xs : List Entry) → (map (λ (e : Entry). e.optime) xs ≡ [] → ⊥) → (length xs == 0) ≡ false
some_of [] some = absurd (some refl)
some_of (x ∷ xs) some = let long : length (x ∷ xs) ≡ length xs + 1 = omega arith in grind (arith, nat_tests)
