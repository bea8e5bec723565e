-- A flush keeps the node coherent: the first entries that weren't in the records are there, and the log is durable further.
use Rattle.std.proofs.Common.{◌≡◌, ◌∙◌, ◌⊎◌, ◌≤◌, ◌<◌, take, drop, filter, length, map, cond, inl, inr, ap, sym, subst, refl, arith, ltb-true, ltb-false, ℕ, zero, suc, Bool, true, false, not, nat_lt, unwrap_or, Option, List, [], ◌∷◌, ◌++◌}
use Rattle.std.specs.FinSet as sets
use Rattle.std.specs.List.{All}
use Rattle.rs_optime.specs.declared.optime.OpTime.{OpTime}
use Rattle.rs_optime.proofs.Optimes.{at_most_refl, at_most_trans, before_at_most, earlier_by, earlier_left, earlier_right}
use Rattle.rs_optime.specs.Membership.{In}
use Rattle.rs_optime.proofs.MembershipLemmas.{all_in, in_all, in_take}
use Rattle.oplog_entry.specs.Visible.{ZERO, is_before, last_of, least, entries_before}
use Rattle.oplog_entry.specs.declared.entry.Entry.{Entry}
use Rattle.oplog_entry.proofs.LogLemmas.{stands_before, last_is}
use Rattle.oplog_store.specs.Log.{IsOplog}
use Rattle.election_core.specs.Counting.{Tallied}
use Rattle.repl_msg.specs.Kept.{kept, with_entries}
use Rattle.repl_msg.specs.Logs.{earlier_of, has_entry}
use Rattle.repl_msg.specs.declared.record.Kept.{Kept}
use Rattle.repl_msg.specs.declared.record.Record.TheVariants as records
use Rattle.repl_msg.proofs.KeptLemmas.{kept_more}
use Rattle.set_model.specs.Disk.{unjournaled, next_entries, next_durable}
use Rattle.set_model.specs.Node.{Node}
use Rattle.set_model.specs.Points.{visible_point}
use Rattle.set_model.specs.Safety.{AtMost, Has}
use Rattle.set_model.specs.Stores.{stored}
use Rattle.set_model.specs.declared.store.Store.TheVariants as stores
use Rattle.node_state.specs.Coherent.{IsCoherent, IsRecorded, ArePoints, is_kept}
use Rattle.node_state.proofs.EntryLemmas.{filter_in, has_in, in_has}
use Rattle.node_state.proofs.MergeLemmas.{taken_or_not, taken_before, old_in, entries_in, merged_is, rest_after, Rises, rest_rises, rest_log}
use Rattle.node_state.proofs.SlotLemmas.{in_visible}

-- ---- lists

drop_taken : (f : Entry → OpTime) (many : ℕ) (xs : List Entry) → drop (length (take many xs)) (map f xs) ≡ map f (drop many xs)
drop_taken f zero xs = refl
drop_taken f (suc many) [] = refl
drop_taken f (suc many) (x ∷ xs) = drop_taken f many xs

take_all : (many : ℕ) (xs : List Entry) → length xs ≤ many → take many xs ≡ xs
take_all zero [] short = refl
take_all zero (x ∷ xs) short = absurd (omega (arith, short))
take_all (suc many) [] short = refl
take_all (suc many) (x ∷ xs) short = ap (λ ys. x ∷ ys) (take_all many xs (omega (arith, short)))

last_there : (entry : Entry) (log : List Entry) → (last : Entry) × In last (entry ∷ log) × (last.optime ≡ last_of (entry ∷ log))
last_there entry [] = (entry, inl refl, refl)
last_there entry (next ∷ log) = let rest : (last : Entry) × In last (next ∷ log) × (last.optime ≡ last_of (next ∷ log)) = last_there next log in (rest.0, inr rest.1, rest.2)

last_taken : (many : ℕ) (xs : List Entry) → 0 < many → many < length xs → (last : Entry) × In last (take many xs) × (last.optime ≡ last_of (take many xs))
last_taken zero xs some more = absurd (omega (arith, some))
last_taken (suc many) [] some more = absurd (omega (arith, more))
last_taken (suc many) (x ∷ xs) some more = last_there x (take many xs)

-- ---- how far the log is durable

-- no further than is visible, up to an entry or ZERO, no less than before, and what isn't taken is after it
record IsNext (node : Node) (many : ℕ) (point : OpTime) : Type 0 where
  within : AtMost point (visible_point node)
  there : (point ≡ ZERO) ⊎ Has node.log point
  grows : AtMost node.durable point
  taken : (entry : Entry) → In entry (unjournaled node) → AtMost entry.optime point → In entry (take many (unjournaled node))

visible_there : (node : Node) → (visible_point node ≡ ZERO) ⊎ Has node.log (visible_point node)
visible_there node = elim (last_is (entries_before (least slots) node.log)) [
  | inl none ↦ inl none
  | inr last ↦ inr (in_has node.log (visible_point node) last.0 (in_visible slots node.log last.0 last.1).0 last.2)
]
  where
    slots : List OpTime
    slots = sets.items node.slots

module _ (node : Node) (oplog : IsOplog node.log) (points : ArePoints node) (recorded : IsRecorded node) where
  abbrev found : List Entry
  found = (kept node.records).entries

  unkept_rises : Rises (unjournaled node)
  unkept_rises = rest_rises found node.log oplog (is_kept node) recorded.entries

  unkept_log : (entry : Entry) → In entry (unjournaled node) → In entry node.log × (has_entry found entry.optime ≡ false)
  unkept_log = rest_log found node.log oplog (is_kept node) recorded.entries

  -- what isn't in the records is after what is durable
  unkept_late : (entry : Entry) → In entry (unjournaled node) → AtMost node.durable entry.optime
  unkept_late entry there = go (is_before node.durable entry.optime) refl (unkept_log entry there)
    where
      go : (b : Bool) → is_before node.durable entry.optime ≡ b → In entry node.log × (has_entry found entry.optime ≡ false) → AtMost node.durable entry.optime
      go true is known = before_at_most node.durable entry.optime is
      go false is known =
          let has : is_kept node entry ≡ true = all_in (λ (e : Entry). is_before node.durable e.optime ≡ false → is_kept node e ≡ true) node.log entry recorded.early known.0 is in
          absurd (cc (has, known.1))

  next_is : (many : ℕ) → 0 < many → IsNext node many (cond (nat_lt many (length (unjournaled node))) (earlier_of (visible_point node) (last_of (take many (unjournaled node)))) (visible_point node))
  next_is many some = go (nat_lt many (length (unjournaled node))) refl
    where
      go : (b : Bool) → nat_lt many (length (unjournaled node)) ≡ b → IsNext node many (cond b (earlier_of (visible_point node) (last_of (take many (unjournaled node)))) (visible_point node))
      go true is =
          let last : (z : Entry) × In z (take many (unjournaled node)) × (z.optime ≡ last_of (take many (unjournaled node))) = last_taken many (unjournaled node) some (ltb-true many (length (unjournaled node)) is) in
          let known : In last.0 (unjournaled node) = in_take many last.0 (unjournaled node) last.1 in
          record {
            within = earlier_left (visible_point node) (last_of (take many (unjournaled node)));
            there = earlier_by (λ o. (o ≡ ZERO) ⊎ Has node.log o) (visible_point node) (last_of (take many (unjournaled node))) (visible_there node)
                (inr (in_has node.log (last_of (take many (unjournaled node))) last.0 (unkept_log last.0 known).0 last.2));
            grows = earlier_by (λ o. AtMost node.durable o) (visible_point node) (last_of (take many (unjournaled node))) points.durable (subst (AtMost node.durable) last.2 (unkept_late last.0 known));
            taken = λ entry there before. elim (taken_or_not many entry (unjournaled node) there) [
              | inl first ↦ first
              | inr second ↦
                  let early : is_before last.0.optime entry.optime ≡ true = stands_before last.0 entry (taken_before many (unjournaled node) unkept_rises last.0 entry last.1 second) in
                  let late : is_before last.0.optime entry.optime ≡ false =
                  subst (λ o. is_before o entry.optime ≡ false) (sym last.2)
                  (at_most_trans entry.optime (earlier_of (visible_point node) (last_of (take many (unjournaled node)))) (last_of (take many (unjournaled node))) before (earlier_right (visible_point node) (last_of (take many (unjournaled node))))) in
                  absurd (cc (early, late))
            ];
          }
      go false is = record {
        within = at_most_refl (visible_point node);
        there = visible_there node;
        grows = points.durable;
        taken = λ entry there before. subst (In entry) (sym (take_all many (unjournaled node) (ltb-false many (length (unjournaled node)) is))) there;
      }

-- ---- the node after it

-- what records come to says how a log is kept, up to a point, and which of it isn't
abbrev KeepsUpTo : Node → OpTime → List OpTime → Kept → Type 0
KeepsUpTo node point optimes found =
    (found.vote ≡ record { term = node.term; candidate = node.vote }) × (unwrap_or found.config node.first ≡ node.config)
    × (found.entries ≡ filter (λ entry. has_entry found.entries entry.optime) node.log)
    × All (λ entry. is_before point entry.optime ≡ false → has_entry found.entries entry.optime ≡ true) node.log
    × (found.point ≡ point)
    × (optimes ≡ map (λ entry. entry.optime) (filter (λ entry. not (has_entry found.entries entry.optime)) node.log))

abbrev pub flushed_node : Node → Node
flushed_node node = record (stored node (stores.Record (records.Entries (next_entries node) (next_durable node)))) { durable = next_durable node }

pub coherent-flushed : (node : Node) (tally : Option Tallied) (optimes : List OpTime) → IsOplog node.log → IsCoherent node tally optimes
    → IsCoherent (flushed_node node) tally (drop (length (next_entries node)) optimes)
coherent-flushed node tally optimes oplog old = record {
  number = old.number;
  vote = old.vote;
  config = old.config;
  first = old.first;
  points = record {
    stable = old.points.stable;
    commit = at_most_trans node.commit node.durable (next_durable node) old.points.commit next.grows;
    durable = next.within;
    there = next.there;
  };
  recorded = record { vote = now.0; config = now.1; entries = now.2; early = now.3; point = now.4 };
  unjournaled = now.5;
  counts = old.counts;
}
  where
    next : IsNext node 2000 (next_durable node)
    next = next_is node oplog old.points old.recorded 2000 (omega arith)

    found : List Entry
    found = (kept node.records).entries

    more : List Entry
    more = with_entries found (next_entries node)

    early : (entry : Entry) → In entry node.log → is_before (next_durable node) entry.optime ≡ false → has_entry more entry.optime ≡ true
    early entry there before = go (has_entry found entry.optime) refl
      where
        go : (b : Bool) → has_entry found entry.optime ≡ b → has_entry more entry.optime ≡ true
        go true is =
            let one : (e : Entry) × In e found × (e.optime ≡ entry.optime) = has_in found entry.optime is in
            in_has more entry.optime one.0 (old_in found (next_entries node) one.0 one.1) one.2
        go false is =
            in_has more entry.optime entry
            (entries_in found (next_entries node) entry (next.taken entry (filter_in (λ (e : Entry). not (has_entry found e.optime)) node.log entry there (ap not is)) before)) refl

    now : KeepsUpTo node (next_durable node) (drop (length (next_entries node)) optimes) (kept (node.records ++ records.Entries (next_entries node) (next_durable node) ∷ []))
    now = subst (KeepsUpTo node (next_durable node) (drop (length (next_entries node)) optimes)) (sym (kept_more node.records (records.Entries (next_entries node) (next_durable node)))) (
      old.recorded.vote,
      old.recorded.config,
      merged_is found node.log oplog (is_kept node) old.recorded.entries 2000,
      in_all (λ (e : Entry). is_before (next_durable node) e.optime ≡ false → has_entry more e.optime ≡ true) node.log early,
      refl,
      ap (drop (length (next_entries node))) old.unjournaled ∙ drop_taken (λ (e : Entry). e.optime) 2000 (unjournaled node)
          ∙ ap (map (λ (e : Entry). e.optime)) (sym (rest_after found node.log oplog (is_kept node) old.recorded.entries 2000)),
    )
