-- The documents stay those of the log when entries are appended, and when it is closed to writers.
use Rattle.std.proofs.Common.{◌≡◌, inl, inr, ◌≤◌, ◌∙◌, ℕ, Bool, true, false, List, [], ◌∷◌, ◌++◌, None, refl, sym, ap, subst, arith}
use Rattle.std.specs.Prelude.{max}
use Rattle.std.specs.List.{All, AllPairs}
use Rattle.std.specs.FinMap as maps
use Rattle.std.specs.FinSet as sets
use Rattle.std.specs.Ordering.{nat_cmp}
use Rattle.std.proofs.lemmas.List.Elements.{All-append, All-cons}
use Rattle.bson_doc.specs.Place.{Place}
use Rattle.rs_optime.specs.Order.{is_before, optime_cmp}
use Rattle.rs_optime.specs.declared.optime.OpTime.{OpTime}
use Rattle.rs_optime.proofs.Optimes.{at_most_before_trans, at_most_refl}
use Rattle.entry_bytes.specs.Sizes.{IsWithinEntry}
use Rattle.oplog_entry.specs.Log.{StandsBefore, IsOplog}
use Rattle.oplog_entry.specs.Visible.{last_of, visible, log_up_to}
use Rattle.oplog_entry.specs.declared.entry.Entry.{Entry}
use Rattle.oplog_entry.proofs.Optimes.{zero_least}
use Rattle.version_store.specs.Store.{Store, versions_at, holder_at}
use Rattle.set_model.specs.declared.role.Role.{Role}
use Rattle.set_model.specs.declared.role.Role.TheVariants.{Secondary, Candidate, Draining, Primary}
use Rattle.set_model.specs.declared.writer.Writer.{Writer}
use Rattle.set_model.specs.Changes.{all_lost, stepped_down}
use Rattle.set_model.specs.Fetching.{seen_after, with_fetched}
use Rattle.set_model.specs.Node.{Node}
use Rattle.set_model.specs.Points.{if_primary, last_point, visible_point}
use Rattle.set_model.specs.Roles.{is_primary}
use Rattle.set_model.proofs.LostLemmas.{none_open}
use Rattle.set_model.proofs.SeenLemmas.{seen_least}
use Rattle.node_data.specs.Kept.{IsHolder, IsKept, is_held_by}
use Rattle.node_data.specs.Sound.{IsIdle}
use Rattle.node_data.specs.Versions.{AreSmall, HasVersions}
use Rattle.node_data.specs.Writers.{IsWriting}
use Rattle.node_data.proofs.FollowLemmas.{other_point}
use Rattle.node_data.proofs.HolderLemmas.{held_open}
use Rattle.node_data.proofs.LogLemmas.{up_to-last, up_to-late}
use Rattle.node_data.proofs.RoleLemmas.{apart_idle}
use Rattle.node_data.proofs.VisibleLemmas.{IsBeforeSlots, SomeEntry, last_to_some, some_more, some_to_last, visible_shown}

-- ---- entries after the log

some_front : (P : OpTime → Type 0) (log more : List Entry) → SomeEntry P log → SomeEntry P (log ++ more)
some_front P [] more some = absurd some
some_front P (entry ∷ log) more (inl here) = inl here
some_front P (entry ∷ log) more (inr rest) = inr (some_front P log more rest)

last_grows : (o : OpTime) (log more : List Entry) → AllPairs StandsBefore (log ++ more) → is_before (last_of log) o ≡ false → is_before (last_of (log ++ more)) o ≡ false
last_grows o log more order within = elim (last_to_some o log within) [
  | inl none ↦ zero_least o (last_of (log ++ more)) none
  | inr some ↦ some_to_last o (log ++ more) order (some_front (λ e. is_before e o ≡ false) log more some)
]

seen_each : (seen : ℕ) (entries : List Entry) → All (λ entry. entry.optime.ts ≤ seen_after seen entries) entries
seen_each seen [] = λ k d within. absurd (omega arith)
seen_each seen (entry ∷ entries) =
    All-cons (λ (e : Entry). e.optime.ts ≤ seen_after seen (entry ∷ entries)) entry entries
    (omega (arith, seen_least (max seen entry.optime.ts) entries)) (seen_each (max seen entry.optime.ts) entries)

pub kept_appended : (node : Node) (store : Store) (entries : List Entry) → IsKept node store → is_primary node.role ≡ false → IsOplog (node.log ++ entries)
    → All (λ entry. is_before (last_point node) entry.optime ≡ true) entries
    → All IsWithinEntry entries → AreSmall (node.log ++ entries) → IsKept (with_fetched node entries) store
kept_appended node store entries kept other oplog later within small =
    let idle : IsIdle node = kept.sound.idle other in
    let after_applied : All (λ (e : Entry). is_before node.applied e.optime ≡ true) entries =
    λ k d inside. at_most_before_trans node.applied (last_point node) _ kept.sound.applied (later k d inside) in
    record {
      sound = record {
        oplog = oplog;
        entries = All-append IsWithinEntry node.log entries kept.sound.entries within;
        documents = small;
        marked = All-append (λ (e : Entry). e.optime.ts ≤ seen_after node.seen entries) node.log entries
            (λ k d inside. omega (arith, kept.sound.marked k d inside, seen_least node.seen entries)) (seen_each node.seen entries);
        idle = λ not. record { slots = idle.slots; writers = idle.writers };
        applied = last_grows node.applied node.log entries oplog.order kept.sound.applied;
        stable = ap (λ p. is_before p node.stable) (other_point node.role (visible_point (with_fetched node entries)) node.applied other ∙ sym (other_point node.role (visible_point node) node.applied other)) ∙ kept.sound.stable;
      };
      writers = apart_idle (with_fetched node entries) idle.writers;
      versions = λ p. subst (λ log. HasVersions p node.stable log (versions_at store p))
          (other_point node.role node.log (log_up_to node.applied node.log) other
          ∙ sym (up_to-late node.applied node.log entries after_applied)
          ∙ sym (other_point node.role (node.log ++ entries) (log_up_to node.applied (node.log ++ entries)) other))
          (kept.versions p);
      holders = kept.holders;
      shards = kept.shards;
    }

-- ---- stepping down

held_or_not : (b : Bool) → (b ≡ true → ⊥) → b ≡ false
held_or_not true none = absurd (none refl)
held_or_not false none = refl

none_held : (entries : List (ℕ × Writer)) (place : Place) (number : ℕ) → is_held_by (maps.get (maps.from_entries {R = nat_cmp} (all_lost entries)) number) place ≡ false
none_held entries place number =
    let writer = maps.get (maps.from_entries {R = nat_cmp} (all_lost entries)) number in
    held_or_not (is_held_by writer place) (λ held. let opened = held_open writer place held in none_open entries number opened.0 opened.1 opened.2)

whole_last : (role : Role) (last visible_ applied stable : OpTime) → is_before last applied ≡ false → is_before (if_primary role visible_ applied) stable ≡ false
    → (is_before visible_ stable ≡ false → is_before last stable ≡ false) → is_before (if_primary role last applied) stable ≡ false
whole_last Secondary last visible_ applied stable reached within grows = within
whole_last Candidate last visible_ applied stable reached within grows = within
whole_last Draining last visible_ applied stable reached within grows = within
whole_last Primary last visible_ applied stable reached within grows = grows within

reached_last : (role : Role) (last applied : OpTime) → is_before last last ≡ false → is_before last applied ≡ false → is_before last (if_primary role last applied) ≡ false
reached_last Secondary last applied itself reached = reached
reached_last Candidate last applied itself reached = reached
reached_last Draining last applied itself reached = reached
reached_last Primary last applied itself reached = itself

whole_shown : (role : Role) (log : List Entry) (applied : OpTime) → log_up_to (last_of log) log ≡ log
    → if_primary role log (log_up_to applied log) ≡ log_up_to (if_primary role (last_of log) applied) log
whole_shown Secondary log applied whole = refl
whole_shown Candidate log applied whole = refl
whole_shown Draining log applied whole = refl
whole_shown Primary log applied whole = sym whole

-- a log goes at least as far as it is visible
visible_within : (log : List Entry) (slots : sets.FinSet optime_cmp) (o : OpTime) → AllPairs StandsBefore log → is_before (visible log (sets.items slots)) o ≡ false → is_before (last_of log) o ≡ false
visible_within log slots o order within = elim (visible_shown log slots o within) [
  | inl none ↦ zero_least o (last_of log) none
  | inr some ↦ some_to_last o log order (some_more (λ e. (is_before e o ≡ false) × IsBeforeSlots slots e) (λ e. is_before e o ≡ false) log (λ e both. both.0) some)
]

pub kept_stepped : (node : Node) (store later : Store) → IsKept node store → later.count ≡ store.count → ((p : Place) → versions_at later p ≡ versions_at store p) → ((p : Place) → holder_at later p ≡ None)
    → IsKept (stepped_down node) later
kept_stepped node store later kept count versions free = record {
  sound = record {
    oplog = kept.sound.oplog;
    entries = kept.sound.entries;
    documents = kept.sound.documents;
    marked = kept.sound.marked;
    idle = λ not. record { slots = refl; writers = closed };
    applied = reached_last node.role (last_point node) node.applied (at_most_refl (last_point node)) kept.sound.applied;
    stable = whole_last node.role (last_point node) (visible_point node) node.applied node.stable kept.sound.applied kept.sound.stable
        (visible_within node.log node.slots node.stable kept.sound.oplog.order);
  };
  writers = apart_idle (stepped_down node) closed;
  versions = λ p. subst (λ vs. HasVersions p node.stable (log_up_to (if_primary node.role (last_point node) node.applied) node.log) vs) (sym (versions p))
      (subst (λ log. HasVersions p node.stable log (versions_at store p)) (whole_shown node.role node.log node.applied (up_to-last node.log kept.sound.oplog.order)) (kept.versions p));
  holders = λ p. subst (λ h. IsHolder (stepped_down node).writers p h) (sym (free p)) (none_held (maps.entries node.writers) p);
  shards = count ∙ kept.shards;
}
  where
    closed : (writer : ℕ) → ¬ IsWriting (stepped_down node).writers writer
    closed writer open_ = none_open (maps.entries node.writers) writer open_.0 open_.1 open_.2
