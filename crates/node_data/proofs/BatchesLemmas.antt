-- A log that is applied batch by batch.
use Rattle.std.proofs.Common.{◌≡◌, ◌∙◌, ◌<◌, ◌≤◌, ◌+◌, ◌-◌, ap, sym, refl, subst, arith, Bool, true, false, cond, not, ℕ, zero, suc, List, [], ◌∷◌, ◌++◌, append-nil, length, length-append, take, drop}
use Rattle.std.specs.Prelude.{slice_index_or}
use Rattle.std.specs.List.{All, AllPairs}
use Rattle.std.proofs.lemmas.List.{take-append-drop, take-take, take_at, drop-take, length-take-le, length-drop}
use Rattle.std.proofs.lemmas.List.Elements.{All-filter}
use Rattle.std.proofs.lemmas.List.Kept.{AllPairs-filter}
use Rattle.rs_optime.specs.declared.optime.OpTime.{OpTime}
use Rattle.rs_optime.proofs.Optimes.{at_most_refl, at_most_trans, before_at_most}
use Rattle.oplog_entry.specs.Log.{StandsBefore}
use Rattle.oplog_entry.specs.Visible.{ZERO, is_before, last_of, log_up_to}
use Rattle.oplog_entry.specs.declared.entry.Entry.{Entry}
use Rattle.oplog_entry.proofs.Optimes.{zero_least}
use Rattle.repl_msg.specs.Logs.{log_after, later_of}
use Rattle.version_store.specs.Past.{Past, back_to, up_to}
use Rattle.version_store.specs.Store.{Store, versions_at, ChangesEach}
use Rattle.set_model.specs.declared.command.ReadLevel.TheVariants.{Local}
use Rattle.set_model.specs.Node.{Node}
use Rattle.set_model.specs.Points.{if_primary, visible_point}
use Rattle.set_model.specs.Reads.{shown_log}
use Rattle.set_model.specs.Roles.{is_primary}
use Rattle.node_data.specs.Kept.{IsKept, IsHolder}
use Rattle.node_data.specs.NodeData.{NodeData, applied_after, applied_at, applied_with}
use Rattle.node_data.specs.Sound.{IsIdle}
use Rattle.node_data.specs.Versions.{HasVersions}
use Rattle.node_data.proofs.BatchLemmas.{batch_after, batch_of, last_applied, last_has, last_late}
use Rattle.node_data.proofs.FollowLemmas.{other_point}
use Rattle.node_data.proofs.HasLemmas.{has_up_to, not_late}
use Rattle.node_data.proofs.LogLemmas.{filter-passes, filter-swap, parts, up_to-up_to}
use Rattle.node_data.proofs.RoleLemmas.{apart_idle}
use Rattle.node_data.proofs.ShownLemmas.{shown_order, shown_up_to}

-- ---- one batch after another

last_cons : (entry : Entry) (log : List Entry) → 0 < length log → last_of (entry ∷ log) ≡ last_of log
last_cons entry [] some = absurd (omega (arith, some))
last_cons entry (next ∷ log) some = refl

last_append : (one two : List Entry) → 0 < length two → last_of (one ++ two) ≡ last_of two
last_append [] two some = refl
last_append (entry ∷ one) two some = last_cons entry (one ++ two) (omega (arith, length-append one two, some)) ∙ last_append one two some

take_both : {X : Type 0} (m n : ℕ) (xs : List X) → take (m + n) xs ≡ take m xs ++ take n (drop m xs)
take_both m n xs =
    sym (take-append-drop m (take (m + n) xs))
    ∙ ap (λ l. l ++ drop m (take (m + n) xs)) (take-take m (m + n) xs (omega arith))
    ∙ ap (λ l. take m xs ++ l) (drop-take m n xs)

-- what is after the entries that are applied
after_after : (m : ℕ) (at : OpTime) (log : List Entry) → AllPairs StandsBefore log → m ≤ length (log_after at log) → log_after (applied_after at (batch_of m at log)) log ≡ drop m (log_after at log)
after_after zero at log order there = refl
after_after (suc m) at log order there =
    let some : 0 < length (batch_of (suc m) at log) = omega (arith, length-take-le (suc m) (log_after at log) there) in
    ap (λ o. log_after o log) (last_applied at (batch_of (suc m) at log) some) ∙ batch_after (suc m) at log order some

-- data of which so many entries are left to be applied
pub record AppliedSoFar (first now : NodeData) (count left : ℕ) : Type 0 where
  pub fits : left ≤ count
  pub there : count ≤ length (log_after first.node.applied first.node.log)
  pub is : now ≡ applied_with first (batch_of (count - left) first.node.applied first.node.log)

pub so_far_none : (first : NodeData) (count : ℕ) → count ≤ length (log_after first.node.applied first.node.log) → AppliedSoFar first first count count
so_far_none first count there = record {
  fits = omega arith;
  there = there;
  is = none (count - count) (omega arith);
}
  where
    none : (n : ℕ) → n ≡ 0 → first ≡ applied_with first (batch_of n first.node.applied first.node.log)
    none zero is = refl
    none (suc n) is = absurd (omega (arith, is))

-- how many entries the next batch has
so_far_long : (first now : NodeData) (count left n : ℕ) → AllPairs StandsBefore first.node.log → AppliedSoFar first now count left → n ≤ left → length (batch_of n now.node.applied now.node.log) ≡ n
so_far_long first now count left n order so within =
    let m : ℕ = count - left in
    let there : m ≤ length (log_after first.node.applied first.node.log) = omega (arith, so.there) in
    subst (λ (l : NodeData). length (batch_of n l.node.applied l.node.log) ≡ n) (sym so.is)
    (ap (λ es. length (take n es)) (after_after m first.node.applied first.node.log order there)
    ∙ length-take-le n (drop m (log_after first.node.applied first.node.log)) (omega (arith, length-drop m (log_after first.node.applied first.node.log), so.there, so.fits, within)))

applied_both : (m n : ℕ) (at : OpTime) (log : List Entry) → AllPairs StandsBefore log → 0 < n → m + n ≤ length (log_after at log)
    → applied_after (applied_after at (batch_of m at log)) (batch_of n (applied_after at (batch_of m at log)) log) ≡ applied_after at (batch_of (m + n) at log)
applied_both m n at log order some there =
    let before : m ≤ length (log_after at log) = omega (arith, there) in
    let rest : n ≤ length (drop m (log_after at log)) = omega (arith, length-drop m (log_after at log), there) in
    let next : 0 < length (take n (drop m (log_after at log))) = omega (arith, length-take-le n (drop m (log_after at log)) rest, some) in
    let whole : 0 < length (batch_of (m + n) at log) = omega (arith, length-take-le (m + n) (log_after at log) there, some) in
    ap (λ es. applied_after (applied_after at (batch_of m at log)) (take n es)) (after_after m at log order before)
    ∙ last_applied (applied_after at (batch_of m at log)) (take n (drop m (log_after at log))) next
    ∙ sym (last_append (batch_of m at log) (take n (drop m (log_after at log))) next)
    ∙ ap last_of (sym (take_both m n (log_after at log)))
    ∙ sym (last_applied at (batch_of (m + n) at log) whole)

pub so_far_more : (first now next : NodeData) (count left n k : ℕ) → AllPairs StandsBefore first.node.log → AppliedSoFar first now count left → 0 < n → n ≤ left
    → k ≡ length (batch_of n now.node.applied now.node.log) → next ≡ applied_with now (batch_of n now.node.applied now.node.log) → AppliedSoFar first next count (left - k)
so_far_more first now next count left n k order so some within long is =
    let same : k ≡ n = long ∙ so_far_long first now count left n order so within in
    record {
      fits = omega (arith, so.fits);
      there = so.there;
      is = is
          ∙ subst (λ (l : NodeData). applied_with l (batch_of n l.node.applied l.node.log) ≡ applied_with first (batch_of ((count - left) + n) first.node.applied first.node.log)) (sym so.is)
          (ap (λ o. applied_at first o) (applied_both (count - left) n first.node.applied first.node.log order some (omega (arith, so.there, so.fits, within))))
          ∙ ap (λ m. applied_with first (batch_of m first.node.applied first.node.log)) (omega (arith, so.fits, within, same));
    }

pub so_far_less : (first now : NodeData) (count left n k : ℕ) → AllPairs StandsBefore first.node.log → AppliedSoFar first now count left → 0 < n → n ≤ left
    → k ≡ length (batch_of n now.node.applied now.node.log) → left - k < left
so_far_less first now count left n k order so some within long =
    let same : k ≡ n = long ∙ so_far_long first now count left n order so within in
    omega (arith, same, some, within)

pub so_far_whole : (first now : NodeData) (count left : ℕ) → AppliedSoFar first now count left → left ≤ 0 → now ≡ applied_with first (batch_of count first.node.applied first.node.log)
so_far_whole first now count left so none = so.is ∙ ap (λ m. applied_with first (batch_of m first.node.applied first.node.log)) (omega (arith, none))

-- data whose log is applied no less far
abbrev pub IsBegun : NodeData → NodeData → Type 0
IsBegun first now = (at : OpTime) × (now ≡ applied_at first at) × (is_before at first.node.applied ≡ false)

pub so_far_begun : (first now : NodeData) (count left : ℕ) → AppliedSoFar first now count left → IsBegun first now
so_far_begun first now count left so = (applied_after first.node.applied (batch_of (count - left) first.node.applied first.node.log), so.is, no_less (batch_of (count - left) first.node.applied first.node.log) refl)
  where
    no_less : (batch : List Entry) → batch_of (count - left) first.node.applied first.node.log ≡ batch → is_before (applied_after first.node.applied (batch_of (count - left) first.node.applied first.node.log)) first.node.applied ≡ false
    no_less [] is = ap (λ es. is_before (applied_after first.node.applied es) first.node.applied) is ∙ at_most_refl first.node.applied
    no_less (entry ∷ batch) is =
        let some : 0 < length (batch_of (count - left) first.node.applied first.node.log) = subst (λ (es : List Entry). 0 < length es) (sym is) (omega arith) in
        ap (λ o. is_before o first.node.applied) (last_applied first.node.applied (batch_of (count - left) first.node.applied first.node.log) some)
        ∙ before_at_most first.node.applied (last_of (batch_of (count - left) first.node.applied first.node.log)) (last_late (count - left) first.node.applied first.node.log some)

-- ---- up to an optime

length_parts : (at : OpTime) (log : List Entry) → AllPairs StandsBefore log → length log ≡ length (log_up_to at log) + length (log_after at log)
length_parts at log order = ap length (parts at log order) ∙ length-append (log_up_to at log) (log_after at log)

pub count_there : (at to : OpTime) (log : List Entry) → AllPairs StandsBefore log → length (log_up_to to log) - length (log_up_to at log) ≤ length (log_after at log)
count_there at to log order = omega (arith, length_parts at log order, length_parts to log order)

-- the last entry is no later than an optime that all are no later than
last_early : (at : OpTime) (log : List Entry) → All (λ (e : Entry). is_before at e.optime ≡ false) log → is_before at (last_of log) ≡ false
last_early at [] all = zero_least ZERO at refl
last_early at (entry ∷ log) all = last_has (λ o. is_before at o ≡ false) (entry ∷ log) (omega arith) all

pub later_first : (a b : OpTime) → is_before a b ≡ false → later_of a b ≡ a
later_first a b is = ap (λ t. cond t b a) is

pub later_second : (a b : OpTime) → is_before a b ≡ true → later_of a b ≡ b
later_second a b is = ap (λ t. cond t b a) is

early_up_to : (at to : OpTime) (log : List Entry) → is_before to at ≡ true → All (λ (e : Entry). is_before at e.optime ≡ false) (log_up_to to log)
early_up_to at to log earlier k d within =
    at_most_trans (slice_index_or (log_up_to to log) k d).optime to at (not_late _ (filter-passes (λ (e : Entry). not (is_before to e.optime)) log k d within)) (before_at_most to at earlier)

-- a prefix of what is after an optime is after it
prefix_of : (to : OpTime) (log : List Entry) → AllPairs StandsBefore log → take (length (log_up_to to log)) log ≡ log_up_to to log
prefix_of to log order = ap (λ l. take (length (log_up_to to log)) l) (parts to log order) ∙ take_at (log_up_to to log) (log_after to log) (length (log_up_to to log)) refl

pub applied_up_to : (at to : OpTime) (log : List Entry) (count : ℕ) → AllPairs StandsBefore log → count ≡ length (log_up_to to log) - length (log_up_to at log)
    → applied_after at (batch_of count at log) ≡ later_of at (last_of (log_up_to to log))
applied_up_to at to log count order is = by_test (is_before to at) refl
  where
    by_count : (n : ℕ) → n ≡ 0 → applied_after at (batch_of n at log) ≡ at
    by_count zero none = refl
    by_count (suc n) none = absurd (omega (arith, none))

    by_test : (b : Bool) → is_before to at ≡ b → applied_after at (batch_of count at log) ≡ later_of at (last_of (log_up_to to log))
    by_test true earlier =
        let within : log_up_to to (log_up_to at log) ≡ log_up_to to log = up_to-up_to to at log (before_at_most to at earlier) in
        let short : length (log_up_to to log) ≤ length (log_up_to at log) =
        omega (arith, length_parts to (log_up_to at log) (AllPairs-filter StandsBefore (λ (e : Entry). not (is_before at e.optime)) log order), ap length within) in
        by_count count (omega (arith, is, short))
        ∙ sym (later_first at (last_of (log_up_to to log)) (last_early at (log_up_to to log) (early_up_to at to log earlier)))
    by_test false later = by_more (log_up_to to (log_after at log)) refl
      where
        front : log_up_to at (log_up_to to log) ≡ log_up_to at log
        front = up_to-up_to at to log later

        back : log_after at (log_up_to to log) ≡ log_up_to to (log_after at log)
        back = filter-swap (λ (e : Entry). is_before at e.optime) (λ (e : Entry). not (is_before to e.optime)) log

        whole : log_up_to to log ≡ log_up_to at log ++ log_up_to to (log_after at log)
        whole =
            parts at (log_up_to to log) (AllPairs-filter StandsBefore (λ (e : Entry). not (is_before to e.optime)) log order)
            ∙ ap (λ l. l ++ log_after at (log_up_to to log)) front
            ∙ ap (λ l. log_up_to at log ++ l) back

        long : count ≡ length (log_up_to to (log_after at log))
        long = omega (arith, is, ap length whole, length-append (log_up_to at log) (log_up_to to (log_after at log)))

        batch : batch_of count at log ≡ log_up_to to (log_after at log)
        batch = ap (λ n. batch_of n at log) long ∙ prefix_of to (log_after at log) (AllPairs-filter StandsBefore (λ (e : Entry). is_before at e.optime) log order)

        by_more : (more : List Entry) → log_up_to to (log_after at log) ≡ more → applied_after at (batch_of count at log) ≡ later_of at (last_of (log_up_to to log))
        by_more [] none =
            ap (λ es. applied_after at es) (batch ∙ none)
            ∙ sym (later_first at (last_of (log_up_to to log)) (last_early at (log_up_to to log)
            (subst (λ l. All (λ (e : Entry). is_before at e.optime ≡ false) l) (sym (whole ∙ ap (λ l. log_up_to at log ++ l) none ∙ append-nil (log_up_to at log)))
            (λ k d within. not_late _ (filter-passes (λ (e : Entry). not (is_before at e.optime)) log k d within)))))
        by_more (entry ∷ more) some =
            let there : 0 < length (log_up_to to (log_after at log)) = subst (λ (l : List Entry). 0 < length l) (sym some) (omega arith) in
            let end : last_of (log_up_to to log) ≡ last_of (log_up_to to (log_after at log)) = ap last_of whole ∙ last_append (log_up_to at log) (log_up_to to (log_after at log)) there in
            ap (λ es. applied_after at es) batch
            ∙ last_applied at (log_up_to to (log_after at log)) there
            ∙ sym end
            ∙ sym (later_second at (last_of (log_up_to to log)) (ap (λ o. is_before at o) end
            ∙ last_has (λ o. is_before at o ≡ true) (log_up_to to (log_after at log)) there
            (All-filter (λ (e : Entry). not (is_before to e.optime)) (λ (e : Entry). is_before at e.optime ≡ true) (log_after at log) (filter-passes (λ (e : Entry). is_before at e.optime) log))))

-- ---- back to where it was applied

pub kept_back : (node : Node) (store later : Store) (point : OpTime) → IsKept node store → is_primary node.role ≡ false → is_before point node.stable ≡ false → is_before node.applied point ≡ false
    → ChangesEach store later (back_to point) → IsKept (record node { applied = point }) later
kept_back node store later point kept other after within changes =
    let idle : IsIdle node = kept.sound.idle other in
    record {
      sound = record {
        oplog = kept.sound.oplog;
        entries = kept.sound.entries;
        documents = kept.sound.documents;
        marked = kept.sound.marked;
        idle = λ not. record { slots = idle.slots; writers = idle.writers };
        applied = at_most_trans point node.applied (last_of node.log) within kept.sound.applied;
        stable = ap (λ p. is_before p node.stable) (other_point node.role (visible_point (record node { applied = point })) point other) ∙ after;
      };
      writers = apart_idle (record node { applied = point }) idle.writers;
      versions = λ p. subst (λ (past : Past). HasVersions p node.stable (if_primary node.role node.log (log_up_to point node.log)) past.versions) (sym (changes.each p))
          (subst (λ log. HasVersions p node.stable log (up_to point (versions_at store p)))
          (shown_up_to node.role node.applied point node.log (λ _. within) ∙ sym (other_point node.role node.log (log_up_to point node.log) other))
          (has_up_to p node.stable point (shown_log node Local) (versions_at store p) (shown_order node.role node.applied node.log kept.sound.oplog.order) after (kept.versions p)));
      holders = λ p. subst (λ h. IsHolder node.writers p h) (sym (ap (λ (past : Past). past.holder) (changes.each p))) (kept.holders p);
      shards = changes.count ∙ kept.shards;
    }
