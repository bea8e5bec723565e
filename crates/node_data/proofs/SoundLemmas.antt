-- A node's log stays in order while it is written.
use Rattle.std.proofs.Common.{◌≡◌, ◌≢◌, ◌⊎◌, inl, inr, ◌<◌, ◌≤◌, ◌∙◌, ℕ, suc, zero, true, false, not, IsTrue, IfSome, IsSome, List, [], ◌∷◌, Option, None, Some, refl, sym, ap, subst, arith}
use Rattle.std.specs.Prelude.{slice_index_or}
use Rattle.std.specs.List.{All, AllPairs}
use Rattle.std.specs.FinMap.{get, insert}
use Rattle.std.specs.FinSet as sets
use Rattle.std.proofs.lemmas.List.Elements.{All-append}
use Rattle.bson_doc.specs.Place.{Place}
use Rattle.rs_optime.specs.Order.{optime_cmp, is_before}
use Rattle.rs_optime.specs.declared.optime.OpTime.{OpTime}
use Rattle.rs_optime.proofs.Optimes.{at_most_before_trans, before_both}
use Rattle.entry_bytes.specs.Sizes.{IsWithinEntry}
use Rattle.oplog_entry.specs.declared.entry.Entry.{Entry}
use Rattle.oplog_entry.specs.declared.entry.Op.{Op}
use Rattle.oplog_entry.specs.declared.entry.Session.{Session}
use Rattle.oplog_entry.specs.Docs.{docs}
use Rattle.oplog_entry.specs.Lawful.{IsLawfulOp, IsSession}
use Rattle.oplog_entry.specs.Log.{StandsBefore}
use Rattle.oplog_entry.specs.Step.{place_of, document_after}
use Rattle.oplog_entry.specs.Visible.{ZERO, last_of, visible}
use Rattle.oplog_entry.proofs.PlaceLemmas.{same_place}
use Rattle.oplog_entry.proofs.Optimes.{zero_least}
use Rattle.oplog_store.specs.Log.{IsOplog, with_entry}
use Rattle.oplog_store.proofs.Keeps.{all_with_entry, with_entry_keeps}
use Rattle.optime_slots.proofs.SlotLemmas.{open_with, open_without}
use Rattle.version_store.specs.declared.history.Version.{Version}
use Rattle.version_store.specs.Past.{latest_of}
use Rattle.set_model.specs.declared.role.Role.{Role}
use Rattle.set_model.specs.declared.role.Role.TheVariants.{Secondary, Candidate, Draining, Primary}
use Rattle.set_model.specs.declared.writer.Writer.TheVariants.{Open}
use Rattle.set_model.specs.Changes.{logged_at, opened_at}
use Rattle.set_model.specs.Node.{Node}
use Rattle.set_model.specs.Points.{if_primary, visible_point}
use Rattle.set_model.specs.Roles.{is_primary}
use Rattle.set_model.specs.Writers.{settled, aborted}
use Rattle.node_data.specs.Kept.{IsNewest, IsPending, AreApart}
use Rattle.node_data.specs.NodeData.{IsNext}
use Rattle.node_data.specs.Sound.{IsSound}
use Rattle.node_data.specs.Versions.{versions_of, IsSmall, AreSmall}
use Rattle.node_data.specs.Writers.{HasOpen, IsWriting}
use Rattle.node_data.proofs.OpenLemmas.{newest_with, slot-itself, slot-more, slot-other, opened_cases, done_cases, gone_cases, three_ways}
use Rattle.node_data.proofs.VersionLemmas.{latest_of-versions_of, versions_of-with, versions_of-with-other}
use Rattle.node_data.proofs.VisibleLemmas.{IsShown, IsBeforeSlots, SomeEntry, some_fact, some_with, some_more, some_both, some_to_last, last_to_some, visible_shown, shown_visible}

-- ---- roles

pub primary_not : (role : Role) → role ≡ Primary → is_primary role ≡ false → ⊥
primary_not role is not = let also : is_primary role ≡ true = ap is_primary is in cc

pub primary_if : (role : Role) → (is_primary role ≡ false → ⊥) → role ≡ Primary
primary_if Primary not = refl
primary_if Secondary not = absurd (not refl)
primary_if Candidate not = absurd (not refl)
primary_if Draining not = absurd (not refl)

-- a node with an open writer is primary
pub writing_primary : (node : Node) (writer : ℕ) → IsSound node → IsWriting node.writers writer → node.role ≡ Primary
writing_primary node writer sound writing = primary_if node.role (λ not. (sound.idle not).writers writer writing)

pub primary_point : (role : Role) (a b : OpTime) → role ≡ Primary → if_primary role a b ≡ a
primary_point role a b is = ap (λ r. if_primary r a b) is

-- ---- the newest entry

-- a primary may write next at this optime
abbrev pub MayWriteAt : Node → OpTime → Type 0
MayWriteAt node at = IsNext node.log node.slots node.seen at

-- an entry past all others is the newest of its document
pub newest_past : (node : Node) (at : OpTime) (op : Op) (session : Option Session) → IsSound node → MayWriteAt node at → IsNewest node.log (record { optime = at; op = op; session = session })
newest_past node at op session sound next =
    let past : node.seen < at.ts = next.past in
    record {
      fits = λ k d within. inl (record { earlier = omega (arith, sound.marked k d within); term = next.entries k d within });
      last = λ k d within after. absurd (omega (arith, sound.marked k d within));
    }

-- the log goes no less far with one entry more
last-with : (log : List Entry) (entry : Entry) (o : OpTime) → AllPairs StandsBefore (with_entry log entry) → is_before (last_of log) o ≡ false → is_before (last_of (with_entry log entry)) o ≡ false
last-with log entry o order within = elim (last_to_some o log within) [
  | inl none ↦ zero_least o (last_of (with_entry log entry)) none
  | inr some ↦ some_to_last o (with_entry log entry) order (some_with (λ e. is_before e o ≡ false) log entry some)
]

-- no document is too large with an entry that leaves none so
small_with : (log : List Entry) (entry : Entry) → AllPairs StandsBefore log → IsNewest log entry → ((place : Place) → place_of entry.op ≡ Some place → IsSmall (document_after entry.op (get (docs log) place)))
    → AreSmall log → AreSmall (with_entry log entry)
small_with log entry order newest left small place = by_place (place_of entry.op) refl
  where
    one : (P : Version → Type 0) (v : Version) → P v → All P (v ∷ [])
    one P v here zero d within = here
    one P v here (suc k) d within = absurd (omega arith)

    by_place : (own : Option Place) → place_of entry.op ≡ own → All (λ (v : Version). IsSmall v.doc) (versions_of place (with_entry log entry))
    by_place None is = subst (λ vs. All (λ (v : Version). IsSmall v.doc) vs) (sym (versions_of-with-other log entry place (λ same. none_some (sym is ∙ same)))) (small place)
      where
        none_some : ◌≡◌ {A = Option Place} None (Some place) → ⊥
        none_some e = cc
    by_place (Some own) is = elim (same_place own place) [
      | inl same ↦
          let here : place_of entry.op ≡ Some place = is ∙ ap (λ (p : Place). Some p) same in
          subst (λ vs. All (λ (v : Version). IsSmall v.doc) vs) (sym (versions_of-with log entry place order newest here))
          (All-append (λ (v : Version). IsSmall v.doc) (versions_of place log) (record { at = entry.optime; doc = document_after entry.op (get (docs log) place) } ∷ []) (small place)
          (one (λ (v : Version). IsSmall v.doc) (record { at = entry.optime; doc = document_after entry.op (get (docs log) place) }) (left place here)))
      | inr apart ↦ subst (λ vs. All (λ (v : Version). IsSmall v.doc) vs) (sym (versions_of-with-other log entry place (λ same. apart (some_same (sym is ∙ same))))) (small place)
    ]
      where
        some_same : Some own ≡ Some place → own ≡ place
        some_same e = cc

-- what a later op leaves is no larger with an entry of another document
small_still : (log : List Entry) (entry : Entry) (op : Op) → AllPairs StandsBefore log → IsNewest log entry → place_of entry.op ≢ place_of op
    → ((place : Place) → place_of op ≡ Some place → IsSmall (document_after op (get (docs log) place)))
    → (place : Place) → place_of op ≡ Some place → IsSmall (document_after op (get (docs (with_entry log entry)) place))
small_still log entry op order newest apart small place own =
    subst (λ d. IsSmall (document_after op d))
    (sym (latest_of-versions_of log place) ∙ ap latest_of (sym (versions_of-with-other log entry place (λ same. apart (same ∙ sym own)))) ∙ latest_of-versions_of (with_entry log entry) place)
    (small place own)

-- ---- how far it is visible

-- An optime that is shown stays so where entries come, and slots that are past each entry of before.
shown_stays : (log later : List Entry) (slots after : sets.FinSet optime_cmp) (o : OpTime)
    → All (λ (e : Entry). (slot : OpTime) → IsTrue (sets.contains after slot) → IsTrue (sets.contains slots slot) ⊎ (is_before e.optime slot ≡ true)) log
    → (SomeEntry (λ e. (is_before e o ≡ false) × IsBeforeSlots after e) log → SomeEntry (λ e. (is_before e o ≡ false) × IsBeforeSlots after e) later)
    → IsShown log slots o → IsShown later after o
shown_stays log later slots after o new into (inl none) = inl none
shown_stays log later slots after o new into (inr some) =
    inr (into (some_more (λ e. ((is_before e o ≡ false) × IsBeforeSlots slots e) × ((slot : OpTime) → IsTrue (sets.contains after slot) → IsTrue (sets.contains slots slot) ⊎ (is_before e slot ≡ true)))
    (λ e. (is_before e o ≡ false) × IsBeforeSlots after e) log (λ e both. (both.0.0, λ slot there. still e slot both.0.1 (both.1 slot there)))
    (some_both (λ e. (is_before e o ≡ false) × IsBeforeSlots slots e) (λ e. (slot : OpTime) → IsTrue (sets.contains after slot) → IsTrue (sets.contains slots slot) ⊎ (is_before e slot ≡ true)) log new some)))
  where
    still : (e slot : OpTime) → IsBeforeSlots slots e → IsTrue (sets.contains slots slot) ⊎ (is_before e slot ≡ true) → is_before e slot ≡ true
    still e slot before (inl old) = before slot old
    still e slot before (inr late) = late

-- and so what is stable stays within what is applied
stable_stays : (role : Role) (log later : List Entry) (slots after : sets.FinSet optime_cmp) (applied o : OpTime) → role ≡ Primary → AllPairs StandsBefore later
    → All (λ (e : Entry). (slot : OpTime) → IsTrue (sets.contains after slot) → IsTrue (sets.contains slots slot) ⊎ (is_before e.optime slot ≡ true)) log
    → (SomeEntry (λ e. (is_before e o ≡ false) × IsBeforeSlots after e) log → SomeEntry (λ e. (is_before e o ≡ false) × IsBeforeSlots after e) later)
    → is_before (if_primary role (visible log (sets.items slots)) applied) o ≡ false → is_before (if_primary role (visible later (sets.items after)) applied) o ≡ false
stable_stays role log later slots after applied o primary order new into stable =
    ap (λ p. is_before p o) (primary_point role (visible later (sets.items after)) applied primary)
    ∙ shown_visible later after o order (shown_stays log later slots after o new into
    (visible_shown log slots o (ap (λ p. is_before p o) (sym (primary_point role (visible log (sets.items slots)) applied primary)) ∙ stable)))

-- ---- an entry past all others

-- an entry that is written at an optime, and one that a slot waits for
abbrev pub entry_at : OpTime → Op → Option Session → Entry
entry_at at op session = record { optime = at; op = op; session = session }

abbrev pub slot_entry : OpTime → Op → Entry
slot_entry at op = entry_at at op None

-- what a new entry owes
pub record IsNew (node : Node) (at : OpTime) (op : Op) (session : Option Session) : Type 0 where
  pub role : node.role ≡ Primary
  pub next : MayWriteAt node at
  pub lawful : IsLawfulOp op
  pub session_too : IfSome session IsSession
  pub write : IfSome session (λ _. IsSome (place_of op))
  pub within : IsWithinEntry (entry_at at op session)
  pub small : (place : Place) → place_of op ≡ Some place → IsSmall (document_after op (get (docs node.log) place))

pub sound_logged : (node : Node) (at : OpTime) (op : Op) (session : Option Session) → IsSound node → IsNew node at op session → IsSound (logged_at at node op session)
sound_logged node at op session sound new =
    let newest : IsNewest node.log (entry_at at op session) = newest_past node at op session sound new.next in
    let past : node.seen < at.ts = new.next.past in
    let oplog : IsOplog (with_entry node.log (entry_at at op session)) =
    with_entry_keeps node.log (entry_at at op session) sound.oplog (record { term = new.next.term; op = new.lawful; session = new.session_too; write = new.write }) newest.fits in
    record {
      oplog = oplog;
      entries = all_with_entry IsWithinEntry node.log (entry_at at op session) new.within sound.entries;
      documents = small_with node.log (entry_at at op session) sound.oplog.order newest new.small sound.documents;
      marked = all_with_entry (λ (e : Entry). e.optime.ts ≤ at.ts) node.log (entry_at at op session) (omega arith) (λ k d within. omega (arith, sound.marked k d within));
      idle = λ not. absurd (primary_not node.role new.role not);
      applied = last-with node.log (entry_at at op session) node.applied oplog.order sound.applied;
      stable = stable_stays node.role node.log (with_entry node.log (entry_at at op session)) node.slots node.slots node.applied node.stable new.role oplog.order
          (λ k d within slot there. inl there) (some_with (λ e. (is_before e node.stable ≡ false) × IsBeforeSlots node.slots e) node.log (entry_at at op session)) sound.stable;
    }

before_next : (node : Node) (at : OpTime) → IsSound node → MayWriteAt node at → All (λ (e : Entry). is_before e.optime at ≡ true) node.log
before_next node at sound next k d within =
    let past : node.seen < at.ts = next.past in
    before_both (slice_index_or node.log k d).optime at (next.entries k d within) (omega (arith, sound.marked k d within))

-- what is stable is before an optime that every entry is before
pub stable_before : (node : Node) (at : OpTime) → IsSound node → node.role ≡ Primary → is_before ZERO at ≡ true → All (λ (e : Entry). is_before e.optime at ≡ true) node.log → is_before node.stable at ≡ true
stable_before node at sound primary positive each = elim (visible_shown node.log node.slots node.stable (ap (λ p. is_before p node.stable) (sym (primary_point node.role (visible_point node) node.applied primary)) ∙ sound.stable)) [
  | inl none ↦ at_most_before_trans node.stable ZERO at none positive
  | inr some ↦ some_fact (is_before node.stable at ≡ true) node.log
      (some_more (λ e. ((is_before e node.stable ≡ false) × IsBeforeSlots node.slots e) × (is_before e at ≡ true)) (λ e. is_before node.stable at ≡ true) node.log
      (λ e both. at_most_before_trans node.stable e at both.0.0 both.1)
      (some_both (λ e. (is_before e node.stable ≡ false) × IsBeforeSlots node.slots e) (λ e. is_before e at ≡ true) node.log each some))
]

-- and so before the next one that is written
pub next_unstable : (node : Node) (at : OpTime) → IsSound node → node.role ≡ Primary → MayWriteAt node at → is_before node.stable at ≡ true
next_unstable node at sound primary next =
    let past : node.seen < at.ts = next.past in
    stable_before node at sound primary (before_both ZERO at (omega arith) (omega (arith, past))) (before_next node at sound next)

pub apart_logged : (node : Node) (at : OpTime) (op : Op) (session : Option Session) → IsSound node → AreApart node → IsNew node at op session
    → ((v : ℕ) (by : OpTime) (other : Op) → HasOpen node.writers v by other → place_of op ≢ place_of other) → AreApart (logged_at at node op session)
apart_logged node at op session sound writers new free = record { pending = pending; order = writers.order; apart = writers.apart; alone = writers.alone }
  where
    pending : (v : ℕ) (by : OpTime) (other : Op) → HasOpen node.writers v by other → IsPending (logged_at at node op session) by other
    pending v by other opens =
        let old : IsPending node by other = writers.pending v by other opens in
        let past : node.seen < at.ts = new.next.past in
        record {
          open_slot = old.open_slot;
          positive = old.positive;
          seen = omega (arith, old.seen, past);
          term = old.term;
          unstable = old.unstable;
          lawful = old.lawful;
          within = old.within;
          place = old.place;
          small = small_still node.log (entry_at at op session) other sound.oplog.order (newest_past node at op session sound new.next) (free v by other opens) old.small;
          newest = newest_with node.log (slot_entry by other) (entry_at at op session) old.newest
              (inr (record { earlier = omega (arith, old.seen, past); term = new.next.open_slots by old.open_slot })) (λ _. free v by other opens);
        }

-- ---- slots

pub sound_opened : (node : Node) (at : OpTime) (writer : ℕ) (op : Op) → IsSound node → node.role ≡ Primary → MayWriteAt node at → IsSound (opened_at at node writer op)
sound_opened node at writer op sound primary next =
    let past : node.seen < at.ts = next.past in
    record {
      oplog = sound.oplog;
      entries = sound.entries;
      documents = sound.documents;
      marked = λ k d within. omega (arith, sound.marked k d within, past);
      idle = λ not. absurd (primary_not node.role primary not);
      applied = sound.applied;
      stable = stable_stays node.role node.log node.log node.slots (sets.insert node.slots at) node.applied node.stable primary sound.oplog.order new (λ some. some) sound.stable;
    }
  where
    new : All (λ (e : Entry). (slot : OpTime) → IsTrue (sets.contains (sets.insert node.slots at) slot) → IsTrue (sets.contains node.slots slot) ⊎ (is_before e.optime slot ≡ true)) node.log
    new k d within slot there = elim (open_with node.slots at slot there) [
      | inl same ↦ inr (ap (λ o. is_before (slice_index_or node.log k d).optime o) same ∙ before_next node at sound next k d within)
      | inr old ↦ inl old
    ]

pub apart_opened : (node : Node) (at : OpTime) (writer : ℕ) (op : Op) → IsSound node → AreApart node → IsNew node at op None → IsSome (place_of op)
    → ((v : ℕ) (by : OpTime) (other : Op) → HasOpen node.writers v by other → place_of op ≢ place_of other) → AreApart (opened_at at node writer op)
apart_opened node at writer op sound writers new place free = record { pending = pending; order = order; apart = apart; alone = alone }
  where
    here : IsPending (opened_at at node writer op) at op
    here = record {
      open_slot = slot-itself node.slots at;
      positive = let past : node.seen < at.ts = new.next.past in omega (arith, past);
      seen = omega arith;
      term = new.next.term;
      unstable = next_unstable node at sound new.role new.next;
      lawful = new.lawful;
      within = new.within;
      place = place;
      small = new.small;
      newest = newest_past node at op None sound new.next;
    }

    pending : (v : ℕ) (by : OpTime) (other : Op) → HasOpen (insert node.writers writer (Open at op)) v by other → IsPending (opened_at at node writer op) by other
    pending v by other opens = elim (opened_cases node.writers writer at op v by other opens) [
      | inl same ↦
          subst (λ (o : OpTime). IsPending (opened_at at node writer op) o other) same.1
          (subst (λ (o : Op). IsPending (opened_at at node writer op) at o) same.2 here)
      | inr old ↦
          let was : IsPending node by other = writers.pending v by other old.1 in
          let past : node.seen < at.ts = new.next.past in
          record {
            open_slot = slot-more node.slots at by was.open_slot;
            positive = was.positive;
            seen = omega (arith, was.seen, past);
            term = was.term;
            unstable = was.unstable;
            lawful = was.lawful;
            within = was.within;
            place = was.place;
            small = was.small;
            newest = was.newest;
          }
    ]

    order : (one two : ℕ) (a b : OpTime) (x y : Op) → HasOpen (insert node.writers writer (Open at op)) one a x → HasOpen (insert node.writers writer (Open at op)) two b y → a.ts < b.ts → a.term ≤ b.term
    order one two a b x y first second times = elim (opened_cases node.writers writer at op one a x first) [
      | inl same ↦ elim (opened_cases node.writers writer at op two b y second) [
        | inl also ↦
            let one_time : at.ts ≡ a.ts = ap (λ (o : OpTime). o.ts) same.1 in
            let two_time : at.ts ≡ b.ts = ap (λ (o : OpTime). o.ts) also.1 in
            absurd (omega (arith, one_time, two_time, times))
        | inr old ↦
            let was : IsPending node b y = writers.pending two b y old.1 in
            let time : at.ts ≡ a.ts = ap (λ (o : OpTime). o.ts) same.1 in
            let past : node.seen < at.ts = new.next.past in
            absurd (omega (arith, was.seen, time, times, past))
      ]
      | inr old ↦ elim (opened_cases node.writers writer at op two b y second) [
        | inl also ↦
            let was : IsPending node a x = writers.pending one a x old.1 in
            subst (λ (o : OpTime). a.term ≤ o.term) also.1 (new.next.open_slots a was.open_slot)
        | inr too ↦ writers.order one two a b x y old.1 too.1 times
      ]
    ]

    apart : (one two : ℕ) (a b : OpTime) (x y : Op) → HasOpen (insert node.writers writer (Open at op)) one a x → HasOpen (insert node.writers writer (Open at op)) two b y → a.ts ≡ b.ts → one ≡ two
    apart one two a b x y first second times = elim (opened_cases node.writers writer at op one a x first) [
      | inl same ↦ elim (opened_cases node.writers writer at op two b y second) [
        | inl also ↦ same.0 ∙ sym also.0
        | inr old ↦
            let was : IsPending node b y = writers.pending two b y old.1 in
            let time : at.ts ≡ a.ts = ap (λ (o : OpTime). o.ts) same.1 in
            let past : node.seen < at.ts = new.next.past in
            absurd (omega (arith, was.seen, time, times, past))
      ]
      | inr old ↦ elim (opened_cases node.writers writer at op two b y second) [
        | inl also ↦
            let was : IsPending node a x = writers.pending one a x old.1 in
            let time : at.ts ≡ b.ts = ap (λ (o : OpTime). o.ts) also.1 in
            let past : node.seen < at.ts = new.next.past in
            absurd (omega (arith, was.seen, time, times, past))
        | inr too ↦ writers.apart one two a b x y old.1 too.1 times
      ]
    ]

    alone : (one two : ℕ) (a b : OpTime) (x y : Op) → HasOpen (insert node.writers writer (Open at op)) one a x → HasOpen (insert node.writers writer (Open at op)) two b y → place_of x ≡ place_of y → one ≡ two
    alone one two a b x y first second places = elim (opened_cases node.writers writer at op one a x first) [
      | inl same ↦ elim (opened_cases node.writers writer at op two b y second) [
        | inl also ↦ same.0 ∙ sym also.0
        | inr old ↦ absurd (free two b y old.1 (ap place_of same.2 ∙ places))
      ]
      | inr old ↦ elim (opened_cases node.writers writer at op two b y second) [
        | inl also ↦ absurd (free one a x old.1 (ap place_of also.2 ∙ sym places))
        | inr too ↦ writers.alone one two a b x y old.1 too.1 places
      ]
    ]

pub sound_settled : (node : Node) (writer : ℕ) (at : OpTime) (op : Op) → IsSound node → AreApart node → HasOpen node.writers writer at op → IsSound (settled node writer at op)
sound_settled node writer at op sound writers opens =
    let here : IsPending node at op = writers.pending writer at op opens in
    let primary : node.role ≡ Primary = writing_primary node writer sound (at, op, opens) in
    let oplog : IsOplog (with_entry node.log (slot_entry at op)) =
    with_entry_keeps node.log (slot_entry at op) sound.oplog (record { term = here.term; op = here.lawful; session = tt; write = tt }) here.newest.fits in
    record {
      oplog = oplog;
      entries = all_with_entry IsWithinEntry node.log (slot_entry at op) here.within sound.entries;
      documents = small_with node.log (slot_entry at op) sound.oplog.order here.newest here.small sound.documents;
      marked = all_with_entry (λ (e : Entry). e.optime.ts ≤ node.seen) node.log (slot_entry at op) here.seen sound.marked;
      idle = λ not. absurd (primary_not node.role primary not);
      applied = last-with node.log (slot_entry at op) node.applied oplog.order sound.applied;
      stable = stable_stays node.role node.log (with_entry node.log (slot_entry at op)) node.slots (sets.remove node.slots at) node.applied node.stable primary oplog.order
          (λ k d within slot there. inl (open_without node.slots at slot there)) (some_with (λ e. (is_before e node.stable ≡ false) × IsBeforeSlots (sets.remove node.slots at) e) node.log (slot_entry at op)) sound.stable;
    }

pub apart_settled : (node : Node) (writer : ℕ) (at : OpTime) (op : Op) → IsSound node → AreApart node → HasOpen node.writers writer at op → AreApart (settled node writer at op)
apart_settled node writer at op sound writers opens = record {
  pending = λ v by other done. pending (writers.pending writer at op opens) v by other (done_cases node.writers writer at v by other done);
  order = λ one two a b x y first second. writers.order one two a b x y (done_cases node.writers writer at one a x first).1 (done_cases node.writers writer at two b y second).1;
  apart = λ one two a b x y first second. writers.apart one two a b x y (done_cases node.writers writer at one a x first).1 (done_cases node.writers writer at two b y second).1;
  alone = λ one two a b x y first second. writers.alone one two a b x y (done_cases node.writers writer at one a x first).1 (done_cases node.writers writer at two b y second).1;
}
  where
    pending : IsPending node at op → (v : ℕ) (by : OpTime) (other : Op) → (v ≢ writer) × HasOpen node.writers v by other → IsPending (settled node writer at op) by other
    pending here v by other old =
        let was : IsPending node by other = writers.pending v by other old.1 in
        record {
          open_slot = slot-other node.slots at by (λ same. old.0 (writers.apart v writer by at other op old.1 opens (ap (λ (o : OpTime). o.ts) same))) was.open_slot;
          positive = was.positive;
          seen = was.seen;
          term = was.term;
          unstable = was.unstable;
          lawful = was.lawful;
          within = was.within;
          place = was.place;
          small = small_still node.log (slot_entry at op) other sound.oplog.order here.newest (λ places. old.0 (writers.alone v writer by at other op old.1 opens (sym places))) was.small;
          newest = newest_with node.log (slot_entry by other) (slot_entry at op) was.newest
              (elim (three_ways by.ts at.ts) [
                | inl less ↦ inr (record { earlier = less; term = writers.order v writer by at other op old.1 opens less })
                | inr rest ↦ elim rest [
                  | inl same ↦ absurd (old.0 (writers.apart v writer by at other op old.1 opens same))
                  | inr more ↦ inl (record { earlier = more; term = writers.order writer v at by op other opens old.1 more })
                ]
              ])
              (λ _ places. old.0 (writers.alone v writer by at other op old.1 opens (sym places)));
        }

pub sound_aborted : (node : Node) (writer : ℕ) (at : OpTime) (op : Op) → IsSound node → HasOpen node.writers writer at op → IsSound (aborted node writer at)
sound_aborted node writer at op sound opens =
    let primary : node.role ≡ Primary = writing_primary node writer sound (at, op, opens) in
    record {
      oplog = sound.oplog;
      entries = sound.entries;
      documents = sound.documents;
      marked = sound.marked;
      idle = λ not. absurd (primary_not node.role primary not);
      applied = sound.applied;
      stable = stable_stays node.role node.log node.log node.slots (sets.remove node.slots at) node.applied node.stable primary sound.oplog.order
          (λ k d within slot there. inl (open_without node.slots at slot there)) (λ some. some) sound.stable;
    }

pub apart_aborted : (node : Node) (writer : ℕ) (at : OpTime) (op : Op) → AreApart node → HasOpen node.writers writer at op → AreApart (aborted node writer at)
apart_aborted node writer at op writers opens = record {
  pending = λ v by other gone. pending v by other (gone_cases node.writers writer v by other gone);
  order = λ one two a b x y first second. writers.order one two a b x y (gone_cases node.writers writer one a x first).1 (gone_cases node.writers writer two b y second).1;
  apart = λ one two a b x y first second. writers.apart one two a b x y (gone_cases node.writers writer one a x first).1 (gone_cases node.writers writer two b y second).1;
  alone = λ one two a b x y first second. writers.alone one two a b x y (gone_cases node.writers writer one a x first).1 (gone_cases node.writers writer two b y second).1;
}
  where
    pending : (v : ℕ) (by : OpTime) (other : Op) → (v ≢ writer) × HasOpen node.writers v by other → IsPending (aborted node writer at) by other
    pending v by other old =
        let was : IsPending node by other = writers.pending v by other old.1 in
        record {
          open_slot = slot-other node.slots at by (λ same. old.0 (writers.apart v writer by at other op old.1 opens (ap (λ (o : OpTime). o.ts) same))) was.open_slot;
          positive = was.positive;
          seen = was.seen;
          term = was.term;
          unstable = was.unstable;
          lawful = was.lawful;
          within = was.within;
          place = was.place;
          small = was.small;
          newest = was.newest;
        }
