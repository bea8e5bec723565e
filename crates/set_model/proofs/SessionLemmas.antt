-- The last write of a session in a log, and logs in which the numbers of each session rise.
use Rattle.std.proofs.Common.{◌≡◌, ◌∙◌, ◌⊎◌, inl, inr, ap, sym, subst, refl, arith, ℕ, Bool, true, false, cond, ◌&&◌, nat_lt, eqb-true, eq-eqb, ltb-true, ltb-false, lt-ltb, fold, filter, map, length, Option, None, Some, List, [], ◌∷◌, ◌++◌}
use Rattle.std.proofs.lemmas.Bool.{and_from, and_parts, eqb-false}
use Rattle.std.proofs.lemmas.List.Kept.{AllPairs-cons}
use Rattle.std.specs.Prelude.{◌==◌, ◌<◌, ◌≤◌, ⊤}
use Rattle.rs_optime.specs.Membership.{In}
use Rattle.rs_optime.proofs.MembershipLemmas.{in_all}
use Rattle.rs_optime.specs.declared.optime.OpTime.{OpTime}
use Rattle.oplog_entry.specs.declared.entry.Entry.{Entry}
use Rattle.oplog_entry.specs.declared.entry.Session.{Session}
use Rattle.entry_bytes.proofs.LayoutLemmas.{same_session as same_numbers}
use Rattle.oplog_store.specs.Log.{with_entry}
use Rattle.oplog_entry.proofs.LogLemmas.{with_in}
use Rattle.set_model.specs.Sessions.{LastWrite, is_past, later_write, last_write, GoesUp, NumbersRise, is_write, is_write_in}

-- ---- the last write is the greatest

abbrev write_at : ℕ → OpTime → LastWrite
write_at number at = record { number = number; at = at }

abbrev step : ℕ → Option LastWrite → Entry → Option LastWrite
step id last entry = later_write id last entry.optime entry.session

-- each write of the session is below this number
abbrev pub AreBelow : ℕ → ℕ → List Entry → Type 0
AreBelow id number log = (entry : Entry) → In entry log → (s : Session) → entry.session ≡ Some s → s.id ≡ id → s.number < number

-- a write goes past what was last, or is at most that
past_less : (last : Option LastWrite) (one two : ℕ) → is_past last one ≡ true → one < two → is_past last two ≡ true
past_less None one two past less = refl
past_less (Some last) one two past less = lt-ltb last.number two (let before : last.number < one = ltb-true last.number one past in omega (arith, before, less))

not_past : (last : Option LastWrite) (one two : ℕ) → is_past last one ≡ false → is_past last two ≡ true → one < two
not_past None one two not_so past = absurd (cc not_so)
not_past (Some last) one two not_so past =
    let most : one ≤ last.number = ltb-false last.number one not_so in
    let less : last.number < two = ltb-true last.number two past in
    omega (arith, most, less)

-- what stands past the last write after an entry stood past it before, and past the entry
step_past : (id number : ℕ) (last : Option LastWrite) (entry : Entry) → is_past (step id last entry) number ≡ true
    → (is_past last number ≡ true) × ((s : Session) → entry.session ≡ Some s → s.id ≡ id → s.number < number)
step_past id number last entry past = by_session entry.session refl past
  where
    same_session : (s t : Session) → Some s ≡ Some t → s ≡ t
    same_session s t same = cc same

    by_session : (session : Option Session) → entry.session ≡ session → is_past (later_write id last entry.optime session) number ≡ true
        → (is_past last number ≡ true) × ((s : Session) → entry.session ≡ Some s → s.id ≡ id → s.number < number)
    by_session None is past = (past, λ s has same. absurd (cc (is, has)))
    by_session (Some own) is past = by_id (own.id == id) refl (is_past last own.number) refl past
      where
        own_is : (s : Session) → entry.session ≡ Some s → own ≡ s
        own_is s has = same_session own s (sym is ∙ has)

        by_id : (here : Bool) → (own.id == id) ≡ here → (later : Bool) → is_past last own.number ≡ later
            → is_past (cond (here && later) (Some (write_at own.number entry.optime)) last) number ≡ true
            → (is_past last number ≡ true) × ((s : Session) → entry.session ≡ Some s → s.id ≡ id → s.number < number)
        by_id false other later is_later past = (past, λ s has same. absurd (eqb-false own.id id other (ap (λ (t : Session). t.id) (own_is s has) ∙ same)))
        by_id true here true is_later past =
            let less : own.number < number = ltb-true own.number number past in
            (past_less last own.number number is_later less, λ s has same. subst (λ (t : Session). t.number < number) (own_is s has) less)
        by_id true here false is_later past =
            (past, λ s has same. subst (λ (t : Session). t.number < number) (own_is s has) (not_past last own.number number is_later past))

below_from : (id number : ℕ) (log : List Entry) (last : Option LastWrite) → is_past (fold (step id) last log) number ≡ true → (is_past last number ≡ true) × AreBelow id number log
below_from id number [] last past = (past, λ entry there. absurd there)
below_from id number (first ∷ log) last past =
    let later : (is_past (step id last first) number ≡ true) × AreBelow id number log = below_from id number log (step id last first) past in
    let now = step_past id number last first later.0 in (
      now.0,
      λ entry there. elim there [
        | inl same ↦ subst (λ (e : Entry). (s : Session) → e.session ≡ Some s → s.id ≡ id → s.number < number) same now.1
        | inr after ↦ later.1 entry after
      ],
    )

-- a number that is past the last write of its session is above each
pub all_below : (id number : ℕ) (log : List Entry) → is_past (last_write id log) number ≡ true → AreBelow id number log
all_below id number log past = (below_from id number log None past).1

-- ---- logs in which the numbers of each session rise

abbrev pub Ascends : List Entry → Type 0
Ascends [] = ⊤
Ascends (entry ∷ log) = ((other : Entry) → In other log → GoesUp entry other) × Ascends log

pub pairs_up : (log : List Entry) → Ascends log → NumbersRise log
pairs_up [] up = λ i j d less within. absurd (omega (arith, within))
pairs_up (entry ∷ log) up = AllPairs-cons GoesUp entry log (in_all (GoesUp entry) log up.0) (pairs_up log up.1)

pub ascends_left : (front rest : List Entry) → Ascends (front ++ rest) → Ascends front
ascends_left [] rest up = tt
ascends_left (entry ∷ front) rest up = (λ other there. up.0 other (left other front there), ascends_left front rest up.1)
  where
    left : (other : Entry) (one : List Entry) → In other one → In other (one ++ rest)
    left other [] there = absurd there
    left other (first ∷ one) (inl same) = inl same
    left other (first ∷ one) (inr there) = inr (left other one there)

-- with one entry more, which goes up from each
pub ascends_last : (log : List Entry) (entry : Entry) → Ascends log → ((other : Entry) → In other log → GoesUp other entry) → Ascends (log ++ entry ∷ [])
ascends_last [] entry up new = (λ other there. absurd there, tt)
ascends_last (first ∷ log) entry up new = (
  λ other there. elim (split other log there) [
    | inl before ↦ up.0 other before
    | inr same ↦ subst (λ (e : Entry). GoesUp first e) same (new first (inl refl))
  ],
  ascends_last log entry up.1 (λ other there. new other (inr there)),
)
  where
    split : (other : Entry) (one : List Entry) → In other (one ++ entry ∷ []) → In other one ⊎ (entry ≡ other)
    split other [] (inl same) = inr same
    split other [] (inr none) = absurd none
    split other (head ∷ one) (inl same) = inl (inl same)
    split other (head ∷ one) (inr there) = elim (split other one there) [ inl before ↦ inl (inr before) | inr same ↦ inr same ]

-- what belongs to no session may stand anywhere
up_from : (entry other : Entry) → entry.session ≡ None → GoesUp entry other
up_from entry other none a b has has_too same = absurd (cc (none, has))

pub up_to : (other entry : Entry) → entry.session ≡ None → GoesUp other entry
up_to other entry none a b has has_too same = absurd (cc (none, has_too))

pub ascends_with : (log : List Entry) (entry : Entry) → entry.session ≡ None → Ascends log → Ascends (with_entry log entry)
ascends_with [] entry none up = (λ other there. absurd there, tt)
ascends_with (first ∷ log) entry none up = by_test (nat_lt first.optime.ts entry.optime.ts) (ascends_with log entry none up.1)
  where
    by_test : (b : Bool) → Ascends (with_entry log entry) → Ascends (cond b (first ∷ with_entry log entry) (entry ∷ first ∷ log))
    by_test true later = (
      λ other there. elim (with_in log entry other there) [
        | inl before ↦ up.0 other before
        | inr same ↦ subst (λ (e : Entry). GoesUp first e) same (up_to first entry none)
      ],
      later,
    )
    by_test false later = (λ other there. up_from entry other none, up)

-- a number that is past the last of its session goes up from each
pub past_goes_up : (log : List Entry) (session : Session) (entry : Entry) → entry.session ≡ Some session → is_past (last_write session.id log) session.number ≡ true
    → (other : Entry) → In other log → GoesUp other entry
past_goes_up log session entry has past other there a b has_a has_b same =
    let own : b ≡ session = same_session b session (sym has_b ∙ has) in
    let less : a.number < session.number = all_below session.id session.number log past other there a has_a (same ∙ ap (λ (s : Session). s.id) own) in
    subst (λ (s : Session). a.number < s.number) (sym own) less
  where
    same_session : (s t : Session) → Some s ≡ Some t → s ≡ t
    same_session s t is = cc is

-- ---- one entry of each session and number

abbrev pub writes : Session → List Entry → List Entry
writes session log = filter (is_write session) log

-- the entry that a test names
write_is : (session : Session) (entry : Entry) → is_write session entry ≡ true → (s : Session) × (entry.session ≡ Some s) × (s.id ≡ session.id) × (s.number ≡ session.number)
write_is session entry is = go entry.session refl is
  where
    go : (own : Option Session) → entry.session ≡ own → is_write_in session own ≡ true → (s : Session) × (entry.session ≡ Some s) × (s.id ≡ session.id) × (s.number ≡ session.number)
    go None has is = absurd (cc is)
    go (Some own) has is =
        let both : ((own.id == session.id) ≡ true) × ((own.number == session.number) ≡ true) = and_parts _ _ is in
        (own, has, eqb-true own.id session.id both.0, eqb-true own.number session.number both.1)

pub is_write_of : (session : Session) (entry : Entry) → entry.session ≡ Some session → is_write session entry ≡ true
is_write_of session entry has = ap (is_write_in session) has ∙ and_from _ _ (eq-eqb session.id session.id refl) (eq-eqb session.number session.number refl)

-- where no entry is this write, none is found
none_is : (session : Session) (log : List Entry) → ((entry : Entry) → In entry log → is_write session entry ≡ true → ⊥) → writes session log ≡ []
none_is session [] none = refl
none_is session (entry ∷ log) none = by_test (is_write session entry) refl (none_is session log (λ other there. none other (inr there)))
  where
    by_test : (b : Bool) → is_write session entry ≡ b → writes session log ≡ [] → cond b (entry ∷ writes session log) (writes session log) ≡ []
    by_test true is rest = absurd (none entry (inl refl) is)
    by_test false is rest = rest

pub none_below : (session : Session) (log : List Entry) → AreBelow session.id session.number log → writes session log ≡ []
none_below session log below = none_is session log (λ entry there is.
    let own = write_is session entry is in
    let less : own.0.number < session.number = below entry there own.0 own.1 own.2 in
    let same : own.0.number ≡ session.number = own.3 in
    omega (arith, less, same))

-- after a write of a session no other has its number
none_after : (session : Session) (first : Entry) (log : List Entry) → is_write session first ≡ true → ((other : Entry) → In other log → GoesUp first other) → writes session log ≡ []
none_after session first log is up = none_is session log (λ entry there too.
    let one = write_is session first is in
    let two = write_is session entry too in
    let less : one.0.number < two.0.number = up entry there one.0 two.0 one.1 two.1 (one.2 ∙ sym two.2) in
    let same : one.0.number ≡ session.number = one.3 in
    let same_too : two.0.number ≡ session.number = two.3 in
    omega (arith, less, same, same_too))

pub once_each : (session : Session) (log : List Entry) → Ascends log → length (writes session log) ≤ 1
once_each session [] up = omega arith
once_each session (entry ∷ log) up = by_test (is_write session entry) refl (once_each session log up.1)
  where
    by_test : (b : Bool) → is_write session entry ≡ b → length (writes session log) ≤ 1 → length (cond b (entry ∷ writes session log) (writes session log)) ≤ 1
    by_test true is rest = let none : length (writes session log) ≡ 0 = ap length (none_after session entry log is up.0) in omega (arith, none)
    by_test false is rest = rest

-- this write of a session
abbrev pub numbered : ℕ → ℕ → Session
numbered id number = record { id = id; number = number }

same_write : (one two : LastWrite) → Some one ≡ Some two → one ≡ two
same_write one two same = cc same

-- the write that was last stands in the log
last_there : (id : ℕ) (log : List Entry) (before : Option LastWrite) (last : LastWrite) → fold (step id) before log ≡ Some last
    → (before ≡ Some last) ⊎ ((entry : Entry) × In entry log × (entry.optime ≡ last.at) × (entry.session ≡ Some (numbered id last.number)))
last_there id [] before last is = inl is
last_there id (first ∷ log) before last is = elim (last_there id log (step id before first) last is) [
  | inl now ↦ by_session first.session refl now
  | inr later ↦ inr (later.0, inr later.1, later.2, later.3)
]
  where
    by_session : (session : Option Session) → first.session ≡ session → later_write id before first.optime session ≡ Some last
        → (before ≡ Some last) ⊎ ((entry : Entry) × In entry (first ∷ log) × (entry.optime ≡ last.at) × (entry.session ≡ Some (numbered id last.number)))
    by_session None has now = inl now
    by_session (Some own) has now = by_id (own.id == id) refl (is_past before own.number) now
      where
        by_id : (here : Bool) → (own.id == id) ≡ here → (later : Bool)
            → cond (here && later) (Some (write_at own.number first.optime)) before ≡ Some last
            → (before ≡ Some last) ⊎ ((entry : Entry) × In entry (first ∷ log) × (entry.optime ≡ last.at) × (entry.session ≡ Some (numbered id last.number)))
        by_id false other later now = inl now
        by_id true here false now = inl now
        by_id true here true now =
            let is_last : ◌≡◌ {A = LastWrite} (write_at own.number first.optime) last = same_write (write_at own.number first.optime) last now in
            inr (
              first,
              inl refl,
              ap (λ (l : LastWrite). l.at) is_last,
              has ∙ ap (λ (s : Session). Some s) (same_numbers own (numbered id last.number) (eqb-true own.id id here) (ap (λ (l : LastWrite). l.number) is_last)),
            )

-- and no other is that write
only_one : (session : Session) (log : List Entry) (entry : Entry) → Ascends log → In entry log → is_write session entry ≡ true → writes session log ≡ entry ∷ []
only_one session [] entry up there is = absurd there
only_one session (first ∷ log) entry up (inl same) is =
    let own : is_write session first ≡ true = ap (is_write session) same ∙ is in
    ap (λ b. cond b (first ∷ writes session log) (writes session log)) own
    ∙ ap (λ l. first ∷ l) (none_after session first log own up.0) ∙ ap (λ (e : Entry). e ∷ []) same
only_one session (first ∷ log) entry up (inr there) is = by_test (is_write session first) refl (only_one session log entry up.1 there is)
  where
    by_test : (b : Bool) → is_write session first ≡ b → writes session log ≡ entry ∷ [] → cond b (first ∷ writes session log) (writes session log) ≡ entry ∷ []
    by_test false is_no rest = rest
    by_test true is_too rest = absurd (cc (sym rest ∙ none_after session first log is_too up.0))

abbrev pub optimes : List Entry → List OpTime
optimes log = map (λ (entry : Entry). entry.optime) log

pub found_once : (session : Session) (log : List Entry) (last : LastWrite) → Ascends log → last_write session.id log ≡ Some last → last.number ≡ session.number
    → optimes (writes session log) ≡ last.at ∷ []
found_once session log last up is number = elim (last_there session.id log None last is) [
  | inl none ↦ absurd (cc none)
  | inr found ↦
      let has : found.0.session ≡ Some session = found.3 ∙ ap (λ (n : ℕ). Some (numbered session.id n)) number in
      ap optimes (only_one session log found.0 up found.1 (is_write_of session found.0 has)) ∙ ap (λ o. o ∷ []) found.2
]

-- a write that is past the last stands there once, after the log
pub written_once : (session : Session) (log : List Entry) (entry : Entry) → entry.session ≡ Some session → is_past (last_write session.id log) session.number ≡ true
    → writes session (log ++ entry ∷ []) ≡ entry ∷ []
written_once session log entry has past = after log (none_below session log (all_below session.id session.number log past))
  where
    after : (one : List Entry) → writes session one ≡ [] → writes session (one ++ entry ∷ []) ≡ entry ∷ []
    after [] none = ap (λ b. cond b (entry ∷ []) []) (is_write_of session entry has)
    after (first ∷ one) none = by_test (is_write session first) none (after one)
      where
        by_test : (b : Bool) → cond b (first ∷ writes session one) (writes session one) ≡ [] → (writes session one ≡ [] → writes session (one ++ entry ∷ []) ≡ entry ∷ [])
            → cond b (first ∷ writes session (one ++ entry ∷ [])) (writes session (one ++ entry ∷ [])) ≡ entry ∷ []
        by_test true none again = absurd (cc none)
        by_test false none again = again none
