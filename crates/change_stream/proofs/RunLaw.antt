-- The law of streams, of each run that is safe.
use Rattle.std.proofs.Common.{◌≡◌, ◌≢◌, ◌∙◌, ◌⊎◌, ◌<◌, ◌&&◌, take, inl, inr, ap, sym, subst, refl, arith, Bool, true, false, not, cond, ℕ, List, [], ◌∷◌}
use Rattle.std.proofs.lemmas.Bool.{and_parts, cases_order, not-true}
use Rattle.std.proofs.lemmas.List.Elements.{recursion_from_All}
use Rattle.std.proofs.lemmas.List.Kept.{AllPairs-filter}
use Rattle.std.proofs.lemmas.Option.{same_Some}
use Rattle.std.specs.List.{All, AllByRecursion, AllPairs}
use Rattle.std.specs.Prelude.{Ok, Err}
use Rattle.rs_optime.specs.Membership.{In}
use Rattle.rs_optime.specs.Order.{is_before}
use Rattle.rs_optime.specs.declared.optime.OpTime.{OpTime}
use Rattle.rs_optime.proofs.Optimes.{at_most_antisym, at_most_or_before, at_most_refl, not_both}
use Rattle.oplog_entry.specs.declared.entry.Entry.{Entry}
use Rattle.oplog_entry.specs.Log.{StandsBefore}
use Rattle.oplog_entry.specs.Visible.{ZERO, log_after, log_up_to}
use Rattle.repl_msg.specs.Logs.{has_entry, same_optime}
use Rattle.set_model.specs.declared.command.Event.{Event}
use Rattle.set_model.specs.Node.{Node}
use Rattle.set_model.specs.Roles.{is_leading}
use Rattle.set_model.specs.Run.{Sizes}
use Rattle.set_model.specs.Safety as safety
use Rattle.set_model.specs.Safety.{IsAt, Leads, Safe, PointsAreCommitted, WinnersAreComplete}
use Rattle.commit_machine.specs.Words.{AtMost, Before, Has, Rises}
use Rattle.commit_machine.proofs.Lists.{has_up_to, up_to_has, up_to_twice}
use Rattle.safety_laws.specs.Logs.{LogsRise}
use Rattle.safety_laws.proofs.Fetches.{entry_is}
use Rattle.safety_laws.proofs.Merges.{has_entry_of}
use Rattle.safety_laws.proofs.Orders.{rises_of}
use Rattle.change_stream.specs.declared.error.WatchError.TheVariants.{UnknownToken}
use Rattle.change_stream.specs.Calls.{Call, answer, is_unknown, joined, part, token_after}
use Rattle.change_stream.specs.Law.{IsCommittedPoint, StreamLaw, Streams}
use Rattle.change_stream.specs.Shown.{Shows}
use Rattle.change_stream.proofs.CallLemmas.{Agrees, AllRise, IsFrom, found, joined_is}
use Rattle.change_stream.proofs.EventLemmas as call_at
use Rattle.change_stream.proofs.PartLemmas.{begun_same, zero_least}

module _ (sizes : Sizes) (events : List Event) (safe : Safe sizes events) (complete : WinnersAreComplete sizes events) (points : PointsAreCommitted sizes events) (logs : LogsRise sizes events) where
  rises : (place number : ℕ) (node : Node) → IsAt sizes events place number node → Rises node.log
  rises place number node at = rises_of node.log (logs place number node at)

  -- ---- what is committed is one log

  leads : (place number : ℕ) (node : Node) (at : OpTime) → safety.IsCommitted sizes events place number node at → Leads sizes events place number node.term node
  leads place number node at committed = record { at = committed.node_at; term_is = refl; role = ap is_leading committed.role }

  -- the primary has what the other one, of an earlier term, committed
  from_earlier : (h x j y : ℕ) (p q : Node) (c d o : OpTime) → safety.IsCommitted sizes events h x p c → safety.IsCommitted sizes events j y q d → p.term < q.term → AtMost o c
      → log_up_to o p.log ≡ log_up_to o q.log
  from_earlier h x j y p q c d o one two less within =
      begun_same p.log q.log c c o (rises j y q two.node_at) (entry_is p.log c one.there) (at_most_refl c) within
      (complete h j x y q.term p q c one (leads j y q d two) less)

  -- a primary has what it committed before
  from_before : (h j x : ℕ) (p q : Node) (c o : OpTime) → safety.IsCommitted sizes events h x p c → IsAt sizes events j x q → h < j → AtMost o c → log_up_to o p.log ≡ log_up_to o q.log
  from_before h j x p q c o one at less within =
      begun_same p.log q.log p.commit c o (rises j x q at) (entry_is p.log c one.there) one.commit within (safe.no_removal h j x p q less one.node_at at)

  same_node : (h x : ℕ) (p q : Node) → IsAt sizes events h x p → IsAt sizes events h x q → p ≡ q
  same_node h x p q one two = same_Some p q (sym one.there ∙ two.there)

  in_one_term : (h j x : ℕ) (p q : Node) (c d o : OpTime) → safety.IsCommitted sizes events h x p c → safety.IsCommitted sizes events j x q d → AtMost o c → AtMost o d
      → log_up_to o p.log ≡ log_up_to o q.log
  in_one_term h j x p q c d o one two within within_too = elim (cases_order h j) [
    | inl same ↦ ap (λ (n : Node). log_up_to o n.log) (same_node h x p q one.node_at (subst (λ i. IsAt sizes events i x q) (sym same) two.node_at))
    | inr other ↦ elim other [
      | inl less ↦ from_before h j x p q c o one two.node_at less within
      | inr more ↦ sym (from_before j h x q p d o two one.node_at more within_too)
    ]
  ]

  primaries_agree : (h x j y : ℕ) (p q : Node) (c d o : OpTime) → safety.IsCommitted sizes events h x p c → safety.IsCommitted sizes events j y q d → AtMost o c → AtMost o d
      → log_up_to o p.log ≡ log_up_to o q.log
  primaries_agree h x j y p q c d o one two within within_too = elim (cases_order p.term q.term) [
    | inl same ↦
        let number : x ≡ y = safe.one_primary h j x y p.term p q (leads h x p c one) (subst (λ t. Leads sizes events j y t q) (sym same) (leads j y q d two)) in
        in_one_term h j x p q c d o one (subst (λ n. safety.IsCommitted sizes events j n q d) (sym number) two) within within_too
    | inr other ↦ elim other [
      | inl less ↦ from_earlier h x j y p q c d o one two less within
      | inr more ↦ sym (from_earlier j y h x q p d c o two one more within_too)
    ]
  ]

  not_zero : (o at : OpTime) → Before ZERO o → AtMost o at → at ≢ ZERO
  not_zero o at later within zero_is = not_both ZERO o later (subst (λ p. AtMost o p) zero_is within)

  -- up to what a node has committed, its log is that of a primary that committed it
  from_primary : (i n : ℕ) (node : Node) (o : OpTime) → (was : safety.WasCommitted sizes events i node node.commit) → AtMost o node.commit → log_up_to o node.log ≡ log_up_to o was.2.log
  from_primary i n node o was within =
      sym (up_to_twice o node.commit node.log within) ∙ ap (log_up_to o) (sym was.5) ∙ up_to_twice o node.commit was.2.log within

  committed_agree : (i n j m : ℕ) (a b : Node) (o : OpTime) → IsAt sizes events i n a → IsAt sizes events j m b → Before ZERO o → AtMost o a.commit → AtMost o b.commit
      → log_up_to o a.log ≡ log_up_to o b.log
  committed_agree i n j m a b o at at_too later within within_too =
      let one : safety.WasCommitted sizes events i a a.commit = points i n a at (not_zero o a.commit later within) in
      let two : safety.WasCommitted sizes events j b b.commit = points j m b at_too (not_zero o b.commit later within_too) in
      from_primary i n a o one within
      ∙ primaries_agree one.0 one.1 two.0 two.1 one.2 two.2 a.commit b.commit o one.4 two.4 within within_too
      ∙ sym (from_primary j m b o two within_too)

  -- a commit point is in the log
  has_commit : (i n : ℕ) (node : Node) → IsAt sizes events i n node → node.commit ≢ ZERO → Has node.commit node.log
  has_commit i n node at not_zero_is =
      let was : safety.WasCommitted sizes events i node node.commit = points i n node at not_zero_is in
      (up_to_has node.commit node.commit node.log
      (subst (λ (l : List Entry). Has node.commit l) was.5 (has_up_to node.commit node.commit was.2.log (entry_is was.2.log node.commit was.4.there) (at_most_refl node.commit)))).0

  -- ---- one call

  module _ (call : Call) (shows : Shows sizes events call) where
    abbrev before : Node
    before = call_at.before sizes events call shows

    before_at : IsAt sizes events shows.first call.node before
    before_at = call_at.before_at sizes events call shows

    committed : (o : OpTime) → AtMost o call.commit → AtMost o before.commit
    committed o within = subst (λ p. AtMost o p) (sym (call_at.before_commit sizes events call shows)) within

    -- nothing that was committed goes between its two events
    log_kept : (o : OpTime) → Before ZERO o → AtMost o call.commit → log_up_to o call.log ≡ log_up_to o before.log
    log_kept o later within =
        let read : Node = call_at.later sizes events call shows in
        let at : IsAt sizes events shows.second call.node read = call_at.later_at sizes events call shows in
        let there : Has before.commit before.log = has_commit shows.first call.node before before_at (not_zero o before.commit later (committed o within)) in
        ap (log_up_to o) (sym (call_at.later_log sizes events call shows))
        ∙ sym (begun_same before.log read.log before.commit before.commit o (rises shows.second call.node read at) there (at_most_refl before.commit) (committed o within)
        (safe.no_removal shows.first shows.second call.node before read shows.order before_at at))

    call_rises : Rises call.log
    call_rises = subst (λ (l : List Entry). Rises l) (call_at.later_log sizes events call shows)
        (rises shows.second call.node (call_at.later sizes events call shows) (call_at.later_at sizes events call shows))

    -- what it was shown as committed, each node has that is committed as far
    agrees_committed : (place number : ℕ) (node : Node) → IsAt sizes events place number node → Agrees node.commit node.log call
    agrees_committed place number node at o later within bound =
        log_kept o later within ∙ committed_agree shows.first call.node place number before node o before_at at later (committed o within) bound

    -- and so has whoever leads in a later term
    agrees_leader : (bound : OpTime) (place number term : ℕ) (leader : Node) → Leads sizes events place number term leader → call.term < term → Agrees bound leader.log call
    agrees_leader bound place number term leader leading less o later within unused =
        log_kept o later within
        ∙ begun_same before.log leader.log before.commit before.commit o (rises place number leader leading.at) (has_commit shows.first call.node before before_at nonzero) (at_most_refl before.commit) (committed o within)
        ((safe.committed_stay.points shows.first call.node before before_at nonzero).1 place number term leader leading
        (subst (λ t. t < term) (sym term_is) less))
      where
        nonzero : before.commit ≢ ZERO
        nonzero = not_zero o before.commit later (committed o within)

        term_is : before.term ≡ call.term
        term_is = call_at.before_term sizes events call shows

  -- ---- all calls

  all_rise : (calls : List Call) → AllByRecursion (Shows sizes events) calls → AllRise calls
  all_rise [] shows = tt
  all_rise (call ∷ calls) shows = (call_rises call shows.0, all_rise calls shows.1)

  all_committed : (calls : List Call) → AllByRecursion (Shows sizes events) calls → (place number : ℕ) (node : Node) → IsAt sizes events place number node → AllByRecursion (Agrees node.commit node.log) calls
  all_committed [] shows place number node at = tt
  all_committed (call ∷ calls) shows place number node at = (agrees_committed call shows.0 place number node at, all_committed calls shows.1 place number node at)

  all_led : (calls : List Call) → AllByRecursion (Shows sizes events) calls → (bound : OpTime) (place number term : ℕ) (leader : Node) → Leads sizes events place number term leader
      → AllByRecursion (λ (call : Call). call.term < term) calls → AllByRecursion (Agrees bound leader.log) calls
  all_led [] shows bound place number term leader leading less = tt
  all_led (call ∷ calls) shows bound place number term leader leading less =
      (agrees_leader call shows.0 bound place number term leader leading less.0, all_led calls shows.1 bound place number term leader leading less.1)

  shown_in : (calls : List Call) → AllByRecursion (Shows sizes events) calls → (call : Call) → In call calls → Shows sizes events call
  shown_in [] shows call there = absurd there
  shown_in (first ∷ calls) shows call (inl same) = subst (λ c. Shows sizes events c) same shows.0
  shown_in (first ∷ calls) shows call (inr there) = shown_in calls shows.1 call there

  module _ (start : OpTime) (calls : List Call) (all : All (Shows sizes events) calls) where
    shows : AllByRecursion (Shows sizes events) calls
    shows = recursion_from_All (Shows sizes events) calls all

    abbrev token : OpTime
    token = token_after start calls

    of_log : (place number : ℕ) (node : Node) → IsAt sizes events place number node → AtMost token node.commit → joined start calls ≡ part start token node.log
    of_log place number node at within =
        joined_is start calls node.commit node.log (rises place number node at) (all_rise calls shows) (all_committed calls shows place number node at) within

    of_leader : (place number term : ℕ) (leader : Node) → Leads sizes events place number term leader → All (λ (call : Call). call.term < term) calls → joined start calls ≡ part start token leader.log
    of_leader place number term leader leading less =
        joined_is start calls token leader.log (rises place number leader leading.at) (all_rise calls shows)
        (all_led calls shows token place number term leader leading (recursion_from_All (λ (call : Call). call.term < term) calls less)) (at_most_refl token)

    -- the token is where the stream began, and nothing was given, or the node of some call has it committed
    whence : ((joined start calls ≡ []) × (token ≡ start)) ⊎ IsFrom calls token
    whence = found start calls (all_rise calls shows)

    -- where a token was shown, its node has it
    has_token : (call : Call) (shown : Shows sizes events call) → Before ZERO token → Has token call.log → AtMost token call.commit → Has token (before call shown).log
    has_token call shown later here within =
        (up_to_has token token (before call shown).log
        (subst (λ (l : List Entry). Has token l) (log_kept call shown token later within) (has_up_to token token call.log here (at_most_refl token)))).0

    point_of_call : IsFrom calls token → IsCommittedPoint sizes events token
    point_of_call from =
        let shown : Shows sizes events from.0 = shown_in calls shows from.0 from.1 in
        inr (
          shown.first,
          from.0.node,
          before from.0 shown,
          before_at from.0 shown,
          has_entry_of (before from.0 shown).log token (has_token from.0 shown from.4 from.2 from.3),
          committed from.0 shown token from.3,
        )

    once : AllPairs StandsBefore (joined start calls)
    once = elim whence [
      | inl none ↦ subst (λ (l : List Entry). AllPairs StandsBefore l) (sym none.0) (λ i j d less within. absurd (omega (arith, within)))
      | inr from ↦
          let shown : Shows sizes events from.0 = shown_in calls shows from.0 from.1 in
          subst (λ (l : List Entry). AllPairs StandsBefore l)
          (sym (of_log shown.first from.0.node (before from.0 shown) (before_at from.0 shown) (committed from.0 shown token from.3)))
          (AllPairs-filter StandsBefore (λ (e : Entry). is_before start e.optime) (log_up_to token (before from.0 shown).log)
          (AllPairs-filter StandsBefore (λ (e : Entry). not (is_before token e.optime)) (before from.0 shown).log
          (logs shown.first from.0.node (before from.0 shown) (before_at from.0 shown))))
    ]

    committed_point : IsCommittedPoint sizes events start ⊎ (joined start calls ≢ []) → IsCommittedPoint sizes events token
    committed_point premise = elim whence [
      | inr from ↦ point_of_call from
      | inl none ↦ elim premise [
        | inl point ↦ subst (λ o. IsCommittedPoint sizes events o) (sym none.1) point
        | inr some ↦ absurd (some none.0)
      ]
    ]

    unknown_is : (call : Call) → answer token call ≡ Err UnknownToken → is_unknown token call.commit call.log ≡ true
    unknown_is call is = go (is_unknown token call.commit call.log) refl is
      where
        go : (test : Bool) → is_unknown token call.commit call.log ≡ test → cond test (Err UnknownToken) (Ok (take call.most (part token call.commit call.log))) ≡ Err UnknownToken → is_unknown token call.commit call.log ≡ true
        go true test told = test
        go false test told = absurd (cc told)

    known : (call : Call) → Shows sizes events call → IsCommittedPoint sizes events token → is_unknown token call.commit call.log ≡ true → ⊥
    known call shown point unknown = elim point [
      | inl zero_is ↦ none (ap (λ o. same_optime o ZERO) zero_is)
      | inr where_is ↦ elim (at_most_or_before token ZERO) [
        | inl within ↦ none (ap (λ o. same_optime o ZERO) (at_most_antisym token ZERO within (zero_least token)))
        | inr later ↦
            let same : log_up_to token where_is.2.log ≡ log_up_to token call.log =
            committed_agree where_is.0 where_is.1 shown.first call.node where_is.2 (before call shown) token where_is.3 (before_at call shown) later where_is.5 (committed call shown token reached)
            ∙ sym (log_kept call shown token later reached) in
            let here : Has token call.log = (up_to_has token token call.log
            (subst (λ (l : List Entry). Has token l) same (has_up_to token token where_is.2.log (entry_is where_is.2.log token where_is.4) (at_most_refl token)))).0 in
            let has : has_entry call.log token ≡ true = has_entry_of call.log token here in
            let absent : has_entry call.log token ≡ false = not-true (has_entry call.log token) after.1 in
            absurd (cc (has, absent))
      ]
    ]
      where
        tests : (not (same_optime token ZERO) ≡ true) × ((not (is_before call.commit token) && not (has_entry call.log token)) ≡ true)
        tests = and_parts (not (same_optime token ZERO)) (not (is_before call.commit token) && not (has_entry call.log token)) unknown

        after : (not (is_before call.commit token) ≡ true) × (not (has_entry call.log token) ≡ true)
        after = and_parts (not (is_before call.commit token)) (not (has_entry call.log token)) tests.1

        none : same_optime token ZERO ≡ true → ⊥
        none same = let other : same_optime token ZERO ≡ false = not-true (same_optime token ZERO) tests.0 in absurd (cc (same, other))

        reached : AtMost token call.commit
        reached = not-true (is_before call.commit token) after.0

    streams : Streams sizes events start calls
    streams = record {
      committed = λ place number node at within. of_log place number node at within
          ∙ ap (log_after start) (sym (up_to_twice token node.commit node.log within));
      leaders = of_leader;
      once = once;
      known = λ premise call shown is. known call shown (committed_point premise) (unknown_is call is);
    }

  pub stream_law : StreamLaw sizes events
  stream_law start calls all = streams start calls all
