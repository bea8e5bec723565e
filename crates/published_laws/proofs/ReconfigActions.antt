-- Each action of the machine by steps of MongoRaftReconfig.
use Rattle.std.proofs.Common.{◌≡◌, ◌≢◌, ◌∙◌, ◌<◌, ◌≤◌, ◌+◌, ◌==◌, ◌⊎◌, inl, inr, ap, sym, subst, refl, arith, ℕ, Bool, true, false, if◌then◌else◌, List, [], ◌∷◌, ◌++◌, append_assoc, append-nil, map, take, Option, None, Some}
use Rattle.rs_optime.specs.Later.{earlier_of}
use Rattle.rs_optime.specs.Membership.{In}
use Rattle.rs_optime.specs.declared.optime.OpTime.{OpTime}
use Rattle.rs_optime.proofs.Optimes.{at_most_refl, at_most_term, at_most_trans, earlier_term, not_both}
use Rattle.oplog_entry.specs.Visible.{ZERO, last_of, log_up_to}
use Rattle.oplog_entry.specs.declared.entry.Entry.{Entry}
use Rattle.member_config.proofs.Counting.{apart_meet}
use Rattle.commit_machine.specs.Machine.{Action, actor, actor_after, after, new_evaluations, new_votes, IsAllowed, MayRollBack}
use Rattle.commit_machine.specs.Nodes as nodes
use Rattle.commit_machine.specs.Nodes.{Config, IdAtMost, Snapshot, Stamp, State, Vote, Was, acked, anchor, held, id_of, now}
use Rattle.commit_machine.specs.Words.{AtMost, Before, Begins, Has, Meets, Most, Rises, first_of_term, log_after}
use Rattle.commit_machine.proofs.Facts.{HasWon, Invariant, IsAcked, elected}
use Rattle.commit_machine.proofs.Growth.{HasAcked, HasHeld, acked_is, held_is, now_was, seen_was}
use Rattle.commit_machine.proofs.Keeps.{keeps}
use Rattle.commit_machine.proofs.Lists.{after_has, at_most_last, first_of_term_is, first_of_term_same, has_right, last_append, last_up_to, split_at, up_to_has, up_to_none}
use Rattle.commit_machine.proofs.Static.{first_in, read_more}
use Rattle.commit_machine.proofs.Views.{IsElecting, elected_is}
use Rattle.published_laws.specs.Histories.{Had, History, Turned, followed}
use Rattle.published_laws.specs.Oplog.{CanRollback, CanSyncFrom}
use Rattle.published_laws.specs.Reconfig.{CanVote, GaveVote, HasCommitted, HasConfig, IsNewerConfig, IsOfQuorum, Next, Primary, Secondary, Server, Variables, servers_of}
use Rattle.published_laws.specs.ReconfigNames as names
use Rattle.published_laws.specs.ReconfigShown.{IsDoneBy, is_one, role_shown, shown, theirs}
use Rattle.published_laws.proofs.Histories as histories
use Rattle.published_laws.proofs.Logs.{earlier_is, same_place, zero_first}
use Rattle.published_laws.proofs.ReconfigTied.{HasTurned, Leads, Tied, becomes_put, committed_of, gives, leads_put, put, tied_after, tied_counted}

-- what an action comes to
abbrev pub Done : History Variables → State → Action → Type 0
Done history state action = (next : History Variables) × IsDoneBy (theirs action) history next × Tied next (after state action)

positive : (state : State) → Invariant state → (n : ℕ) → (now state n).role ≢ nodes.Secondary → 1 ≤ (now state n).term
positive state kept n role = (kept.self_vote n (now state n) (now_was state n) role).1

-- ---- what was counted

in_map : {A B : Type 0} (f : A → B) (x : A) (xs : List A) → In x xs → In (f x) (map f xs)
in_map f x [] there = absurd there
in_map f x (y ∷ xs) (inl same) = inl (ap f same)
in_map f x (y ∷ xs) (inr there) = inr (in_map f x xs there)

of_map : {A B : Type 0} (f : A → B) (y : B) (xs : List A) → In y (map f xs) → (x : A) × In x xs × (f x ≡ y)
of_map f y [] there = absurd there
of_map f y (x ∷ xs) (inl same) = (x, inl refl, same)
of_map f y (x ∷ xs) (inr there) = let rest : (z : _) × In z xs × (f z ≡ y) = of_map f y xs there in (rest.0, inr rest.1, rest.2)

-- it is no later than the newest primary's commit point, if that is of the term
anchor_within : (state : State) → Invariant state → (n : ℕ) → (now state n).role ≡ nodes.Primary → (now state n).commit.term ≡ (now state n).term
    → (z : Stamp) → In z state.evaluations → z.node.term ≡ (now state n).term → AtMost (anchor z.node) (now state n).commit
anchor_within state kept n role commit_term z evaluated term = go (z.node.commit.term == z.node.term) refl acks.there acks.term
  where
    acks : IsAcked state z
    acks = kept.evaluation_acked z evaluated

    go : (b : Bool) → (z.node.commit.term == z.node.term) ≡ b
        → Has (if b then z.node.commit else first_of_term z.node.term z.node.log) z.node.log → (if b then z.node.commit else first_of_term z.node.term z.node.log).term ≡ z.node.term
        → AtMost (if b then z.node.commit else first_of_term z.node.term z.node.log) (now state n).commit
    go true test there own = kept.primary_commit n role z evaluated term
    go false test there own = elim (kept.points n (now state n) (now_was state n)).commit [
      | inl zero_is ↦
          let above : 1 ≤ (now state n).term = positive state kept n (λ secondary. absurd (cc (secondary, role))) in
          let none : (now state n).commit.term ≡ 0 = ap (λ (o : OpTime). o.term) zero_is in
          absurd (omega (arith, none, above, commit_term))
      | inr here ↦
          let begins : Begins z.node.log (now state n).log = kept.leader_newest n (inr role) z.number z.node acks.was (inr acks.role) term in
          let same : first_of_term z.node.term (now state n).log ≡ first_of_term z.node.term z.node.log =
          first_of_term_same z.node.term (first_of_term z.node.term z.node.log) z.node.log (now state n).log begins there own in
          let first : Has (first_of_term z.node.term (now state n).log) (now state n).log × ((first_of_term z.node.term (now state n).log).term ≡ z.node.term)
          × AtMost (first_of_term z.node.term (now state n).log) (now state n).commit =
          first_of_term_is z.node.term (now state n).commit (now state n).log (kept.log_rises n (now state n) (now_was state n)) here (commit_term ∙ sym term) in
          subst (λ (o : OpTime). AtMost o (now state n).commit) same first.2
    ]

-- the count of which a primary has its commit point, if that is of its term
counted_here : (state : State) → Invariant state → (n : ℕ) → (now state n).role ≡ nodes.Primary → (now state n).commit.term ≡ (now state n).term
    → (z : Stamp) × In z state.evaluations × (z.node.term ≡ (now state n).term)
counted_here state kept n role commit_term = elim (kept.committed n (now state n) (now_was state n)) [
  | inl zero_is ↦ absurd (let none : (now state n).commit.term ≡ 0 = ap (λ (o : OpTime). o.term) zero_is in omega (arith, none, above, commit_term))
  | inr counted ↦
      let acks : IsAcked state counted.counted = kept.evaluation_acked counted.counted counted.evaluated in
      let low : (now state n).commit.term ≤ counted.counted.node.commit.term = at_most_term (now state n).commit counted.counted.node.commit counted.within in
      let high : counted.counted.node.commit.term ≤ (anchor counted.counted.node).term = at_most_term counted.counted.node.commit (anchor counted.counted.node) acks.commit in
      (counted.counted, counted.evaluated, omega (arith, low, high, acks.term, counted.term, commit_term))
]
  where
    above : 1 ≤ (now state n).term
    above = positive state kept n (λ secondary. absurd (cc (secondary, role)))

-- who acknowledged what a primary wrote in its term has it
has_acked : (state : State) → Invariant state → (z : Stamp) → IsAcked state z → (point : OpTime) → AtMost (anchor z.node) point → (v : ℕ) → (had : HasAcked state z.node.term point v)
    → HasCommitted z.node.term (anchor z.node) (shown had.node)
has_acked state kept z acks point within v had =
    let durable : AtMost (anchor z.node) had.node.durable = at_most_trans (anchor z.node) point had.node.durable within had.durable in
    record {
      term_is = had.term;
      there = first_in state kept z.number z.node acks.was acks.role v had.node had.was had.durable_term (anchor z.node) acks.there acks.term durable;
      durable = durable;
    }

-- ---- one action

module _ (history : History Variables) (state : State) (tied : Tied history state) (kept : Invariant state) where
  module _ (n : ℕ) where
    is : history.now.servers n ≡ shown (now state n)
    is = tied.shows.servers n

    -- what holds of what the machine has holds of the server
    own : (P : Server → Type 0) → P (shown (now state n)) → P (history.now.servers n)
    own P holds = subst P (sym is) holds

    -- one step changes the server
    changes : (name : names.Name) (action : Action) → theirs action ≡ Some name → actor action ≡ n → IsAllowed state action → new_evaluations state action ≡ [] → (F : Server → Server)
        → F (shown (now state n)) ≡ shown (actor_after state action) → Next name history (put history.now n (F (history.now.servers n))) → Done history state action
    changes name action named acts allowed none F does next =
        let new : Variables = put history.now n (F (history.now.servers n)) in
        let leads : Leads history (followed history new) n (shown (actor_after state action)) = leads_put history n (F (history.now.servers n)) (shown (actor_after state action)) (ap F is ∙ does) in
        let leads_too : Leads history (followed history new) (actor action) (shown (actor_after state action)) = subst (λ m. Leads history (followed history new) m (shown (actor_after state action))) (sym acts) leads in (
          followed history new,
          subst (λ (o : Option names.Name). IsDoneBy o history (followed history new)) (sym named) (1, (new, next, refl), λ one. refl),
          tied_after history (followed history new) state action tied leads_too none (gives history new state action allowed tied leads_too.changed),
        )

    -- their variables stay
    stays : (action : Action) → theirs action ≡ None → actor action ≡ n → new_evaluations state action ≡ [] → ((vote : Vote) → In vote (new_votes state action) → ⊥)
        → shown (now state n) ≡ shown (actor_after state action) → Done history state action
    stays action named acts none no_votes same = (
      history,
      subst (λ (o : Option names.Name). IsDoneBy o history history) (sym named) refl,
      tied_after history history state action tied
          (subst (λ m. Leads history history m (shown (actor_after state action))) (sym acts)
          (histories.stays Variables Server (List OpTime) servers_of committed_of history n (shown (actor_after state action)) (is ∙ same)))
          none (λ vote there. absurd (no_votes vote there)),
    )

    -- several steps change the server
    comes : (name : names.Name) (action : Action) → is_one name ≡ false → theirs action ≡ Some name → actor action ≡ n → new_evaluations state action ≡ [] → ((vote : Vote) → In vote (new_votes state action) → ⊥)
        → histories.Comes Variables Server (List OpTime) servers_of committed_of (Next name) history n (shown (actor_after state action)) → Done history state action
    comes name action entry_wise named acts none no_votes does = (
      does.0,
      subst (λ (o : Option names.Name). IsDoneBy o history does.0) (sym named) (does.1, does.2, λ one. absurd (cc (one, entry_wise))),
      tied_after history does.0 state action tied (subst (λ m. Leads history does.0 m (shown (actor_after state action))) (sym acts) does.3) none (λ vote there. absurd (no_votes vote there)),
    )

  -- ---- terms and elections

  raise : (n term : ℕ) → (now state n).term < term → Done history state (Action.Raise n term)
  raise n term higher =
      changes n names.UpdateTerms (Action.Raise n term) refl refl higher refl (λ s. record s { currentTerm = term; state = Secondary; votedFor = None }) refl
      (n, record { term = term; higher = own n (λ s. s.currentTerm < term) higher; takes = becomes_put history n _ })

  campaign : (n : ℕ) → Done history state (Action.Campaign n)
  campaign n =
      changes n names.AskForVotes (Action.Campaign n) refl refl tt refl (λ s. record s { currentTerm = s.currentTerm + 1; votedFor = Some n; state = Secondary }) refl
      (n, record { asks = becomes_put history n _ })

  grant : (n c : ℕ) (seen : Snapshot) → IsAllowed state (Action.Grant n c seen) → Done history state (Action.Grant n c seen)
  grant n c seen allowed =
      changes n names.Vote (Action.Grant n c seen) refl refl allowed refl (λ s. record s { currentTerm = seen.term; votedFor = Some c; state = Secondary }) refl (
        n,
        record {
          j = c;
          seen = shown seen;
          was_seen = tied.had c seen allowed.shown_was;
          asked = (kept.self_vote c seen allowed.shown_was (λ secondary. absurd (let role : seen.role ≡ nodes.Candidate = allowed.role in cc (secondary, role)))).0;
          can = own n (λ s. CanVote seen.term s (shown seen)) (record { first = allowed.term; log = allowed.log; config = allowed.config });
          votes = becomes_put history n _;
        },
      )

  win : (n : ℕ) → IsAllowed state (Action.Win n) → Done history state (Action.Win n)
  win n allowed = stays n (Action.Win n) refl refl refl (λ vote there. there) (ap (λ (r : nodes.Role). let s : Server = record (shown (now state n)) { state = role_shown r } in s) allowed.role)

  drain : (n : ℕ) → (now state n).role ≡ nodes.Draining → Done history state (Action.Drain n)
  drain n draining =
      changes n names.BecomeLeader (Action.Drain n) refl refl draining refl (λ s. record s { state = Primary; configTerm = s.currentTerm }) refl (
        n,
        record {
          first = own n (λ s. s.configTerm < s.currentTerm) ((kept.config_term n (now state n) (now_was state n)).older (inr draining));
          quorum = elected state won.win;
          most = own n (λ s. Most s.config (elected state won.win)) (subst (λ (c : Config). Most c.voters (elected state won.win)) alike.0 (kept.win_votes won.win won.won));
          votes = gave;
          leads = becomes_put history n _;
        },
      )
    where
      won : HasWon state n (now state n)
      won = kept.leader_won n (now state n) (now_was state n) (inl draining)

      alike : (won.win.config ≡ (now state n).config) × (won.win.log ≡ (now state n).log)
      alike = won.draining draining

      gave : (v : ℕ) → elected state won.win v ≡ true → GaveVote history n v
      gave v some = record {
        before = shown turned.before;
        voted = shown turned.voted;
        turned = subst (λ m. Turned servers_of history m (shown turned.before) (shown turned.voted)) vote.2 turned.turned;
        could = own n (λ s. CanVote s.currentTerm (shown turned.before) s) (record {
          first = subst (λ t. (turned.before.term < t) ⊎ ((turned.before.term ≡ t) × (turned.before.vote ≡ None))) of_term turned.first;
          log = subst (λ (o : OpTime). AtMost (last_of turned.before.log) o) (electing.last ∙ ap last_of alike.1) turned.last;
          config = subst (λ (i : nodes.ConfigId). IdAtMost (id_of turned.before.config) i) (electing.config ∙ ap id_of alike.0) turned.config;
        });
        term = turned.term ∙ of_term ∙ sym (ap (λ (s : Server). s.currentTerm) (is n));
        for_it = turned.chosen ∙ ap (λ (m : ℕ). Some m) (electing.candidate ∙ won.number);
      }
        where
          vote : (vote : Vote) × In vote state.votes × (vote.voter ≡ v) × IsElecting won.win vote
          vote = elected_is state won.win v some

          electing : IsElecting won.win vote.0
          electing = vote.3

          turned : HasTurned history vote.0
          turned = tied.votes vote.0 vote.1

          of_term : vote.0.term ≡ (now state n).term
          of_term = electing.term ∙ won.term

  lose : (n : ℕ) → Done history state (Action.Lose n)
  lose n = changes n names.StepDown (Action.Lose n) refl refl tt refl (λ s. record s { state = Secondary }) refl (n, record { steps = becomes_put history n _ })

  -- ---- logs

  append : (n : ℕ) (entry : Entry) → IsAllowed state (Action.Append n entry) → Done history state (Action.Append n entry)
  append n entry allowed =
      changes n names.ClientRequest (Action.Append n entry) refl refl allowed refl (λ s. record s { log = s.log ++ entry ∷ [] }) refl (
        n,
        record {
          entry = entry;
          primary = own n (λ s. s.state ≡ Primary) (ap role_shown allowed.role);
          term = own n (λ s. entry.optime.term ≡ s.currentTerm) allowed.term;
          writes = becomes_put history n _;
        },
      )

  module _ (n source : ℕ) (seen : Snapshot) (many : ℕ) (allowed : IsAllowed state (Action.Take n source seen many)) where
    abbrev taken : List Entry
    taken = take many (log_after (last_of (now state n).log) seen.log)

    abbrev with_log : List Entry → Server
    with_log log = record (shown (now state n)) { log = log }

    one_taken : (h : History Variables) (log : List Entry) (entry : Entry) (more : List Entry) → h.now.servers n ≡ with_log log → Had servers_of h source (shown seen) → seen.log ≡ log ++ entry ∷ more
        → histories.Does Variables Server (List OpTime) servers_of committed_of (Next names.GetEntries) h n (with_log (log ++ entry ∷ []))
    one_taken h log entry more same had whole = (
      put h.now n (record (h.now.servers n) { log = (h.now.servers n).log ++ entry ∷ [] }),
      (
        n,
        record {
          j = source;
          seen = shown seen;
          was_seen = had;
          secondary = ap (λ (s : Server). s.state) same ∙ ap role_shown allowed.1.role;
          entry = entry;
          can = subst (λ (s : Server). CanSyncFrom s.log seen.log entry) (sym same) (record { front = log; rest = more; other_is = whole; level = refl; last = refl });
          takes = becomes_put h n _;
        },
      ),
      leads_put h n _ (with_log (log ++ entry ∷ [])) (ap (λ (s : Server). let t : Server = record s { log = s.log ++ entry ∷ [] } in t) same),
    )

    begins : Begins ((now state n).log ++ taken) seen.log
    begins = read_more state kept n (now state n) (now_was state n) source seen allowed.0 allowed.1 many

    takes : Done history state (Action.Take n source seen many)
    takes =
        comes n names.GetEntries (Action.Take n source seen many) refl refl refl refl (λ vote there. there)
        (histories.takes_all Variables Server (List OpTime) servers_of committed_of (Next names.GetEntries) n source (shown seen) seen.log with_log one_taken taken history (now state n).log begins.0 (is n)
        (tied.had source seen allowed.0) (begins.1 ∙ append_assoc (now state n).log taken begins.0))

  flush : (n : ℕ) (point : OpTime) → IsAllowed state (Action.Flush n point) → Done history state (Action.Flush n point)
  flush n point allowed =
      changes n names.Flush (Action.Flush n point) refl refl allowed refl (λ s. record s { durable = point }) refl (
        n,
        record {
          point = point;
          there = own n (λ s. Has point s.log) allowed.0;
          later = own n (λ s. AtMost s.durable point) allowed.1;
          flushes = becomes_put history n _;
        },
      )

  back : (n : ℕ) (commit : OpTime) → IsAllowed state (Action.Back n commit) → Done history state (Action.Back n commit)
  back n commit allowed =
      changes n names.Restart (Action.Back n commit) refl refl allowed refl (λ s. record s { state = Secondary; log = log_up_to s.durable s.log }) refl
      (n, record { restarts = becomes_put history n _ })

  module _ (n source : ℕ) (seen : Snapshot) (point : OpTime) (was : Was state source seen) (may : MayRollBack (now state n) seen point) where
    abbrev a : Snapshot
    a = now state n

    abbrev front : List Entry
    front = log_up_to point a.log

    abbrev removed : List Entry
    removed = log_after point a.log

    rises : Rises a.log
    rises = kept.log_rises n a (now_was state n)

    whole : a.log ≡ front ++ removed
    whole = split_at point a.log rises

    abbrev IsOut : Entry → Type 0
    IsOut entry = Before point entry.optime

    abbrev left : List Entry → OpTime → Server
    left log durable = record (shown a) { log = log; durable = durable }

    one_less : (h : History Variables) (log : List Entry) (entry : Entry) (more : List Entry) (durable : OpTime) → h.now.servers n ≡ left (log ++ entry ∷ []) durable → Had servers_of h source (shown seen)
        → a.log ≡ log ++ entry ∷ more → IsOut entry
        → histories.Does Variables Server (List OpTime) servers_of committed_of (Next names.RollbackEntries) h n (left log (earlier_of durable (last_of log)))
    one_less h log entry more durable same had is_whole out = (
      put h.now n (record (h.now.servers n) { log = log; durable = earlier_of (h.now.servers n).durable (last_of log) }),
      (
        n,
        record {
          j = source;
          seen = shown seen;
          was_seen = had;
          secondary = ap (λ (s : Server). s.state) same ∙ ap role_shown may.role;
          front = log;
          can = subst (λ (s : Server). CanRollback s.log seen.log log) (sym same) can;
          removes = becomes_put h n _;
        },
      ),
      leads_put h n _ (left log (earlier_of durable (last_of log))) (ap (λ (s : Server). let t : Server = record s { log = log; durable = earlier_of s.durable (last_of log) } in t) same),
    )
      where
        there : Has entry.optime a.log
        there = subst (λ (l : List Entry). Has entry.optime l) (sym is_whole) (has_right entry.optime log (entry ∷ more) (inl refl))

        can : CanRollback (log ++ entry ∷ []) seen.log log
        can = record {
          last = entry;
          log_is = refl;
          older =
              let end : (last_of (log ++ entry ∷ [])).term ≡ entry.optime.term = ap (λ (o : OpTime). o.term) (last_append log entry []) in
              let below : entry.optime.term ≤ (last_of a.log).term = at_most_term entry.optime (last_of a.log) (at_most_last entry.optime a.log rises there) in
              omega (arith, end, below, may.last, may.shown_last);
          apart = λ front_too rest found is_seen level term.
              let same : found.optime ≡ entry.optime = same_place state kept n a (now_was state n) source seen was log more entry is_whole front_too rest found is_seen level term in
              let there_too : Has entry.optime seen.log =
              subst (λ (o : OpTime). Has o seen.log) same (subst (λ (l : List Entry). Has found.optime l) (sym is_seen) (has_right found.optime front_too (found ∷ rest) (inl refl))) in
              not_both point entry.optime out (may.common entry.optime there there_too);
        }

    all_out : (l : List Entry) → ((o : OpTime) → Has o l → Before point o) → histories.AreOut Variables Server (List OpTime) servers_of committed_of (Next names.RollbackEntries) n source (shown seen) a.log rises left IsOut one_less l
    all_out [] later = tt
    all_out (entry ∷ l) later = (later entry.optime (inl refl), all_out l (λ o has. later o (inr has)))

    -- the log that is left ends with the common point
    ends : (l : List Entry) → removed ≡ l → histories.durable_left Variables Server (List OpTime) servers_of committed_of (Next names.RollbackEntries) a.durable front l ≡ earlier_of a.durable point
    ends [] none = sym (earlier_is a.durable point within)
      where
        within : AtMost a.durable point
        within = elim (kept.points n a (now_was state n)).durable [
          | inl zero_is ↦ subst (λ (o : OpTime). AtMost o point) (sym zero_is) (zero_first point)
          | inr there ↦ (up_to_has a.durable point a.log (subst (λ (l : List Entry). Has a.durable l) (whole ∙ ap (λ (l : List Entry). front ++ l) none ∙ append-nil front) there)).1
        ]
    ends (entry ∷ l) some = ap (λ (o : OpTime). earlier_of a.durable o) last_is
      where
        last_is : last_of front ≡ point
        last_is = elim may.there [
          | inl zero_is ↦ ap last_of (up_to_none point a.log (λ o has. subst (λ (p : OpTime). Before p o) (sym zero_is) (earlier_term ZERO o (kept.log_terms n a (now_was state n) o has).0))) ∙ sym zero_is
          | inr there ↦ last_up_to point a.log rises there
        ]

    pub rollback : Done history state (Action.Rollback n source seen point)
    rollback =
        comes n names.RollbackEntries (Action.Rollback n source seen point) refl refl refl refl (λ vote there. there)
        (subst (λ (d : OpTime). histories.Comes Variables Server (List OpTime) servers_of committed_of (Next names.RollbackEntries) history n (left front d)) (ends removed refl)
        (histories.removes_all Variables Server (List OpTime) servers_of committed_of (Next names.RollbackEntries) n source (shown seen) a.log rises left IsOut one_less removed history front a.durable
        (is n ∙ ap (λ l. left l a.durable) whole) (tied.had source seen was) whole (all_out removed (λ o has. (after_has o point a.log has).1))))

  -- ---- commit points and configurations

  module _ (n : ℕ) (point : OpTime) (allowed : IsAllowed state (Action.Evaluate n point)) where
    abbrev next : State
    next = after state (Action.Evaluate n point)

    abbrev z : Stamp
    z = record { number = n; node = actor_after state (Action.Evaluate n point) }

    abbrev new : Variables
    new = record { servers = history.now.servers; committed = anchor z.node ∷ history.now.committed }

    next_kept : Invariant next
    next_kept = keeps state (Action.Evaluate n point) allowed kept

    counts : IsAcked next z
    counts = next_kept.evaluation_acked z (inl refl)

    had_then : (v : ℕ) (y : Snapshot) → Was next v y → Had servers_of history v (shown y)
    had_then v y (inl same) = subst (λ m. Had servers_of history m (shown y)) same.0 (inl (is n ∙ ap shown same.1))
    had_then v y (inr was) = tied.had v y was

    each_has : (v : ℕ) → acked next (now state n).term (anchor z.node) v ≡ true → (seen : Server) × Had servers_of history v seen × HasCommitted (now state n).term (anchor z.node) seen
    each_has v some =
        let had : HasAcked next (now state n).term (anchor z.node) v = acked_is next (now state n).term (anchor z.node) v some in
        (shown had.node, had_then v had.node had.was, has_acked next next_kept z counts (anchor z.node) (at_most_refl (anchor z.node)) v had)

    evaluate : Done history state (Action.Evaluate n point)
    evaluate = (
      followed history new,
      (
        1,
        (
          new,
          (
            n,
            record {
              at = anchor z.node;
              primary = own n (λ s. s.state ≡ Primary) (ap role_shown allowed.role);
              there = own n (λ s. Has (anchor z.node) s.log) counts.there;
              term = own n (λ s. (anchor z.node).term ≡ s.currentTerm) counts.term;
              quorum = own n (λ s. IsOfQuorum history s.config (HasCommitted s.currentTerm (anchor z.node))) (record { quorum = acked next (now state n).term (anchor z.node); most = counts.majority; each = each_has });
              commits = refl;
              servers = λ s. refl;
            },
          ),
          refl,
        ),
        λ one. refl,
      ),
      tied_counted history new state n point tied (λ m. refl) refl,
    )

  learn : (n source : ℕ) (seen : Snapshot) → Done history state (Action.Learn n source seen)
  learn n source seen = stays n (Action.Learn n source seen) refl refl refl (λ vote there. there) refl

  install : (n source : ℕ) (seen : Snapshot) → IsAllowed state (Action.Install n source seen) → Done history state (Action.Install n source seen)
  install n source seen allowed =
      changes n names.SendConfig (Action.Install n source seen) refl refl allowed refl
      (λ s. record s { config = seen.config.voters; configVersion = seen.config.version; configTerm = seen.config.term }) refl (
        n,
        record {
          j = source;
          seen = shown seen;
          was_seen = tied.had source seen allowed.0;
          secondary = own n (λ s. s.state ≡ Secondary) (ap role_shown allowed.1.role);
          newer = own n (λ s. IsNewerConfig (shown seen) s) allowed.1.newer;
          takes = becomes_put history n _;
        },
      )

  reconfigure : (n version : ℕ) (voters : List ℕ) → IsAllowed state (Action.Reconfig n version voters) → Done history state (Action.Reconfig n version voters)
  reconfigure n version voters allowed =
      changes n names.Reconfig (Action.Reconfig n version voters) refl refl allowed refl (λ s. record s { config = voters; configVersion = version; configTerm = s.currentTerm }) refl (
        n,
        record {
          members = voters;
          version = version;
          primary = own n (λ s. s.state ≡ Primary) (ap role_shown allowed.role);
          newer = own n (λ s. s.configVersion < version) allowed.newer;
          overlap = own n (λ s. Meets s.config voters) (apart_meet (now state n).config.voters voters (kept.config_same.once (now state n).config (seen_was state n (now state n) (now_was state n))) allowed.once allowed.apart);
          settled = own n (λ s. IsOfQuorum history s.config (HasConfig s)) (record { quorum = held state (id_of (now state n).config); most = allowed.settled; each = each_holds });
          at = anchor counted.0.node;
          committed = there (anchor counted.0.node) (in_map (λ (z : Stamp). anchor z.node) counted.0 state.evaluations counted.1);
          term = own n (λ s. (anchor counted.0.node).term ≡ s.currentTerm) ((kept.evaluation_acked counted.0 counted.1).term ∙ counted.2);
          all_committed = λ other is_committed. own n (λ s. other.term ≡ s.currentTerm → IsOfQuorum history s.config (HasCommitted s.currentTerm other)) (all other is_committed);
          installs = becomes_put history n _;
        },
      )
    where
      counted : (z : Stamp) × In z state.evaluations × (z.node.term ≡ (now state n).term)
      counted = counted_here state kept n allowed.role allowed.commit_term

      there : (o : OpTime) → In o (map (λ (z : Stamp). anchor z.node) state.evaluations) → In o history.now.committed
      there o has = subst (λ (l : List OpTime). In o l) (sym tied.shows.committed) has

      each_holds : (v : ℕ) → held state (id_of (now state n).config) v ≡ true → (seen : Server) × Had servers_of history v seen × HasConfig (shown (now state n)) seen
      each_holds v some =
          let holds : HasHeld state (id_of (now state n).config) v = held_is state (id_of (now state n).config) v some in (
            shown holds.node,
            tied.had v holds.node holds.was,
            record {
              term = holds.term ∙ (kept.config_term n (now state n) (now_was state n)).own allowed.role;
              version = ap (λ (i : nodes.ConfigId). i.version) holds.config;
              config_term = ap (λ (i : nodes.ConfigId). i.term) holds.config;
            },
          )

      all : (other : OpTime) → In other history.now.committed → other.term ≡ (now state n).term → IsOfQuorum history (now state n).config.voters (HasCommitted (now state n).term other)
      all other is_committed term = record { quorum = acked state (now state n).term (now state n).commit; most = allowed.majority; each = each }
        where
          found : (z : Stamp) × In z state.evaluations × (anchor z.node ≡ other)
          found = of_map (λ (z : Stamp). anchor z.node) other state.evaluations (subst (λ (l : List OpTime). In other l) tied.shows.committed is_committed)

          acks : IsAcked state found.0
          acks = kept.evaluation_acked found.0 found.1

          z_term : found.0.node.term ≡ (now state n).term
          z_term = sym acks.term ∙ ap (λ (o : OpTime). o.term) found.2 ∙ term

          each : (v : ℕ) → acked state (now state n).term (now state n).commit v ≡ true → (seen : Server) × Had servers_of history v seen × HasCommitted (now state n).term other seen
          each v some =
              let had : HasAcked state found.0.node.term (now state n).commit v = acked_is state found.0.node.term (now state n).commit v (subst (λ t. acked state t (now state n).commit v ≡ true) (sym z_term) some) in (
                shown had.node,
                tied.had v had.node had.was,
                subst (λ t. HasCommitted t other (shown had.node)) z_term (subst (λ (o : OpTime). HasCommitted found.0.node.term o (shown had.node)) found.2
                    (has_acked state kept found.0 acks (now state n).commit (anchor_within state kept n allowed.role allowed.commit_term found.0 found.1 z_term) v had)),
              )

  -- ---- each of them

  pub done : (action : Action) → IsAllowed state action → Done history state action
  done (Action.Raise n term) allowed = raise n term allowed
  done (Action.Campaign n) allowed = campaign n
  done (Action.Grant n c seen) allowed = grant n c seen allowed
  done (Action.Win n) allowed = win n allowed
  done (Action.Drain n) allowed = drain n allowed
  done (Action.Lose n) allowed = lose n
  done (Action.Append n entry) allowed = append n entry allowed
  done (Action.Take n source seen many) allowed = takes n source seen many allowed
  done (Action.Flush n point) allowed = flush n point allowed
  done (Action.Back n commit) allowed = back n commit allowed
  done (Action.Rollback n source seen point) allowed = rollback n source seen point allowed.0 allowed.1
  done (Action.Evaluate n point) allowed = evaluate n point allowed
  done (Action.Learn n source seen) allowed = learn n source seen
  done (Action.Install n source seen) allowed = install n source seen allowed
  done (Action.Reconfig n version voters) allowed = reconfigure n version voters allowed
  done (Action.Send n) allowed = stays n (Action.Send n) refl refl refl (λ vote there. there) refl
