-- Each action of the machine by steps of RaftMongo.
use Rattle.std.proofs.Common.{◌≡◌, ◌≢◌, ◌∙◌, ◌<◌, ◌≤◌, ◌+◌, ◌⊎◌, inl, inr, ap, sym, subst, refl, arith, ℕ, true, false, List, [], ◌∷◌, ◌++◌, append_assoc, append-nil, take, Option, None, Some}
use Rattle.rs_optime.specs.Later.{earlier_of, later_of}
use Rattle.rs_optime.specs.Membership.{In}
use Rattle.rs_optime.specs.declared.optime.OpTime.{OpTime}
use Rattle.rs_optime.proofs.Optimes.{at_most_term, earlier_term, not_both}
use Rattle.oplog_entry.specs.Visible.{ZERO, last_of, log_up_to}
use Rattle.oplog_entry.specs.declared.entry.Entry.{Entry}
use Rattle.commit_machine.specs.Machine.{Action, actor, actor_after, after, new_votes, IsAllowed, MayHear, MayRead, MayRollBack}
use Rattle.commit_machine.specs.Nodes as nodes
use Rattle.commit_machine.specs.Nodes.{Config, Snapshot, State, Vote, Was, acked, now}
use Rattle.commit_machine.specs.Words.{AtMost, Before, Begins, Has, Most, Rises, log_after}
use Rattle.commit_machine.proofs.Facts.{HasWon, Invariant, elected}
use Rattle.commit_machine.proofs.Growth.{HasAcked, acked_is, now_was}
use Rattle.commit_machine.proofs.Lists.{after_has, at_most_last, has_right, last_append, last_up_to, split_at, up_to_has, up_to_none}
use Rattle.commit_machine.proofs.Static.{first_in, read_more}
use Rattle.commit_machine.proofs.Views.{IsElecting, elected_is}
use Rattle.published_laws.specs.Histories.{Had, History, Turned, followed}
use Rattle.published_laws.specs.Oplog.{CanRollback, CanSyncFrom}
use Rattle.published_laws.specs.RaftMongo.{CanLearnFrom, CanVote, Follower, GaveVote, HasAcknowledged, IsOfQuorum, Leader, Next, Server, Variables, servers_of}
use Rattle.published_laws.specs.RaftMongoNames as names
use Rattle.published_laws.specs.RaftMongoShown.{IsDoneBy, KeepsVoters, is_one, role_shown, shown, theirs}
use Rattle.published_laws.proofs.Histories as histories
use Rattle.published_laws.proofs.Logs.{earlier_is, same_place, zero_first}
use Rattle.published_laws.proofs.RaftMongoTied.{HasTurned, Leads, Tied, becomes_put, gives, leads_put, nothing_of, put, tied_after}

-- what an action comes to
abbrev pub Done : List ℕ → History Variables → State → Action → Type 0
Done members history state action = (next : History Variables) × IsDoneBy members (theirs action) history next × Tied members next (after state action)

-- ---- one action

module _ (members : List ℕ) (history : History Variables) (state : State) (tied : Tied members history state) (kept : Invariant state) where
  module _ (n : ℕ) where
    is : history.now.servers n ≡ shown (now state n)
    is = tied.shows n

    own_voters : (now state n).config.voters ≡ members
    own_voters = tied.voters n (now state n) (now_was state n)

    -- what holds of what the machine has holds of the server
    own : (P : Server → Type 0) → P (shown (now state n)) → P (history.now.servers n)
    own P holds = subst P (sym is) holds

    -- one step changes the server
    changes : (name : names.Name) (action : Action) → theirs action ≡ Some name → actor action ≡ n → IsAllowed state action → (actor_after state action).config.voters ≡ members → (F : Server → Server)
        → F (shown (now state n)) ≡ shown (actor_after state action) → Next members name history (put history.now n (F (history.now.servers n))) → Done members history state action
    changes name action named acts allowed none F does next =
        let new : Variables = put history.now n (F (history.now.servers n)) in
        let leads : Leads history (followed history new) n (shown (actor_after state action)) = leads_put history n (F (history.now.servers n)) (shown (actor_after state action)) (ap F is ∙ does) in
        let leads_too : Leads history (followed history new) (actor action) (shown (actor_after state action)) = subst (λ m. Leads history (followed history new) m (shown (actor_after state action))) (sym acts) leads in (
          followed history new,
          subst (λ (o : Option names.Name). IsDoneBy members o history (followed history new)) (sym named) (1, (new, next, refl), λ one. refl),
          tied_after members history (followed history new) state action tied leads_too none (gives members history new state action allowed tied leads_too.changed),
        )

    -- their variables stay
    stays : (action : Action) → theirs action ≡ None → actor action ≡ n → (actor_after state action).config.voters ≡ members → ((vote : Vote) → In vote (new_votes state action) → ⊥)
        → shown (now state n) ≡ shown (actor_after state action) → Done members history state action
    stays action named acts none no_votes same = (
      history,
      subst (λ (o : Option names.Name). IsDoneBy members o history history) (sym named) refl,
      tied_after members history history state action tied
          (subst (λ m. Leads history history m (shown (actor_after state action))) (sym acts)
          (histories.stays Variables Server (Unit {0}) servers_of nothing_of history n (shown (actor_after state action)) (is ∙ same)))
          none (λ vote there. absurd (no_votes vote there)),
    )

    -- several steps change the server
    comes : (name : names.Name) (action : Action) → is_one name ≡ false → theirs action ≡ Some name → actor action ≡ n → (actor_after state action).config.voters ≡ members → ((vote : Vote) → In vote (new_votes state action) → ⊥)
        → histories.Comes Variables Server (Unit {0}) servers_of nothing_of (Next members name) history n (shown (actor_after state action)) → Done members history state action
    comes name action entry_wise named acts none no_votes does = (
      does.0,
      subst (λ (o : Option names.Name). IsDoneBy members o history does.0) (sym named) (does.1, does.2, λ one. absurd (cc (one, entry_wise))),
      tied_after members history does.0 state action tied (subst (λ m. Leads history does.0 m (shown (actor_after state action))) (sym acts) does.3) none (λ vote there. absurd (no_votes vote there)),
    )

  -- ---- terms and elections

  raise : (n term : ℕ) → (now state n).term < term → Done members history state (Action.Raise n term)
  raise n term higher =
      changes n names.UpdateTermThroughHeartbeat (Action.Raise n term) refl refl higher (own_voters n) (λ s. record s { currentTerm = term; state = Follower; votedFor = None }) refl
      (n, record { term = term; higher = own n (λ s. s.currentTerm < term) higher; takes = becomes_put members history n _ })

  campaign : (n : ℕ) → Done members history state (Action.Campaign n)
  campaign n =
      changes n names.AskForVotes (Action.Campaign n) refl refl tt (own_voters n) (λ s. record s { currentTerm = s.currentTerm + 1; votedFor = Some n; state = Follower }) refl
      (n, record { asks = becomes_put members history n _ })

  grant : (n c : ℕ) (seen : Snapshot) → IsAllowed state (Action.Grant n c seen) → Done members history state (Action.Grant n c seen)
  grant n c seen allowed =
      changes n names.Vote (Action.Grant n c seen) refl refl allowed (own_voters n) (λ s. record s { currentTerm = seen.term; votedFor = Some c; state = Follower }) refl (
        n,
        record {
          j = c;
          seen = shown seen;
          was_seen = tied.had c seen allowed.shown_was;
          asked = (kept.self_vote c seen allowed.shown_was (λ secondary. absurd (let role : seen.role ≡ nodes.Candidate = allowed.role in cc (secondary, role)))).0;
          can = own n (λ s. CanVote seen.term s (shown seen)) (record { first = allowed.term; log = allowed.log });
          votes = becomes_put members history n _;
        },
      )

  win : (n : ℕ) → IsAllowed state (Action.Win n) → Done members history state (Action.Win n)
  win n allowed = stays n (Action.Win n) refl refl (own_voters n) (λ vote there. there) (ap (λ (r : nodes.Role). let s : Server = record (shown (now state n)) { state = role_shown r } in s) allowed.role)

  drain : (n : ℕ) → (now state n).role ≡ nodes.Draining → Done members history state (Action.Drain n)
  drain n draining =
      changes n names.BecomePrimaryByMagic (Action.Drain n) refl refl draining (own_voters n) (λ s. record s { state = Leader }) refl (
        n,
        record {
          first = own n (λ s. (at : OpTime) → Has at s.log → at.term < s.currentTerm) (kept.candidate_log n (now state n) (now_was state n) (inr draining));
          ayeVoters = elected state won.win;
          most = subst (λ l. Most l (elected state won.win)) (ap (λ (c : Config). c.voters) alike.0 ∙ own_voters n) (kept.win_votes won.win won.won);
          votes = gave;
          leads = becomes_put members history n _;
        },
      )
    where
      won : HasWon state n (now state n)
      won = kept.leader_won n (now state n) (now_was state n) (inl draining)

      alike : (won.win.config ≡ (now state n).config) × (won.win.log ≡ (now state n).log)
      alike = won.draining draining

      gave : (v : ℕ) → elected state won.win v ≡ true → GaveVote history n v
      gave v some = record {
        before = shown turned.before;
        voted = shown turned.voted;
        turned = subst (λ m. Turned servers_of history m (shown turned.before) (shown turned.voted)) vote.2 turned.turned;
        could = own n (λ s. CanVote s.currentTerm (shown turned.before) s) (record {
          first = subst (λ t. (turned.before.term < t) ⊎ ((turned.before.term ≡ t) × (turned.before.vote ≡ None))) of_term turned.first;
          log = subst (λ (o : OpTime). AtMost (last_of turned.before.log) o) (electing.last ∙ ap last_of alike.1) turned.last;
        });
        term = turned.term ∙ of_term ∙ sym (ap (λ (s : Server). s.currentTerm) (is n));
        for_it = turned.chosen ∙ ap (λ (m : ℕ). Some m) (electing.candidate ∙ won.number);
      }
        where
          vote : (vote : Vote) × In vote state.votes × (vote.voter ≡ v) × IsElecting won.win vote
          vote = elected_is state won.win v some

          electing : IsElecting won.win vote.0
          electing = vote.3

          turned : HasTurned history vote.0
          turned = tied.votes vote.0 vote.1

          of_term : vote.0.term ≡ (now state n).term
          of_term = electing.term ∙ won.term

  lose : (n : ℕ) → Done members history state (Action.Lose n)
  lose n = changes n names.Stepdown (Action.Lose n) refl refl tt (own_voters n) (λ s. record s { state = Follower }) refl (n, record { steps = becomes_put members history n _ })

  -- ---- logs

  append : (n : ℕ) (entry : Entry) → IsAllowed state (Action.Append n entry) → Done members history state (Action.Append n entry)
  append n entry allowed =
      changes n names.ClientWrite (Action.Append n entry) refl refl allowed (own_voters n) (λ s. record s { log = s.log ++ entry ∷ [] }) refl (
        n,
        record {
          entry = entry;
          leader = own n (λ s. s.state ≡ Leader) (ap role_shown allowed.role);
          term = own n (λ s. entry.optime.term ≡ s.currentTerm) allowed.term;
          writes = becomes_put members history n _;
        },
      )

  module _ (n source : ℕ) (seen : Snapshot) (many : ℕ) (allowed : IsAllowed state (Action.Take n source seen many)) where
    abbrev taken : List Entry
    taken = take many (log_after (last_of (now state n).log) seen.log)

    abbrev with_log : List Entry → Server
    with_log log = record (shown (now state n)) { log = log }

    one_taken : (h : History Variables) (log : List Entry) (entry : Entry) (more : List Entry) → h.now.servers n ≡ with_log log → Had servers_of h source (shown seen) → seen.log ≡ log ++ entry ∷ more
        → histories.Does Variables Server (Unit {0}) servers_of nothing_of (Next members names.AppendOplog) h n (with_log (log ++ entry ∷ []))
    one_taken h log entry more same had whole = (
      put h.now n (record (h.now.servers n) { log = (h.now.servers n).log ++ entry ∷ [] }),
      (
        n,
        record {
          j = source;
          seen = shown seen;
          was_seen = had;
          follower = ap (λ (s : Server). s.state) same ∙ ap role_shown allowed.1.role;
          entry = entry;
          can = subst (λ (s : Server). CanSyncFrom s.log seen.log entry) (sym same) (record { front = log; rest = more; other_is = whole; level = refl; last = refl });
          appends = becomes_put members h n _;
        },
      ),
      leads_put h n _ (with_log (log ++ entry ∷ [])) (ap (λ (s : Server). let t : Server = record s { log = s.log ++ entry ∷ [] } in t) same),
    )

    begins : Begins ((now state n).log ++ taken) seen.log
    begins = read_more state kept n (now state n) (now_was state n) source seen allowed.0 allowed.1 many

    takes : Done members history state (Action.Take n source seen many)
    takes =
        comes n names.AppendOplog (Action.Take n source seen many) refl refl refl (own_voters n) (λ vote there. there)
        (histories.takes_all Variables Server (Unit {0}) servers_of nothing_of (Next members names.AppendOplog) n source (shown seen) seen.log with_log one_taken taken history (now state n).log begins.0 (is n)
        (tied.had source seen allowed.0) (begins.1 ∙ append_assoc (now state n).log taken begins.0))

  flush : (n : ℕ) (point : OpTime) → IsAllowed state (Action.Flush n point) → Done members history state (Action.Flush n point)
  flush n point allowed =
      changes n names.Flush (Action.Flush n point) refl refl allowed (own_voters n) (λ s. record s { durable = point }) refl (
        n,
        record {
          point = point;
          there = own n (λ s. Has point s.log) allowed.0;
          later = own n (λ s. AtMost s.durable point) allowed.1;
          flushes = becomes_put members history n _;
        },
      )

  back : (n : ℕ) (commit : OpTime) → IsAllowed state (Action.Back n commit) → Done members history state (Action.Back n commit)
  back n commit allowed =
      changes n names.Restart (Action.Back n commit) refl refl allowed (own_voters n) (λ s. record s { state = Follower; log = log_up_to s.durable s.log; commitPoint = commit }) refl (
        n,
        record {
          commit = commit;
          known = own n (λ s. (commit ≡ ZERO) ⊎ (Has commit (log_up_to s.durable s.log) × AtMost commit s.commitPoint)) allowed;
          restarts = becomes_put members history n _;
        },
      )

  module _ (n source : ℕ) (seen : Snapshot) (point : OpTime) (was : Was state source seen) (may : MayRollBack (now state n) seen point) where
    abbrev a : Snapshot
    a = now state n

    abbrev front : List Entry
    front = log_up_to point a.log

    abbrev removed : List Entry
    removed = log_after point a.log

    rises : Rises a.log
    rises = kept.log_rises n a (now_was state n)

    whole : a.log ≡ front ++ removed
    whole = split_at point a.log rises

    abbrev IsOut : Entry → Type 0
    IsOut entry = Before point entry.optime

    abbrev left : List Entry → OpTime → Server
    left log durable = record (shown a) { log = log; durable = durable }

    one_less : (h : History Variables) (log : List Entry) (entry : Entry) (more : List Entry) (durable : OpTime) → h.now.servers n ≡ left (log ++ entry ∷ []) durable → Had servers_of h source (shown seen)
        → a.log ≡ log ++ entry ∷ more → IsOut entry
        → histories.Does Variables Server (Unit {0}) servers_of nothing_of (Next members names.RollbackOplog) h n (left log (earlier_of durable (last_of log)))
    one_less h log entry more durable same had is_whole out = (
      put h.now n (record (h.now.servers n) { log = log; durable = earlier_of (h.now.servers n).durable (last_of log) }),
      (
        n,
        record {
          j = source;
          seen = shown seen;
          was_seen = had;
          follower = ap (λ (s : Server). s.state) same ∙ ap role_shown may.role;
          front = log;
          can = subst (λ (s : Server). CanRollback s.log seen.log log) (sym same) can;
          removes = becomes_put members h n _;
        },
      ),
      leads_put h n _ (left log (earlier_of durable (last_of log))) (ap (λ (s : Server). let t : Server = record s { log = log; durable = earlier_of s.durable (last_of log) } in t) same),
    )
      where
        there : Has entry.optime a.log
        there = subst (λ (l : List Entry). Has entry.optime l) (sym is_whole) (has_right entry.optime log (entry ∷ more) (inl refl))

        can : CanRollback (log ++ entry ∷ []) seen.log log
        can = record {
          last = entry;
          log_is = refl;
          older =
              let end : (last_of (log ++ entry ∷ [])).term ≡ entry.optime.term = ap (λ (o : OpTime). o.term) (last_append log entry []) in
              let below : entry.optime.term ≤ (last_of a.log).term = at_most_term entry.optime (last_of a.log) (at_most_last entry.optime a.log rises there) in
              omega (arith, end, below, may.last, may.shown_last);
          apart = λ front_too rest found is_seen level term.
              let same : found.optime ≡ entry.optime = same_place state kept n a (now_was state n) source seen was log more entry is_whole front_too rest found is_seen level term in
              let there_too : Has entry.optime seen.log =
              subst (λ (o : OpTime). Has o seen.log) same (subst (λ (l : List Entry). Has found.optime l) (sym is_seen) (has_right found.optime front_too (found ∷ rest) (inl refl))) in
              not_both point entry.optime out (may.common entry.optime there there_too);
        }

    all_out : (l : List Entry) → ((o : OpTime) → Has o l → Before point o) → histories.AreOut Variables Server (Unit {0}) servers_of nothing_of (Next members names.RollbackOplog) n source (shown seen) a.log rises left IsOut one_less l
    all_out [] later = tt
    all_out (entry ∷ l) later = (later entry.optime (inl refl), all_out l (λ o has. later o (inr has)))

    -- the log that is left ends with the common point
    ends : (l : List Entry) → removed ≡ l → histories.durable_left Variables Server (Unit {0}) servers_of nothing_of (Next members names.RollbackOplog) a.durable front l ≡ earlier_of a.durable point
    ends [] none = sym (earlier_is a.durable point within)
      where
        within : AtMost a.durable point
        within = elim (kept.points n a (now_was state n)).durable [
          | inl zero_is ↦ subst (λ (o : OpTime). AtMost o point) (sym zero_is) (zero_first point)
          | inr there ↦ (up_to_has a.durable point a.log (subst (λ (l : List Entry). Has a.durable l) (whole ∙ ap (λ (l : List Entry). front ++ l) none ∙ append-nil front) there)).1
        ]
    ends (entry ∷ l) some = ap (λ (o : OpTime). earlier_of a.durable o) last_is
      where
        last_is : last_of front ≡ point
        last_is = elim may.there [
          | inl zero_is ↦ ap last_of (up_to_none point a.log (λ o has. subst (λ (p : OpTime). Before p o) (sym zero_is) (earlier_term ZERO o (kept.log_terms n a (now_was state n) o has).0))) ∙ sym zero_is
          | inr there ↦ last_up_to point a.log rises there
        ]

    pub rollback : Done members history state (Action.Rollback n source seen point)
    rollback =
        comes n names.RollbackOplog (Action.Rollback n source seen point) refl refl refl (own_voters n) (λ vote there. there)
        (subst (λ (d : OpTime). histories.Comes Variables Server (Unit {0}) servers_of nothing_of (Next members names.RollbackOplog) history n (left front d)) (ends removed refl)
        (histories.removes_all Variables Server (Unit {0}) servers_of nothing_of (Next members names.RollbackOplog) n source (shown seen) a.log rises left IsOut one_less removed history front a.durable
        (is n ∙ ap (λ l. left l a.durable) whole) (tied.had source seen was) whole (all_out removed (λ o has. (after_has o point a.log has).1))))

  -- ---- commit points

  evaluate : (n : ℕ) (point : OpTime) → IsAllowed state (Action.Evaluate n point) → Done members history state (Action.Evaluate n point)
  evaluate n point allowed =
      changes n names.AdvanceCommitPoint (Action.Evaluate n point) refl refl allowed (own_voters n) (λ s. record s { commitPoint = earlier_of point s.durable }) refl (
        n,
        record {
          at = point;
          leader = own n (λ s. s.state ≡ Leader) (ap role_shown allowed.role);
          there = own n (λ s. Has point s.log) allowed.there;
          term = own n (λ s. point.term ≡ s.currentTerm) allowed.term;
          acknowledgers = own n (λ s. IsOfQuorum history members (HasAcknowledged s.currentTerm point)) (record {
            quorum = acked state (now state n).term point;
            most = subst (λ l. Most l (acked state (now state n).term point)) (own_voters n) allowed.majority;
            each = each;
          });
          rises = own n (λ s. Before s.commitPoint (earlier_of point s.durable)) allowed.rises;
          advances = becomes_put members history n _;
        },
      )
    where
      each : (v : ℕ) → acked state (now state n).term point v ≡ true → (seen : Server) × Had servers_of history v seen × HasAcknowledged (now state n).term point seen
      each v some =
          let had : HasAcked state (now state n).term point v = acked_is state (now state n).term point v some in (
            shown had.node,
            tied.had v had.node had.was,
            record {
              term_is = had.term;
              there = first_in state kept n (now state n) (now_was state n) allowed.role v had.node had.was had.durable_term point allowed.there allowed.term had.durable;
              durable = had.durable;
            },
          )

  learn : (n source : ℕ) (seen : Snapshot) → IsAllowed state (Action.Learn n source seen) → Done members history state (Action.Learn n source seen)
  learn n source seen allowed =
      changes n names.LearnCommitPoint (Action.Learn n source seen) refl refl allowed (own_voters n) (λ s. record s { commitPoint = later_of s.commitPoint (earlier_of seen.commit s.durable) }) refl (
        n,
        record {
          j = source;
          seen = shown seen;
          was_seen = tied.had source seen allowed.0;
          follower = own n (λ s. s.state ≡ Follower) (follows allowed.1);
          can = own n (λ s. CanLearnFrom s (shown seen)) (can allowed.1);
          learns = becomes_put members history n _;
        },
      )
    where
      no_primary : (r : nodes.Role) → r ≢ nodes.Primary → role_shown r ≡ Follower
      no_primary nodes.Secondary other = refl
      no_primary nodes.Candidate other = refl
      no_primary nodes.Draining other = refl
      no_primary nodes.Primary other = absurd (other refl)

      follows : MayHear (now state n) seen ⊎ MayRead (now state n) seen → role_shown (now state n).role ≡ Follower
      follows (inl hears) = no_primary (now state n).role hears.role
      follows (inr reads) = ap role_shown reads.role

      can : MayHear (now state n) seen ⊎ MayRead (now state n) seen → CanLearnFrom (shown (now state n)) (shown seen)
      can (inl hears) = inl (hears.term, hears.last)
      can (inr reads) = inr (reads.term, reads.last)

  install : (n source : ℕ) (seen : Snapshot) → IsAllowed state (Action.Install n source seen) → Done members history state (Action.Install n source seen)
  install n source seen allowed = stays n (Action.Install n source seen) refl refl (tied.voters source seen allowed.0) (λ vote there. there) refl

  -- ---- each of them

  pub done : (action : Action) → IsAllowed state action → KeepsVoters members action → Done members history state action
  done (Action.Raise n term) allowed same = raise n term allowed
  done (Action.Campaign n) allowed same = campaign n
  done (Action.Grant n c seen) allowed same = grant n c seen allowed
  done (Action.Win n) allowed same = win n allowed
  done (Action.Drain n) allowed same = drain n allowed
  done (Action.Lose n) allowed same = lose n
  done (Action.Append n entry) allowed same = append n entry allowed
  done (Action.Take n source seen many) allowed same = takes n source seen many allowed
  done (Action.Flush n point) allowed same = flush n point allowed
  done (Action.Back n commit) allowed same = back n commit allowed
  done (Action.Rollback n source seen point) allowed same = rollback n source seen point allowed.0 allowed.1
  done (Action.Evaluate n point) allowed same = evaluate n point allowed
  done (Action.Learn n source seen) allowed same = learn n source seen allowed
  done (Action.Install n source seen) allowed same = install n source seen allowed
  done (Action.Reconfig n version voters) allowed same = stays n (Action.Reconfig n version voters) refl refl same (λ vote there. there) refl
  done (Action.Send n) allowed same = stays n (Action.Send n) refl refl (own_voters n) (λ vote there. there) refl
