-- Each action of RaftMongo happens: in a run of the machine with two elections, a count, a rollback and a
-- restart.
use Rattle.std.proofs.Common.{◌≡◌, ◌∙◌, inl, inr, refl, arith, ap, sym, subst, ℕ, zero, suc, Bool, true, false, Option, None, Some, List, [], ◌∷◌, ◌++◌}
use Rattle.std.proofs.lemmas.Bool.{and_parts}
use Rattle.std.specs.Prelude.{◌&&◌, not}
use Rattle.rs_optime.specs.declared.optime.OpTime.{OpTime}
use Rattle.oplog_entry.specs.declared.entry.Entry.{Entry}
use Rattle.oplog_entry.specs.declared.entry.Op.TheVariants.{Noop}
use Rattle.commit_machine.specs.Words.{AtMost, Has}
use Rattle.commit_machine.specs.Nodes.{State, opening, now}
use Rattle.commit_machine.specs.Machine.{Action, Raise, Campaign, Grant, Win, Drain, Lose, Append, Take, Flush, Back, Rollback, Evaluate, Learn, Install, Reconfig, Send, AreAllowed, after, run}
use Rattle.commit_machine.proofs.Facts.{Invariant}
use Rattle.commit_machine.proofs.Keeps.{kept_opening, kept_run}
use Rattle.published_laws.specs.Histories.{History, Path, Steps}
use Rattle.published_laws.specs.RaftMongo.{Next, Server, Variables}
use Rattle.published_laws.specs.RaftMongoNames as names
use Rattle.published_laws.specs.RaftMongoNames.{Name}
use Rattle.published_laws.specs.RaftMongoShown.{AllKeepVoters, EachHappens, IsDoneBy, KeepsVoters, is_one, start, theirs}
use Rattle.published_laws.proofs.Logs.{longer, shorter}
use Rattle.published_laws.proofs.RaftMongoActions.{Done, done}
use Rattle.published_laws.proofs.RaftMongoRuns.{Leads, joined, many, tied_first}

abbrev at : ℕ → ℕ → OpTime
at term ts = record { term = term; ts = ts }

abbrev noop : ℕ → ℕ → Entry
noop term ts = record { optime = at term ts; op = Noop; session = None }

abbrev first : State
first = opening (0 ∷ 1 ∷ 2 ∷ [])

-- ---- node 0 asks for votes

abbrev asks : List Action
asks = Send 0 ∷ Campaign 0 ∷ []

abbrev asked : State
asked = run first asks

-- ---- with that of node 1 it wins, and writes

abbrev writes : List Action
writes = Grant 1 0 (now asked 0) ∷ Win 0 ∷ Drain 0 ∷ Append 0 (noop 1 1) ∷ Flush 0 (at 1 1) ∷ []

abbrev written : State
written = run asked writes

may_write : AreAllowed asked writes
may_write = (
  record { shown_was = inl (refl, refl); role = refl; term = inl (omega arith); config = inr (refl, omega arith); log = refl },
  (record { role = refl; votes = omega arith }, (refl, (record { role = refl; term = refl; later = omega arith }, ((inl refl, refl), tt)))),
)

-- ---- node 1 takes it over, node 0 counts and goes on

abbrev counts : List Action
counts =
    Take 1 0 (now written 0) 1 ∷ Flush 1 (at 1 1) ∷ Install 1 0 (now written 0) ∷ Evaluate 0 (at 1 1)
    ∷ Append 0 (noop 1 2) ∷ Flush 0 (at 1 2) ∷ []

abbrev counted : State
counted = run written counts

may_count : AreAllowed written counts
may_count = (
  (inl (refl, refl), record { role = refl; term = omega arith; last = inl refl }),
  (
    (inl refl, refl),
    (
      (inr (inr (inl (refl, refl))), record { role = refl; term = omega arith; newer = inl (omega arith) }),
      (
        record { role = refl; there = inl refl; term = refl; majority = omega arith; rises = refl },
        (
          record { role = refl; term = refl; later = omega arith },
          ((inr (inl refl), refl), tt),
        ),
      ),
    ),
  ),
)

-- ---- node 1 learns the commit point, and asks for votes

abbrev asks_again : List Action
asks_again = Learn 1 0 (now counted 0) ∷ Campaign 1 ∷ []

abbrev asked_again : State
asked_again = run counted asks_again

may_ask_again : AreAllowed counted asks_again
may_ask_again = ((inl (refl, refl), inr (record { role = refl; term = omega arith; last = inr (inl refl) })), (tt, tt))

-- ---- with that of node 2 it wins, and writes

abbrev leads : List Action
leads = Grant 2 1 (now asked_again 1) ∷ Win 1 ∷ Drain 1 ∷ Append 1 (noop 2 3) ∷ []

abbrev led : State
led = run asked_again leads

may_lead : AreAllowed asked_again leads
may_lead = (
  record { shown_was = inl (refl, refl); role = refl; term = inl (omega arith); config = inl (omega arith); log = refl },
  (record { role = refl; votes = omega arith }, (refl, (record { role = refl; term = refl; later = omega arith }, tt))),
)

-- ---- node 0 hears of the term, rolls back and restarts; node 1 steps down

abbrev turns : List Action
turns = Raise 0 2 ∷ Rollback 0 1 (now led 1) (at 1 1) ∷ Back 0 (at 1 1) ∷ Lose 1 ∷ []

common : (o : OpTime) → Has o (noop 1 1 ∷ noop 1 2 ∷ []) → Has o (noop 1 1 ∷ noop 2 3 ∷ []) → AtMost o (at 1 1)
common o (inl is) has = subst (λ (p : OpTime). AtMost p (at 1 1)) is refl
common o (inr (inl is)) (inl other) = absurd (omega (arith, ap (λ (p : OpTime). p.ts) is, ap (λ (p : OpTime). p.ts) other))
common o (inr (inl is)) (inr (inl other)) = absurd (omega (arith, ap (λ (p : OpTime). p.ts) is, ap (λ (p : OpTime). p.ts) other))
common o (inr (inl is)) (inr (inr none)) = absurd none
common o (inr (inr none)) has = absurd none

may_turn : AreAllowed led turns
may_turn = (
  omega arith,
  (
    (inr (inl (refl, refl)), record { role = refl; term = refl; shown_last = refl; last = omega arith; there = inr (inl refl); common = common }),
    (inr (inl refl, refl), (tt, tt)),
  ),
)

-- ---- the behaviour that it is

abbrev members : List ℕ
members = 0 ∷ 1 ∷ 2 ∷ []

record Reached (state : State) : Type 0 where
  leads : Leads members start state
  kept : Invariant state

abbrev is_reconfig : Action → Bool
is_reconfig (Reconfig node version voters) = true
is_reconfig action = false

abbrev none_reconfigs : List Action → Bool
none_reconfigs [] = true
none_reconfigs (action ∷ actions) = not (is_reconfig action) && none_reconfigs actions

keeps_one : (action : Action) → not (is_reconfig action) ≡ true → KeepsVoters members action
keeps_one (Reconfig node version voters) none = let clash : false ≡ true = none in absurd (cc clash)
keeps_one action none = tt

keeps_all : (actions : List Action) → none_reconfigs actions ≡ true → AllKeepVoters members actions
keeps_all [] none = tt
keeps_all (action ∷ actions) none = let parts : (not (is_reconfig action) ≡ true) × (none_reconfigs actions ≡ true) = and_parts (not (is_reconfig action)) (none_reconfigs actions) none in
    (keeps_one action parts.0, keeps_all actions parts.1)

goes : (state : State) (actions : List Action) → Reached state → AreAllowed state actions → AllKeepVoters members actions → Reached (run state actions)
goes state actions reached allowed same =
    let next : Leads members reached.leads.0 (run state actions) = many members reached.leads.0 state actions reached.leads.3 reached.kept allowed same in
    let path : (all : List Name) × Path (Next members) all start next.0 = joined members reached.leads.1 next.1 start reached.leads.0 next.0 reached.leads.2 next.2 in
    record { leads = (next.0, path.0, path.1, next.3); kept = kept_run state actions allowed reached.kept }

begun : Reached first
begun = record { leads = (start, [], refl, tied_first members); kept = kept_opening members (refl, (refl, (refl, tt))) }

at_asked : Reached asked
at_asked = goes first asks begun (tt, (tt, tt)) (keeps_all asks refl)

at_written : Reached written
at_written = goes asked writes at_asked may_write (keeps_all writes refl)

at_counted : Reached counted
at_counted = goes written counts at_written may_count (keeps_all counts refl)

at_asked_again : Reached asked_again
at_asked_again = goes counted asks_again at_counted may_ask_again (keeps_all asks_again refl)

at_led : Reached led
at_led = goes asked_again leads at_asked_again may_lead (keeps_all leads refl)

-- ---- each action

abbrev Happens : Name → Type 0
Happens name = (path : List Name) × (history : History Variables) × (next : Variables) × Path (Next members) path start history × Next members name history next

one_step : (name : Name) (history next : History Variables) → IsDoneBy members (Some name) history next → is_one name ≡ true → (new : Variables) × Next members name history new
one_step name history next by one =
    let steps : Steps (Next members name) 1 history next = subst (λ c. Steps (Next members name) c history next) (by.2 one) by.1 in (steps.0, steps.1)

-- one of the actions is one step
happens : (name : Name) (state : State) (actions more : List Action) (action : Action) → Reached state → AreAllowed state (actions ++ action ∷ more) → AllKeepVoters members (actions ++ action ∷ more) → theirs action ≡ Some name → is_one name ≡ true → Happens name
happens name state [] more action reached allowed same is one =
    let done_by : Done members reached.leads.0 state action = done members reached.leads.0 state reached.leads.3 reached.kept action allowed.0 same.0 in
    let step : (new : Variables) × Next members name reached.leads.0 new = one_step name reached.leads.0 done_by.0 (subst (λ (o : Option Name). IsDoneBy members o reached.leads.0 done_by.0) is done_by.1) one in
    (reached.leads.1, reached.leads.0, step.0, reached.leads.2, step.1)
happens name state (other ∷ actions) more action reached allowed same is one =
    happens name (after state other) actions more action (goes state (other ∷ []) reached (allowed.0, tt) (same.0, tt)) allowed.1 same.1 is one

-- or there is a first one, where the log changes
some_step : (name : Name) (history next : History Variables) (n : ℕ) → IsDoneBy members (Some name) history next → ((history.now.servers n).log ≡ (next.now.servers n).log → ⊥) → (new : Variables) × Next members name history new
some_step name history next n by changes = go by.0 by.1
  where
    go : (count : ℕ) → Steps (Next members name) count history next → (new : Variables) × Next members name history new
    go zero none = absurd (changes (ap (λ (h : History Variables). (h.now.servers n).log) (sym none)))
    go (suc count) steps = (steps.0, steps.1)

happens_some : (name : Name) (state : State) (actions more : List Action) (action : Action) (n : ℕ) → Reached state → AreAllowed state (actions ++ action ∷ more) → AllKeepVoters members (actions ++ action ∷ more) → theirs action ≡ Some name
    → ((now (run state actions) n).log ≡ (now (after (run state actions) action) n).log → ⊥) → Happens name
happens_some name state [] more action n reached allowed same is changes =
    let done_by : Done members reached.leads.0 state action = done members reached.leads.0 state reached.leads.3 reached.kept action allowed.0 same.0 in
    let step : (new : Variables) × Next members name reached.leads.0 new = some_step name reached.leads.0 done_by.0 n (subst (λ (o : Option Name). IsDoneBy members o reached.leads.0 done_by.0) is done_by.1)
    (λ same. changes (ap (λ (s : Server). s.log) (sym (reached.leads.3.shows n)) ∙ same ∙ ap (λ (s : Server). s.log) (done_by.2.shows n))) in
    (reached.leads.1, reached.leads.0, step.0, reached.leads.2, step.1)
happens_some name state (other ∷ actions) more action n reached allowed same is changes =
    happens_some name (after state other) actions more action n (goes state (other ∷ []) reached (allowed.0, tt) (same.0, tt)) allowed.1 same.1 is changes

pub each_happens : EachHappens
each_happens names.AskForVotes = happens names.AskForVotes first (Send 0 ∷ []) [] (Campaign 0) begun (tt, (tt, tt)) (keeps_all asks refl) refl refl
each_happens names.Vote = happens names.Vote asked [] (Win 0 ∷ Drain 0 ∷ Append 0 (noop 1 1) ∷ Flush 0 (at 1 1) ∷ []) (Grant 1 0 (now asked 0)) at_asked may_write (keeps_all writes refl) refl refl
each_happens names.BecomePrimaryByMagic =
    happens names.BecomePrimaryByMagic asked (Grant 1 0 (now asked 0) ∷ Win 0 ∷ []) (Append 0 (noop 1 1) ∷ Flush 0 (at 1 1) ∷ []) (Drain 0) at_asked may_write (keeps_all writes refl) refl refl
each_happens names.ClientWrite =
    happens names.ClientWrite asked (Grant 1 0 (now asked 0) ∷ Win 0 ∷ Drain 0 ∷ []) (Flush 0 (at 1 1) ∷ []) (Append 0 (noop 1 1)) at_asked may_write (keeps_all writes refl) refl refl
each_happens names.Flush =
    happens names.Flush asked (Grant 1 0 (now asked 0) ∷ Win 0 ∷ Drain 0 ∷ Append 0 (noop 1 1) ∷ []) [] (Flush 0 (at 1 1)) at_asked may_write (keeps_all writes refl) refl refl
each_happens names.AppendOplog =
    happens_some names.AppendOplog written [] (Flush 1 (at 1 1) ∷ Install 1 0 (now written 0) ∷ Evaluate 0 (at 1 1) ∷ Append 0 (noop 1 2) ∷ Flush 0 (at 1 2) ∷ [])
    (Take 1 0 (now written 0) 1) 1 at_written may_count (keeps_all counts refl) refl (longer _ _)
each_happens names.AdvanceCommitPoint =
    happens names.AdvanceCommitPoint written (Take 1 0 (now written 0) 1 ∷ Flush 1 (at 1 1) ∷ Install 1 0 (now written 0) ∷ []) (Append 0 (noop 1 2) ∷ Flush 0 (at 1 2) ∷ [])
    (Evaluate 0 (at 1 1)) at_written may_count (keeps_all counts refl) refl refl
each_happens names.LearnCommitPoint = happens names.LearnCommitPoint counted [] (Campaign 1 ∷ []) (Learn 1 0 (now counted 0)) at_counted may_ask_again (keeps_all asks_again refl) refl refl
each_happens names.UpdateTermThroughHeartbeat =
    happens names.UpdateTermThroughHeartbeat led [] (Rollback 0 1 (now led 1) (at 1 1) ∷ Back 0 (at 1 1) ∷ Lose 1 ∷ []) (Raise 0 2) at_led may_turn (keeps_all turns refl) refl refl
each_happens names.RollbackOplog =
    happens_some names.RollbackOplog led (Raise 0 2 ∷ []) (Back 0 (at 1 1) ∷ Lose 1 ∷ []) (Rollback 0 1 (now led 1) (at 1 1)) 0 at_led may_turn (keeps_all turns refl) refl (shorter _ _)
each_happens names.Restart = happens names.Restart led (Raise 0 2 ∷ Rollback 0 1 (now led 1) (at 1 1) ∷ []) (Lose 1 ∷ []) (Back 0 (at 1 1)) at_led may_turn (keeps_all turns refl) refl refl
each_happens names.Stepdown = happens names.Stepdown led (Raise 0 2 ∷ Rollback 0 1 (now led 1) (at 1 1) ∷ Back 0 (at 1 1) ∷ []) [] (Lose 1) at_led may_turn (keeps_all turns refl) refl refl
