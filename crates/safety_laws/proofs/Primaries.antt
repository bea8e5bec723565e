-- A node that is primary in a term and leads in it later is primary in it at every place in between.
use Rattle.std.proofs.Common.{◌≡◌, ◌∙◌, ◌⊎◌, ◌≤◌, inl, inr, ap, sym, subst, refl, arith, ℕ, zero, suc, Some, slice_get, List, [], ◌∷◌}
use Rattle.std.proofs.lemmas.Bool.{cases_eq}
use Rattle.std.proofs.lemmas.Option.{same_Some}
use Rattle.set_model.specs.declared.command.Event.{Event}
use Rattle.set_model.specs.declared.role.Role.TheVariants as roles
use Rattle.set_model.specs.Limits.{IsRun}
use Rattle.set_model.specs.Node.{Node}
use Rattle.set_model.specs.Run.{Sizes, AreSizes, world_at}
use Rattle.set_model.specs.Safety as safety
use Rattle.set_model.specs.World.{World, step}
use Rattle.commit_machine.specs.Nodes.{Secondary, Candidate, Primary, Snapshot, Leads, State, Was, now}
use Rattle.commit_machine.specs.Machine.{Action, actor, before, actor_after, after, IsAllowed, AreAllowed, run}
use Rattle.commit_machine.proofs.Facts.{Invariant}
use Rattle.commit_machine.proofs.Growth.{now_was, now_actor, now_other, was_before}
use Rattle.commit_machine.proofs.Keeps.{keeps}
use Rattle.safety_laws.specs.Leaders.{PrimariesStay}
use Rattle.safety_laws.proofs.Counted.{primary_role}
use Rattle.safety_laws.proofs.Frame.{RowsTied, DeliveriesTied, Goes, IsMove}
use Rattle.safety_laws.proofs.Leading.{led_before, not_secondary, not_candidate}
use Rattle.safety_laws.proofs.Rel.{role_of, snapshot_of}
use Rattle.safety_laws.proofs.Runs.{state_of, next_of, kept_of, now_of, had_of}
use Rattle.safety_laws.proofs.Steps.{leads_of}
use Rattle.safety_laws.proofs.WrittenEntries.{leading_of, now_is, step_plain, there_before}

-- ---- the actions of an event

-- a primary that leads after an action is primary still
next_primary : (state : State) (action : Action) → IsAllowed state action → (before state action).role ≡ Primary → Leads (actor_after state action) → (actor_after state action).role ≡ Primary
next_primary state (Action.Raise node term) may role leads = absurd (not_secondary Secondary refl leads)
next_primary state (Action.Campaign node) may role leads = absurd (not_candidate Candidate refl leads)
next_primary state (Action.Grant node candidate shown) may role leads = absurd (not_secondary Secondary refl leads)
next_primary state (Action.Win node) may role leads = let other : (now state node).role ≡ Candidate = may.role in absurd (cc (role, other))
next_primary state (Action.Drain node) may role leads = refl
next_primary state (Action.Lose node) may role leads = absurd (not_secondary Secondary refl leads)
next_primary state (Action.Append node entry) may role leads = role
next_primary state (Action.Take node source shown many) may role leads = role
next_primary state (Action.Flush node point) may role leads = role
next_primary state (Action.Back node commit) may role leads = absurd (not_secondary Secondary refl leads)
next_primary state (Action.Rollback node source shown point) may role leads = role
next_primary state (Action.Evaluate node point) may role leads = role
next_primary state (Action.Learn node source shown) may role leads = role
next_primary state (Action.Install node source shown) may role leads = role
next_primary state (Action.Reconfig node version voters) may role leads = role
next_primary state (Action.Send node) may role leads = role

-- and after many, where it leads in the same term
still_primary : (state : State) (actions : List Action) → Invariant state → AreAllowed state actions → (n : ℕ) → (now state n).role ≡ Primary → Leads (now (run state actions) n)
    → (now state n).term ≡ (now (run state actions) n).term → (now (run state actions) n).role ≡ Primary
still_primary state [] kept allowed n role leads same = role
still_primary state (action ∷ actions) kept allowed n role leads same =
    still_primary (after state action) actions kept_next allowed.1 n (next (cases_eq (actor action) n)) leads (sym mid.1 ∙ same)
  where
    kept_next : Invariant (after state action)
    kept_next = keeps state action allowed.0 kept

    mid : Leads (now (after state action) n) × ((now state n).term ≡ (now (after state action) n).term)
    mid = led_before (after state action) actions kept_next allowed.1 n (now state n) (was_before state action n (now state n) (now_was state n)) (inr role) leads same

    next : (actor action ≡ n) ⊎ (actor action ≡ n → ⊥) → (now (after state action) n).role ≡ Primary
    next (inr other) = ap (λ (x : Snapshot). x.role) (now_other state action n other) ∙ role
    next (inl own) =
        let here : now (after state action) n ≡ actor_after state action = ap (now (after state action)) (sym own) ∙ now_actor state action in
        ap (λ (x : Snapshot). x.role) here
        ∙ next_primary state action allowed.0 (ap (λ m. (now state m).role) own ∙ role) (subst (λ x. Leads x) here mid.0)

-- ---- an event

module _ (rows_tied : RowsTied) (deliveries_tied : DeliveriesTied) (sizes : Sizes) (events : List Event) (are : AreSizes sizes) (is : IsRun sizes events) where
  -- it led in the term as the event came, and is primary after it where it was before
  abbrev LedOn : ℕ → ℕ → ℕ → Node → Type 0
  LedOn place m term cur = (old : Node) × safety.Leads sizes events place m term old × (old.role ≡ roles.Primary → cur.role ≡ roles.Primary)

  -- what had led in a term by then, and leads in it after the event
  module _ (place m term : ℕ) (y : Snapshot) (was : Was (state_of rows_tied deliveries_tied sizes events are is place) m y) (led : Leads y) (y_term : y.term ≡ term)
      (cur : Node) (leads : safety.Leads sizes events (suc place) m term cur) where
    same_world : world_at sizes events (suc place) ≡ world_at sizes events place → LedOn place m term cur
    same_world same = (
      cur,
      record {
        at = record { there = subst (λ (w : World). slice_get w.nodes m ≡ Some cur) same leads.at.there; up = leads.at.up };
        term_is = leads.term_is;
        role = leads.role;
      },
      λ primary. primary,
    )

    moved : (event : Event) → world_at sizes events (suc place) ≡ (step (world_at sizes events place) event).world
        → (goes : Goes (world_at sizes events place) (state_of rows_tied deliveries_tied sizes events are is place) (step (world_at sizes events place) event).world)
        → IsMove (world_at sizes events place) (step (world_at sizes events place) event).world goes.actions → LedOn place m term cur
    moved event new_is goes move = (old.0, record { at = old_at; term_is = old_term; role = leading_of old.0.role (subst (λ x. Leads x) old_is led_then.0) }, primary)
      where
        there : slice_get (step (world_at sizes events place) event).world.nodes m ≡ Some cur
        there = subst (λ (w : World). slice_get w.nodes m ≡ Some cur) new_is leads.at.there

        old : (n : Node) × (slice_get (world_at sizes events place).nodes m ≡ Some n)
        old = there_before (world_at sizes events place) (step (world_at sizes events place) event).world move.number move.outcome.node move.nodes move.old move.there m cur there

        old_at : safety.IsAt sizes events place m old.0
        old_at = record { there = old.1; up = ((step_plain (world_at sizes events place) event).stays m old.0 cur old.1 there leads.at.up leads.role).0 }

        kept : Invariant (state_of rows_tied deliveries_tied sizes events are is place)
        kept = kept_of rows_tied deliveries_tied sizes events are is place

        old_is : now (state_of rows_tied deliveries_tied sizes events are is place) m ≡ snapshot_of old.0
        old_is = now_of rows_tied deliveries_tied sizes events are is place m old.0 old_at

        cur_is : now (run (state_of rows_tied deliveries_tied sizes events are is place) goes.actions) m ≡ snapshot_of cur
        cur_is = now_is (step (world_at sizes events place) event).world (run (state_of rows_tied deliveries_tied sizes events are is place) goes.actions) goes.rel m cur there leads.at.up

        leads_now : Leads (now (run (state_of rows_tied deliveries_tied sizes events are is place) goes.actions) m)
        leads_now = subst (λ x. Leads x) (sym cur_is) (leads_of cur.role leads.role)

        cur_term : term ≡ (now (run (state_of rows_tied deliveries_tied sizes events are is place) goes.actions) m).term
        cur_term = sym leads.term_is ∙ ap (λ (x : Snapshot). x.term) (sym cur_is)

        led_then : Leads (now (state_of rows_tied deliveries_tied sizes events are is place) m) × (y.term ≡ (now (state_of rows_tied deliveries_tied sizes events are is place) m).term)
        led_then = led_before (state_of rows_tied deliveries_tied sizes events are is place) goes.actions kept goes.allowed m y was led leads_now (y_term ∙ cur_term)

        old_term : old.0.term ≡ term
        old_term = ap (λ (x : Snapshot). x.term) (sym old_is) ∙ sym led_then.1 ∙ y_term

        primary : old.0.role ≡ roles.Primary → cur.role ≡ roles.Primary
        primary role = primary_role cur.role
            (ap (λ (x : Snapshot). x.role) (sym cur_is)
            ∙ still_primary (state_of rows_tied deliveries_tied sizes events are is place) goes.actions kept goes.allowed m
            (ap (λ (x : Snapshot). x.role) old_is ∙ ap role_of role) leads_now (sym led_then.1 ∙ y_term ∙ cur_term))

    led_on : LedOn place m term cur
    led_on = elim (next_of rows_tied deliveries_tied sizes events are is place) [
      | inl same ↦ same_world same
      | inr next ↦ elim next.goes.moved [
        | inl none ↦ same_world (next.new_is ∙ none.1)
        | inr move ↦ moved next.event next.new_is next.goes move
      ]
    ]

  -- ---- many events

  link : (i place m term : ℕ) (old cur : Node) → i ≤ place → safety.Leads sizes events i m term old → safety.Leads sizes events (suc place) m term cur → LedOn place m term cur
  link i place m term old cur order one two =
      led_on place m term (snapshot_of old) (had_of rows_tied deliveries_tied sizes events are is i place m old one.at order) (leads_of old.role one.role) one.term_is cur two

  led_between : (k i j m term : ℕ) (old new : Node) → i ≤ j → j ≤ k → safety.Leads sizes events i m term old → safety.Leads sizes events k m term new
      → (node : Node) × safety.Leads sizes events j m term node
  led_between zero i j m term old new first second one two =
      let same : 0 ≡ j = omega (arith, second) in (new, subst (λ p. safety.Leads sizes events p m term new) same two)
  led_between (suc k) i j m term old new first second one two = elim (cases_eq (suc k) j) [
    | inl same ↦ (new, subst (λ p. safety.Leads sizes events p m term new) same two)
    | inr other ↦
        let before : LedOn k m term new = link i k m term old new (omega (arith, first, second, other)) one two in
        led_between k i j m term old before.0 first (omega (arith, second, other)) one before.1
  ]

  same_role : (i m term : ℕ) (old new : Node) → safety.Leads sizes events i m term old → safety.Leads sizes events i m term new → old.role ≡ roles.Primary → new.role ≡ roles.Primary
  same_role i m term old new one two role = ap (λ (n : Node). n.role) (same_Some new old (sym two.at.there ∙ one.at.there)) ∙ role

  primary_on : (j i m term : ℕ) (old new : Node) → i ≤ j → safety.Leads sizes events i m term old → old.role ≡ roles.Primary → safety.Leads sizes events j m term new → new.role ≡ roles.Primary
  primary_on zero i m term old new order one role two =
      let same : i ≡ 0 = omega (arith, order) in same_role 0 m term old new (subst (λ p. safety.Leads sizes events p m term old) same one) two role
  primary_on (suc j) i m term old new order one role two = elim (cases_eq i (suc j)) [
    | inl same ↦ same_role (suc j) m term old new (subst (λ p. safety.Leads sizes events p m term old) same one) two role
    | inr other ↦
        let before : LedOn j m term new = link i j m term old new (omega (arith, order, other)) one two in
        before.2 (primary_on j i m term old before.0 (omega (arith, order, other)) one role before.1)
  ]

  pub primaries_stay : PrimariesStay sizes events
  primaries_stay i j k m term old new first second one role two =
      let node : (n : Node) × safety.Leads sizes events j m term n = led_between k i j m term old new first second one two in
      (node.0, node.1, primary_on j i m term old node.0 first one role node.1)
