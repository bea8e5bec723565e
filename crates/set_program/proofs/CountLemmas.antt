-- What the disks of one node went through, event by event.
use Rattle.std.proofs.Common.{◌≡◌, ◌∙◌, ◌<◌, ◌≤◌, ◌+◌, ◌*◌, ◌==◌, ◌&&◌, ◌⊎◌, inl, inr, ap, sym, subst, refl, arith, eq-eqb, ne_eqb, ℕ, zero, suc, Bool, true, false, Option, None, Some, IsSome, List, [], ◌∷◌, ◌++◌, fold, take, slice_get, slice_set, if◌then◌else◌}
use Rattle.std.specs.Prelude.{◌≢◌, ◌-◌, ◌^◌, is_some, min, nat_le}
use Rattle.std.proofs.lemmas.Bool.{and_parts, cases_Bool, cases_order, eqb-true, leb-false, leb-true}
use Rattle.std.proofs.lemmas.Option.{same_Some}
use Rattle.rs_disk.specs.Orders.{Orders}
use Rattle.rs_disk.specs.State.{State}
use Rattle.set_model.specs.declared.command.Command.{Command}
use Rattle.set_model.specs.declared.command.Command.TheVariants as commands
use Rattle.set_model.specs.declared.command.DiskName.{DiskName}
use Rattle.set_model.specs.declared.command.DiskName.TheVariants.{Journal, Checkpoint}
use Rattle.set_model.specs.declared.command.Event.{Event}
use Rattle.set_model.specs.declared.reply.Refusal.TheVariants.{DiskFailed}
use Rattle.set_model.specs.declared.reply.Reply.{Reply}
use Rattle.set_model.specs.declared.reply.Reply.TheVariants.{Refused}
use Rattle.set_model.specs.Run.{Run, after}
use Rattle.set_model.specs.World.{World, Task, acts, takes, nothing, actor, is_delivery, step, task, touched_node}
use Rattle.node_core.specs.Acting.{DisksActed, DisksLeft, RunsWithoutOrders, orders_after}
use Rattle.node_core.proofs.PuttingLemmas.{left_runs, runs_none, runs_then}
use Rattle.safety_laws.proofs.QuietSteps.{failed_law}
use Rattle.set_world.specs.Disks.{AtTouchedNode, DisksStep, DisksTouched, DisksUndone, OneChanged}
use Rattle.set_world.specs.Went.{AllUndone, DisksPlay, DisksRun}
use Rattle.set_world.proofs.DiskLemmas.{delivered_disks}
use Rattle.set_program.specs.Counts.{FailedAtLeast, EitherFaultCounted, OrdersAre, failures_at, orders_since}

-- ---- lists

-- what stands in a list that was written at a place
read_after : {A : Type 0} (xs : List A) (n : ℕ) (x y : A) → slice_get xs n ≡ Some y
    → (slice_get (slice_set xs n x) n ≡ Some x) × ((m : ℕ) → n ≢ m → slice_get (slice_set xs n x) m ≡ slice_get xs m)
read_after [] n x y there = absurd (cc there)
read_after (z ∷ xs) zero x y there = (refl, others)
  where
    others : (m : ℕ) → zero ≢ m → slice_get (x ∷ xs) m ≡ slice_get (z ∷ xs) m
    others zero other = absurd (other refl)
    others (suc m) other = refl
read_after (z ∷ xs) (suc n) x y there = ((read_after xs n x y there).0, others (read_after xs n x y there).1)
  where
    others : ((m : ℕ) → n ≢ m → slice_get (slice_set xs n x) m ≡ slice_get xs m) → (m : ℕ) → suc n ≢ m → slice_get (z ∷ slice_set xs n x) m ≡ slice_get (z ∷ xs) m
    others rest zero other = refl
    others rest (suc m) other = rest m (λ same. other (ap suc same))

pub apart : (a b : ℕ) → (a < b) ⊎ (b < a) → a ≢ b
apart a b (inl less) same = omega (arith, less, same)
apart a b (inr more) same = omega (arith, more, same)

-- ---- one node's disks, across an event

-- the event touches the node, or it leaves its disks as they are
abbrev pub NodeStep : ℕ → World → Event → State → State → State → State → Type 0
NodeStep number world event j j' c c' =
    ((touched_node world event.command ≡ number) × DisksActed event.command (step world event).reply (IsSome event.failed) j j' c c')
    ⊎ ((touched_node world event.command ≢ number) × (j' ≡ j) × (c' ≡ c))

-- before, between and after the events commands that weren't done may have used the disks
abbrev pub NodePlay : ℕ → World → List Event → State → State → State → State → Type 0
NodePlay number world [] j j' c c' = RunsWithoutOrders ⊥ j j' c c'
NodePlay number world (event ∷ later) j j' c c' =
    (jb : State) × (cb : State) × (jm : State) × (cm : State) × RunsWithoutOrders ⊥ j jb c cb
    × NodeStep number world event jb jm cb cm × NodePlay number (step world event).world later jm j' cm c'

-- the disks of a node as they stand in a list
pub record NodeHas {D : Type 0} (state : D → State) (number : ℕ) (disks : List D) (j c : State) : Type 0 where
  pub journal : D
  pub checkpoints : D
  pub journal_at : slice_get disks (2 * number) ≡ Some journal
  pub checkpoints_at : slice_get disks (2 * number + 1) ≡ Some checkpoints
  pub journal_is : state journal ≡ j
  pub checkpoints_is : state checkpoints ≡ c

-- of one node's disks the change is theirs, and those of the others stay
module _ {D : Type 0} (state : D → State) (Changed : State → State → State → State → Type 0) (touched number : ℕ) (old new : List D) (j c : State) (one : OneChanged state Changed touched old new) (has : NodeHas state number old j c) where
  abbrev between : List D
  between = slice_set old (2 * touched) one.journal'

  checkpoints_there : slice_get between (2 * touched + 1) ≡ Some one.checkpoints
  checkpoints_there = (read_after old (2 * touched) one.journal' one.journal one.journal_at).1 (2 * touched + 1) (λ same. omega (arith, same)) ∙ one.checkpoints_at

  pub changed_here : touched ≡ number → (j' : State) × (c' : State) × NodeHas state number new j' c' × Changed j j' c c'
  changed_here same = (
    state one.journal',
    state one.checkpoints',
    record {
      journal = one.journal';
      checkpoints = one.checkpoints';
      journal_at = subst (λ n. slice_get new (2 * n) ≡ Some one.journal') same
          (ap (λ l. slice_get l (2 * touched)) one.disks
          ∙ (read_after between (2 * touched + 1) one.checkpoints' one.checkpoints checkpoints_there).1 (2 * touched) (λ is. omega (arith, is))
          ∙ (read_after old (2 * touched) one.journal' one.journal one.journal_at).0);
      checkpoints_at = subst (λ n. slice_get new (2 * n + 1) ≡ Some one.checkpoints') same
          (ap (λ l. slice_get l (2 * touched + 1)) one.disks ∙ (read_after between (2 * touched + 1) one.checkpoints' one.checkpoints checkpoints_there).0);
      journal_is = refl;
      checkpoints_is = refl;
    },
    subst (λ s. Changed s (state one.journal') c (state one.checkpoints')) (ap state journal_same ∙ has.journal_is)
        (subst (λ s. Changed (state one.journal) (state one.journal') s (state one.checkpoints')) (ap state checkpoints_same ∙ has.checkpoints_is) one.changed),
  )
    where
      journal_same : one.journal ≡ has.journal
      journal_same = same_Some one.journal has.journal (sym one.journal_at ∙ ap (λ n. slice_get old (2 * n)) same ∙ has.journal_at)

      checkpoints_same : one.checkpoints ≡ has.checkpoints
      checkpoints_same = same_Some one.checkpoints has.checkpoints (sym one.checkpoints_at ∙ ap (λ n. slice_get old (2 * n + 1)) same ∙ has.checkpoints_at)

  pub unchanged_there : touched ≢ number → NodeHas state number new j c
  unchanged_there other = record {
    journal = has.journal;
    checkpoints = has.checkpoints;
    journal_at = ap (λ l. slice_get l (2 * number)) one.disks
        ∙ (read_after between (2 * touched + 1) one.checkpoints' one.checkpoints checkpoints_there).1 (2 * number) (λ same. omega (arith, same))
        ∙ (read_after old (2 * touched) one.journal' one.journal one.journal_at).1 (2 * number) (λ same. other (omega (arith, same)))
        ∙ has.journal_at;
    checkpoints_at = ap (λ l. slice_get l (2 * number + 1)) one.disks
        ∙ (read_after between (2 * touched + 1) one.checkpoints' one.checkpoints checkpoints_there).1 (2 * number + 1) (λ same. other (omega (arith, same)))
        ∙ (read_after old (2 * touched) one.journal' one.journal one.journal_at).1 (2 * number + 1) (λ same. omega (arith, same))
        ∙ has.checkpoints_at;
    journal_is = has.journal_is;
    checkpoints_is = has.checkpoints_is;
  }

-- ---- an event that touches no node

no_message : (world : World) (command : Command) → task world command ≡ nothing → is_delivery command ≡ true
no_message world (commands.Deliver message) none = refl
no_message world (commands.DeliverLatest from to) none = refl
no_message world command none = absurd (cc none)

no_faults : (failed : Option ℕ) (j c : State) → failed ≡ None → RunsWithoutOrders (IsSome failed) j j c c
no_faults failed j c none = record {
  fails = record {
    journal_faults = omega arith;
    checkpoint_faults = omega arith;
    cause = λ fault. absurd (cc (fault, none));
    only_armed = λ fault steady also. absurd (cc (fault, none));
    journal_steady = λ steady. steady;
    checkpoint_steady = λ steady. steady;
  };
  journal_armed = λ armed. armed;
  checkpoints_armed = λ armed. armed;
  journal_orders = refl;
  checkpoints_orders = refl;
}

-- ---- an event

module _ {D : Type 0} (state : D → State) (world : World) (event : Event) (old new : List D) (number : ℕ) (j c : State) (has : NodeHas state number old j c) where
  abbrev pub NodeSteps : Type 0
  NodeSteps = (j' : State) × (c' : State) × NodeHas state number new j' c' × NodeStep number world event j j' c c'

  -- at the node that acts
  by_one : (touched : ℕ) → touched_node world event.command ≡ touched
      → OneChanged state (DisksTouched world event) touched old new → NodeSteps
  by_one touched is one = elim (cases_order touched number) [
    | inl same ↦
        let here = changed_here state (DisksTouched world event) touched number old new j c one has same in
        (here.0, here.1, here.2, inl (is ∙ same, here.3.did.acted))
    | inr other ↦ (j, c, unchanged_there state (DisksTouched world event) touched number old new j c one has (apart touched number other), inr (λ same. apart touched number other (sym is ∙ same), refl, refl))
  ]

  -- at none
  by_none : task world event.command ≡ nothing → event.failed ≡ None → new ≡ old → NodeSteps
  by_none none failed same = (
    j,
    c,
    subst (λ l. NodeHas state number l j c) (sym same) has,
    elim (cases_order (touched_node world event.command) number) [
      | inl here ↦ inl (here, delivered_disks event.command (step world event).reply (IsSome event.failed) j j c c (no_message world event.command none) (no_faults event.failed j c failed))
      | inr other ↦ inr (apart (touched_node world event.command) number other, refl, refl)
    ],
  )

  by_task : (what : Task) → task world event.command ≡ what
      → AtTouchedNode what event.failed old new (λ n. OneChanged state (DisksTouched world event) n old new) → NodeSteps
  by_task (acts touched) is one = by_one touched (ap actor is) one
  by_task (takes message) is one = by_one message.to (ap actor is) one
  by_task nothing is none = by_none is none.0 none.1

  pub at_node : DisksStep state world event old new → NodeSteps
  at_node changed = by_task (task world event.command) refl changed

-- ---- commands that weren't done

module _ {D : Type 0} (state : D → State) (command : Command) (last left : List D) (number : ℕ) (j c : State) (has : NodeHas state number last j c) where
  abbrev pub RunsOn : Type 0
  RunsOn = (j' : State) × (c' : State) × NodeHas state number left j' c' × RunsWithoutOrders ⊥ j j' c c'

  left_alone : left ≡ last → RunsOn
  left_alone same = (j, c, subst (λ l. NodeHas state number l j c) (sym same) has, runs_none j c)

  undone_by_one : (touched : ℕ) → OneChanged state (DisksLeft command) touched last left → RunsOn
  undone_by_one touched one = elim (cases_order touched number) [
    | inl same ↦
        let here = changed_here state (DisksLeft command) touched number last left j c one has same in
        (here.0, here.1, here.2, left_runs command j here.0 c here.1 here.3)
    | inr other ↦ (j, c, unchanged_there state (DisksLeft command) touched number last left j c one has (apart touched number other), runs_none j c)
  ]

  undone_by_task : (what : Task) → AtTouchedNode what None last left (λ n. OneChanged state (DisksLeft command) n last left) → RunsOn
  undone_by_task (acts touched) one = undone_by_one touched one
  undone_by_task (takes message) one = undone_by_one message.to one
  undone_by_task nothing none = left_alone none.1

  pub undone_there : (world : World) → DisksUndone state world command last left → RunsOn
  undone_there world (inl same) = left_alone same
  undone_there world (inr used) = undone_by_task (task world command) used

two_runs : (j0 j1 j2 c0 c1 c2 : State) → RunsWithoutOrders ⊥ j0 j1 c0 c1 → RunsWithoutOrders ⊥ j1 j2 c1 c2 → RunsWithoutOrders ⊥ j0 j2 c0 c2
two_runs j0 j1 j2 c0 c1 c2 first second = runs_then j0 j1 j2 c0 c1 c2 (λ none. absurd none) first second

all_undone : {D : Type 0} (state : D → State) (world : World) (commands : List Command) (old new : List D) (number : ℕ) (j c : State) → NodeHas state number old j c → AllUndone state world commands old new
    → (j' : State) × (c' : State) × NodeHas state number new j' c' × RunsWithoutOrders ⊥ j j' c c'
all_undone state world [] old new number j c has same = (j, c, subst (λ l. NodeHas state number l j c) (sym same) has, runs_none j c)
all_undone state world (command ∷ more) old new number j c has (between, fits, undone, rest) =
    let one = undone_there state command old between number j c has world undone in
    let others = all_undone state world more between new number one.0 one.1 one.2 rest in
    (others.0, others.1, others.2, two_runs j one.0 others.0 c one.1 others.1 one.3 others.3)

-- ---- a whole run

abbrev pub PlaysOn : {D : Type 0} → (D → State) → World → List Event → List D → ℕ → State → State → Type 0
PlaysOn state world events new number j c = (j' : State) × (c' : State) × NodeHas state number new j' c' × NodePlay number world events j j' c c'

pub node_played : {D : Type 0} (state : D → State) (world : World) (events : List Event) (old new : List D) (number : ℕ) (j c : State) → NodeHas state number old j c → DisksPlay state world events old new
    → PlaysOn state world events new number j c
node_played state world [] old new number j c has same = (j, c, subst (λ l. NodeHas state number l j c) (sym same) has, runs_none j c)
node_played state world (event ∷ later) old new number j c has played =
    let one = at_node state world event old played.0 number j c has played.1 in
    let rest = node_played state (step world event).world later played.0 new number one.0 one.1 one.2 played.2 in
    (rest.0, rest.1, rest.2, (j, c, one.0, one.1, runs_none j c, one.3, rest.3))

pub node_run : {D : Type 0} (state : D → State) (world : World) (events : List Event) (old new : List D) (number : ℕ) (j c : State) → NodeHas state number old j c → DisksRun state world events old new
    → PlaysOn state world events new number j c
node_run state world [] old new number j c has (undone, used) = all_undone state world undone old new number j c has used
node_run state world (event ∷ later) old new number j c has (undone, before, tail, used, stepped, rest) =
    let first = all_undone state world undone old before number j c has used in
    let one = at_node state world event before tail number first.0 first.1 first.2 stepped in
    let more = node_run state (step world event).world later tail new number one.0 one.1 one.2 rest in
    (more.0, more.1, more.2, (first.0, first.1, one.0, one.1, first.3, one.3, more.3))

-- such commands before and after
used_before : (number : ℕ) (world : World) (events : List Event) (j0 j j' c0 c c' : State) → RunsWithoutOrders ⊥ j0 j c0 c → NodePlay number world events j j' c c' → NodePlay number world events j0 j' c0 c'
used_before number world [] j0 j j' c0 c c' used played = two_runs j0 j j' c0 c c' used played
used_before number world (event ∷ later) j0 j j' c0 c c' used (jb, cb, jm, cm, between, one, rest) = (jb, cb, jm, cm, two_runs j0 j jb c0 c cb used between, one, rest)

pub used_after : (number : ℕ) (world : World) (events : List Event) (j j' jn c c' cn : State) → NodePlay number world events j j' c c' → RunsWithoutOrders ⊥ j' jn c' cn → NodePlay number world events j jn c cn
used_after number world [] j j' jn c c' cn played used = two_runs j j' jn c c' cn played used
used_after number world (event ∷ later) j j' jn c c' cn (jb, cb, jm, cm, between, one, rest) used =
    (jb, cb, jm, cm, between, one, used_after number (step world event).world later jm j' jn cm c' cn rest used)

-- more events
pub plays_after : (number : ℕ) (so_far : Run) (events more : List Event) (j jm j' c cm c' : State) → NodePlay number so_far.world events j jm c cm → NodePlay number (fold after so_far events).world more jm j' cm c'
    → NodePlay number so_far.world (events ++ more) j j' c c'
plays_after number so_far [] more j jm j' c cm c' used rest = used_before number so_far.world more j jm j' c cm c' used rest
plays_after number so_far (event ∷ events) more j jm j' c cm c' (jb, cb, ja, ca, between, one, later) rest =
    (jb, cb, ja, ca, between, one, plays_after number (after so_far event) events more ja jm j' ca cm c' later rest)

-- ---- counts

pub step_rises : (number : ℕ) (world : World) (event : Event) (j j' c c' : State) → NodeStep number world event j j' c c' → (j.faults ≤ j'.faults) × (c.faults ≤ c'.faults)
step_rises number world event j j' c c' (inl acted) = (acted.1.fails.journal_faults, acted.1.fails.checkpoint_faults)
step_rises number world event j j' c c' (inr same) = (
  let one : j'.faults ≡ j.faults = ap (λ (s : State). s.faults) same.1 in omega (arith, one),
  let one : c'.faults ≡ c.faults = ap (λ (s : State). s.faults) same.2 in omega (arith, one),
)

pub play_rises : (number : ℕ) (world : World) (events : List Event) (j j' c c' : State) → NodePlay number world events j j' c c' → (j.faults ≤ j'.faults) × (c.faults ≤ c'.faults)
play_rises number world [] j j' c c' used = (used.fails.journal_faults, used.fails.checkpoint_faults)
play_rises number world (event ∷ later) j j' c c' (jb, cb, jm, cm, used, one, rest) =
    let first = step_rises number world event jb jm cb cm one in
    let second = play_rises number (step world event).world later jm j' cm c' rest in
    (omega (arith, used.fails.journal_faults, first.0, second.0), omega (arith, used.fails.checkpoint_faults, first.1, second.1))

-- a count rises, or stands at its last value
rose_by_one : (most j jm c cm : ℕ) → (min (j + 1) most ≤ jm) ⊎ (min (c + 1) most ≤ cm) → j ≤ jm → c ≤ cm → (1 + j + c ≤ jm + cm) ⊎ (most ≤ jm) ⊎ (most ≤ cm)
rose_by_one most j jm c cm (inl rose) first second = elim (cases_Bool (nat_le most jm)) [
  | inl full ↦ inr (inl (leb-true most jm full))
  | inr below ↦ inl (omega (arith, leb-false most jm below, rose, first, second))
]
rose_by_one most j jm c cm (inr rose) first second = elim (cases_Bool (nat_le most cm)) [
  | inl full ↦ inr (inr (leb-true most cm full))
  | inr below ↦ inl (omega (arith, leb-false most cm below, rose, first, second))
]

sums : (most one count j jm j' c cm c' : ℕ) → (one + j + c ≤ jm + cm) ⊎ (most ≤ jm) ⊎ (most ≤ cm) → jm ≤ j' → cm ≤ c' → (count + jm + cm ≤ j' + c') ⊎ (most ≤ j') ⊎ (most ≤ c')
    → ((one + count) + j + c ≤ j' + c') ⊎ (most ≤ j') ⊎ (most ≤ c')
sums most one count j jm j' c cm c' (inr (inl full)) first second rest = inr (inl (omega (arith, full, first)))
sums most one count j jm j' c cm c' (inr (inr full)) first second rest = inr (inr (omega (arith, full, second)))
sums most one count j jm j' c cm c' (inl sum) first second (inr full) = inr full
sums most one count j jm j' c cm c' (inl sum) first second (inl rest) = inl (omega (arith, sum, rest))

-- a store of the node that failed raised one of its counts
failed_here : (number : ℕ) (world : World) (event : Event) (j j' c c' : State) → NodeStep number world event j j' c c' → (is_some event.failed && touched_node world event.command == number) ≡ true → EitherFaultCounted j j' c c'
failed_here number world event j j' c c' (inl acted) is = acted.1.fails.cause (and_parts (is_some event.failed) (touched_node world event.command == number) is).0
failed_here number world event j j' c c' (inr same) is = absurd (same.0 (eqb-true (touched_node world event.command) number (and_parts (is_some event.failed) (touched_node world event.command == number) is).1))

pub rose_wider : (jo j j' jn co c c' cn : State) → jo.faults ≤ j.faults → co.faults ≤ c.faults → j'.faults ≤ jn.faults → c'.faults ≤ cn.faults
    → EitherFaultCounted j j' c c' → EitherFaultCounted jo jn co cn
rose_wider jo j j' jn co c c' cn one two three four (inl rose) = inl (omega (arith, one, three, rose))
rose_wider jo j j' jn co c c' cn one two three four (inr rose) = inr (omega (arith, two, four, rose))

pub failures_counted : (number : ℕ) (world : World) (events : List Event) (j j' c c' : State) → NodePlay number world events j j' c c' → FailedAtLeast (failures_at number world events) j j' c c'
failures_counted number world [] j j' c c' same =
    inl (let rises = play_rises number world [] j j' c c' same in omega (arith, rises.0, rises.1))
failures_counted number world (event ∷ later) j j' c c' (jb, cb, jm, cm, used, one, rest) =
    by_test (failures_counted number (step world event).world later jm j' cm c' rest) (is_some event.failed && touched_node world event.command == number) refl
  where
    first : (j.faults ≤ jm.faults) × (c.faults ≤ cm.faults)
    first =
        let stepped = step_rises number world event jb jm cb cm one in
        (omega (arith, used.fails.journal_faults, stepped.0), omega (arith, used.fails.checkpoint_faults, stepped.1))

    rose : (is_some event.failed && touched_node world event.command == number) ≡ true → EitherFaultCounted j jm c cm
    rose is = rose_wider j jb jm jm c cb cm cm used.fails.journal_faults used.fails.checkpoint_faults (omega arith) (omega arith) (failed_here number world event jb jm cb cm one is)

    tail : (jm.faults ≤ j'.faults) × (cm.faults ≤ c'.faults)
    tail = play_rises number (step world event).world later jm j' cm c' rest

    by_test : FailedAtLeast (failures_at number (step world event).world later) jm j' cm c' → (b : Bool) → (is_some event.failed && touched_node world event.command == number) ≡ b → FailedAtLeast ((if b then 1 else 0) + failures_at number (step world event).world later) j j' c c'
    by_test again true is =
        sums (2 ^ 64 - 1) 1 (failures_at number (step world event).world later) j.faults jm.faults j'.faults c.faults cm.faults c'.faults
        (rose_by_one (2 ^ 64 - 1) j.faults jm.faults c.faults cm.faults (rose is) first.0 first.1) tail.0 tail.1 again
    by_test again false is =
        sums (2 ^ 64 - 1) 0 (failures_at number (step world event).world later) j.faults jm.faults j'.faults c.faults cm.faults c'.faults
        (inl (omega (arith, first.0, first.1))) tail.0 tail.1 again

-- the counts before and after are further apart
pub failed_wider : (count : ℕ) (jo j j' jn co c c' cn : State) → jo.faults ≤ j.faults → co.faults ≤ c.faults → j'.faults ≤ jn.faults → c'.faults ≤ cn.faults
    → FailedAtLeast count j j' c c' → FailedAtLeast count jo jn co cn
failed_wider count jo j j' jn co c c' cn one two three four (inl sum) = inl (omega (arith, one, two, three, four, sum))
failed_wider count jo j j' jn co c c' cn one two three four (inr (inl full)) = inr (inl (omega (arith, full, three)))
failed_wider count jo j j' jn co c c' cn one two three four (inr (inr full)) = inr (inr (omega (arith, full, four)))

-- ---- orders

pub orders_told : (number : ℕ) (world : World) (events : List Event) (j j' c c' : State) → NodePlay number world events j j' c c' → OrdersAre number world events j j' c c'
orders_told number world [] j j' c c' used = (used.journal_orders, used.checkpoints_orders)
orders_told number world (event ∷ later) j j' c c' (jb, cb, jm, cm, used, one, rest) =
    let again = orders_told number (step world event).world later jm j' cm c' rest in
    let first = first_orders one in
    (again.0 ∙ ap (orders_since Journal number (step world event).world later) first.0, again.1 ∙ ap (orders_since Checkpoint number (step world event).world later) first.1)
  where
    next : DiskName → Orders → Bool → Orders
    next name orders b = if b then orders_after name event.command (step world event).reply orders else orders

    first_orders : NodeStep number world event jb jm cb cm
        → (jm.orders ≡ (if touched_node world event.command == number then orders_after Journal event.command (step world event).reply j.orders else j.orders))
        × (cm.orders ≡ (if touched_node world event.command == number then orders_after Checkpoint event.command (step world event).reply c.orders else c.orders))
    first_orders (inl acted) =
        let here = eq-eqb (touched_node world event.command) number acted.0 in (
          acted.1.journal_orders ∙ ap (next Journal jb.orders) (sym here) ∙ ap (λ o. next Journal o (touched_node world event.command == number)) used.journal_orders,
          acted.1.checkpoints_orders ∙ ap (next Checkpoint cb.orders) (sym here) ∙ ap (λ o. next Checkpoint o (touched_node world event.command == number)) used.checkpoints_orders,
        )
    first_orders (inr same) =
        let other = ne_eqb (touched_node world event.command) number same.0 in (
          ap (λ (s : State). s.orders) same.1 ∙ ap (next Journal jb.orders) (sym other) ∙ ap (λ o. next Journal o (touched_node world event.command == number)) used.journal_orders,
          ap (λ (s : State). s.orders) same.2 ∙ ap (next Checkpoint cb.orders) (sym other) ∙ ap (λ o. next Checkpoint o (touched_node world event.command == number)) used.checkpoints_orders,
        )

-- ---- refusals

-- the event after a number of others, at the world that it meets
pub record AnswersHere (so_far : Run) (events : List Event) (place number : ℕ) (event : Event) (answer : Reply) : Type 0 where
  pub event_is : slice_get events place ≡ Some event
  pub touches : touched_node (fold after so_far (take place events)).world event.command ≡ number
  pub reply_is : (step (fold after so_far (take place events)).world event).reply ≡ answer

pub one_event_on : (so_far : Run) (first : Event) (events : List Event) (place number : ℕ) (event : Event) (answer : Reply) → AnswersHere so_far (first ∷ events) (suc place) number event answer
    → AnswersHere (after so_far first) events place number event answer
one_event_on so_far first events place number event answer is = record { event_is = is.event_is; touches = is.touches; reply_is = is.reply_is }

pub one_event_back : (so_far : Run) (first : Event) (events : List Event) (place number : ℕ) (event : Event) (answer : Reply) → AnswersHere (after so_far first) events place number event answer
    → AnswersHere so_far (first ∷ events) (suc place) number event answer
one_event_back so_far first events place number event answer is = record { event_is = is.event_is; touches = is.touches; reply_is = is.reply_is }

-- a store failed at the node that touched these disks
pub broke : (number : ℕ) (world : World) (first event : Event) → first ≡ event → touched_node world event.command ≡ number → (step world event).reply ≡ Refused DiskFailed
    → (IsSome first.failed) × (touched_node world first.command ≡ number)
broke number world first event same touches refused = (
  ap is_some (failed_law world first (ap (λ e. (step world e).reply) same ∙ refused)).fails,
  ap (λ (e : Event). touched_node world e.command) same ∙ touches,
)

pub fault_caused : (number : ℕ) (so_far : Run) (events : List Event) (j j' c c' : State) → NodePlay number so_far.world events j j' c c'
    → (place : ℕ) (event : Event) → AnswersHere so_far events place number event (Refused DiskFailed) → EitherFaultCounted j j' c c'
fault_caused number so_far [] j j' c c' same place event is = absurd (cc is.event_is)
fault_caused number so_far (first ∷ later) j j' c c' (jb, cb, jm, cm, used, one, rest) zero event is =
    let tail = play_rises number (step so_far.world first).world later jm j' cm c' rest in
    rose_wider j jb jm j' c cb cm c' used.fails.journal_faults used.fails.checkpoint_faults tail.0 tail.1 (here one)
  where
    failed : (IsSome first.failed) × (touched_node so_far.world first.command ≡ number)
    failed = broke number so_far.world first event (same_Some first event is.event_is) is.touches is.reply_is

    here : NodeStep number so_far.world first jb jm cb cm → EitherFaultCounted jb jm cb cm
    here (inl acted) = acted.1.fails.cause failed.0
    here (inr same) = absurd (same.0 failed.1)
fault_caused number so_far (first ∷ later) j j' c c' (jb, cb, jm, cm, used, one, rest) (suc place) event is =
    let before = step_rises number so_far.world first jb jm cb cm one in
    rose_wider j jm j' j' c cm c' c' (omega (arith, used.fails.journal_faults, before.0)) (omega (arith, used.fails.checkpoint_faults, before.1)) (omega arith) (omega arith)
    (fault_caused number (after so_far first) later jm j' cm c' rest place event (one_event_on so_far first later place number event (Refused DiskFailed) is))
