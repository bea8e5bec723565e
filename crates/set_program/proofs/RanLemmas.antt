-- What the disks of a node went through in a whole run: they were opened, then each event did its part, and maybe commands that
-- weren't done.
use Rattle.std.proofs.Common.{◌≡◌, ◌∙◌, ◌<◌, ◌≤◌, ◌+◌, ◌*◌, ◌&&◌, inl, inr, ap, sym, subst, refl, arith, ℕ, zero, suc, Bool, true, nat_lt, Some, IsTrue, IsSome, List, [], ◌∷◌, Option, String, length, slice_get}
use Rattle.std.specs.Prelude.{All, Ok, Result, Vec}
use Rattle.std.specs.declared.alloc.Global.{Global}
use Rattle.std.proofs.lemmas.Bool.{cases_Bool}
use Rattle.std.proofs.lemmas.Option.{same_Some, slice_get_cases}
use Rattle.rs_disk.specs.State.{State}
use Rattle.set_model.specs.declared.command.Command.{Command}
use Rattle.set_model.specs.declared.command.Command.TheVariants.{DiskFail}
use Rattle.set_model.specs.declared.command.Event.{Event}
use Rattle.set_model.specs.declared.reply.Refusal.TheVariants.{DiskFailed}
use Rattle.set_model.specs.declared.reply.Reply.{Reply}
use Rattle.set_model.specs.declared.reply.Reply.TheVariants.{Armed, Refused}
use Rattle.set_model.specs.Limits.{AllFit, Fits, IsRun, is_for}
use Rattle.set_model.specs.Node.{Node}
use Rattle.set_model.specs.Rows.{row}
use Rattle.set_model.specs.Run.{AreSizes, Run, Sizes, after, opening, run}
use Rattle.set_model.specs.Safety.{Answers, Safe}
use Rattle.set_model.specs.Stores.{done}
use Rattle.set_model.specs.World.{World, Step, acts, step, task, touched_node}
use Rattle.safety_laws.specs.Laws.{InEveryRun}
use Rattle.node_core.specs.Acting.{RunsWithoutOrders, is_disk_fail}
use Rattle.set_world.specs.Disks.{WasUsed, Opens}
use Rattle.set_world.specs.World.{Set}
use Rattle.set_world.proofs.ActingLemmas.{plan_is, step_is}
use Rattle.set_world.proofs.DisksOpenLemmas.{there_too}
use Rattle.set_model.proofs.LimitLemmas.{named}
use Rattle.set_program.specs.Calls.{AsksCheck, Call}
use Rattle.set_program.specs.Counts.{FailedAtLeast, FailuresCount, FaultsAreArmed, FaultsHaveCauses, OfNode, EitherFaultCounted, OrdersAre, OrdersCount, failures_at}
use Rattle.shared_set.specs.declared.attempt.Attempt.{Attempt}
use Rattle.shared_set.specs.Attempts.{done_in}
use Rattle.set_program.specs.Disks.{DisksPlayed, DisksRan, IsUnarmed}
use Rattle.set_program.proofs.TriedLemmas.{attempts_run}
use Rattle.set_program.specs.Headline.{BreaksIn, ComesTo, Ends, LeavesDisks, status_of, status_of_check}
use Rattle.set_program.specs.Orders.{ComesNext}
use Rattle.set_program.specs.Left.{IfSet, disks_of}
use Rattle.set_program.specs.Syncing.{IsRunSafely}
use Rattle.set_program.specs.Written.{GoesAsWritten, NoFaultCounted}
use Rattle.trace_check.specs.Ends.{Ends as EndsCheck}
use Rattle.trace_check.specs.declared.stop.CheckStop.{CheckStop}
use Rattle.set_program.specs.declared.stop.Stop.{Stop}
use Rattle.set_program.specs.declared.outcome.Left.{Left}
use Rattle.set_program.specs.declared.outcome.Left.TheVariants.{World as Ran, Parts}
use Rattle.set_program.proofs.CheckLemmas.{no_disk}
use Rattle.set_program.proofs.CopiedLemmas.{copy_failed}
use Rattle.set_program.proofs.EndLemmas.{no_call}
use Rattle.set_program.proofs.OpenLemmas.{disk_failed, unarmed_at}
use Rattle.set_program.proofs.WrittenLemmas.{goes_as_written, nothing_failed}
use Rattle.set_program.proofs.CountLemmas.{AnswersHere, NodeHas, NodePlay, NodeStep, PlaysOn, broke, failed_wider, failures_counted, fault_caused, node_played, node_run, one_event_back, one_event_on, orders_told, plays_after, rose_wider, undone_there, used_after}

-- ---- who armed a disk

pub record AreUnarmed (j c : State) : Type 0 where
  pub journal_steady : IsTrue j.is_steady
  pub checkpoints_steady : IsTrue c.is_steady
  pub journal : ¬ IsTrue j.is_armed
  pub checkpoints : ¬ IsTrue c.is_armed

still_unarmed : (j j' c c' : State) → RunsWithoutOrders ⊥ j j' c c' → AreUnarmed j c → AreUnarmed j' c'
still_unarmed j j' c c' used unarmed = record {
  journal_steady = used.fails.journal_steady unarmed.journal_steady;
  checkpoints_steady = used.fails.checkpoint_steady unarmed.checkpoints_steady;
  journal = λ armed. unarmed.journal (used.journal_armed armed);
  checkpoints = λ armed. unarmed.checkpoints (used.checkpoints_armed armed);
}

-- a disk of a node of the set is always told to fail
told_to_fail : (world : World) (event : Event) → Fits world event → is_disk_fail event.command ≡ true → (step world event).reply ≡ Armed
told_to_fail world event fits fails = go event.command refl fails
  where
    at : (number : ℕ) (command : Command) → event.command ≡ command → task world command ≡ acts number → (node : Node) → slice_get world.nodes number ≡ Some node
        → (step world event).reply ≡ (done (row (length world.nodes) (length world.messages) event.kept node command) event.failed).reply
    at number command is acting node there =
        ap (λ (s : Step). s.reply)
        (step_is world event (acts number) (row (length world.nodes) (length world.messages) event.kept node event.command) (ap (task world) is ∙ acting)
        (plan_is world event (acts number) node (ap (task world) is ∙ acting) there))
        ∙ ap (λ c. (done (row (length world.nodes) (length world.messages) event.kept node c) event.failed).reply) is

    known : (number : ℕ) (others : Bool) (command : Command) → event.command ≡ command → is_for (length world.nodes) command ≡ ((nat_lt number (length world.nodes) && true) && others) → number < length world.nodes
    known number others command is for = named number (length world.nodes) true others (sym for ∙ ap (is_for (length world.nodes)) (sym is) ∙ fits.command)

    go : (command : Command) → event.command ≡ command → is_disk_fail command ≡ true → (step world event).reply ≡ Armed
    go (DiskFail number disk call pick) is told = elim (slice_get_cases world.nodes number).1 [
      | inl found ↦ at number (DiskFail number disk call pick) is refl found.0 found.2
      | inr past ↦ let less : number < length world.nodes = known number _ (DiskFail number disk call pick) is refl in absurd (omega (arith, less, past.0))
    ]
    go command is told = absurd (cc told)

pub armed_before : (number : ℕ) (so_far : Run) (events : List Event) → AllFit so_far.world events → (j j' c c' : State) → NodePlay number so_far.world events j j' c c' → AreUnarmed j c
    → (place : ℕ) (event : Event) → AnswersHere so_far events place number event (Refused DiskFailed)
    → (before : ℕ) × (earlier : Event) × (before < place) × AnswersHere so_far events before number earlier Armed
armed_before number so_far [] fit j j' c c' same unarmed place event is = absurd (cc is.event_is)
armed_before number so_far (first ∷ later) fit j j' c c' (jb, cb, jm, cm, used, one, rest) unarmed zero event is = absurd (never one)
  where
    failed : (IsSome first.failed) × (touched_node so_far.world first.command ≡ number)
    failed = broke number so_far.world first event (same_Some first event is.event_is) is.touches is.reply_is

    unarmed_yet : AreUnarmed jb cb
    unarmed_yet = still_unarmed j jb c cb used unarmed

    never : NodeStep number so_far.world first jb jm cb cm → ⊥
    never (inl acted) = elim (acted.1.fails.only_armed failed.0 unarmed_yet.journal_steady unarmed_yet.checkpoints_steady) [ inl armed ↦ unarmed_yet.journal armed | inr armed ↦ unarmed_yet.checkpoints armed ]
    never (inr same) = same.0 failed.1
armed_before number so_far (first ∷ later) fit j j' c c' (jb, cb, jm, cm, used, one, rest) unarmed (suc place) event is =
    here (λ still. armed_before number (after so_far first) later fit.1 jm j' cm c' rest still place event (one_event_on so_far first later place number event (Refused DiskFailed) is)) one
  where
    unarmed_yet : AreUnarmed jb cb
    unarmed_yet = still_unarmed j jb c cb used unarmed

    on : (AreUnarmed jm cm → (before : ℕ) × (earlier : Event) × (before < place) × AnswersHere (after so_far first) later before number earlier Armed)
        → AreUnarmed jm cm → (before : ℕ) × (earlier : Event) × (before < suc place) × AnswersHere so_far (first ∷ later) before number earlier Armed
    on rest still =
        let found = rest still in
        (suc found.0, found.1, (let less : found.0 < place = found.2 in omega (arith, less)), one_event_back so_far first later found.0 number found.1 Armed found.3)

    here : (AreUnarmed jm cm → (before : ℕ) × (earlier : Event) × (before < place) × AnswersHere (after so_far first) later before number earlier Armed)
        → NodeStep number so_far.world first jb jm cb cm → (before : ℕ) × (earlier : Event) × (before < suc place) × AnswersHere so_far (first ∷ later) before number earlier Armed
    here again (inr same) = on again (subst (λ s. AreUnarmed s cm) (sym same.1) (subst (λ s. AreUnarmed jb s) (sym same.2) unarmed_yet))
    here again (inl acted) = elim (cases_Bool (is_disk_fail first.command)) [
      | inl told ↦ (zero, first, omega arith, record { event_is = refl; touches = acted.0; reply_is = told_to_fail so_far.world first fit.0 told })
      | inr other ↦ on again (record {
        journal_steady = acted.1.fails.journal_steady unarmed_yet.journal_steady;
        checkpoints_steady = acted.1.fails.checkpoint_steady unarmed_yet.checkpoints_steady;
        journal = λ armed. unarmed_yet.journal (acted.1.journal_armed other armed);
        checkpoints = λ armed. unarmed_yet.checkpoints (acted.1.checkpoints_armed other armed);
      })
    ]

-- ---- a node's disks, from those that were handed in to those that are left

pub record NodeRan (number : ℕ) (world : World) (events : List Event) (j j' c c' : State) : Type 0 where
  pub opened_journal : State
  pub opened_checkpoints : State
  pub journal_served : WasUsed j opened_journal
  pub checkpoints_served : WasUsed c opened_checkpoints
  pub played : NodePlay number world events opened_journal j' opened_checkpoints c'

at_all : {A : Type 0} (xs : List A) (i : ℕ) → i < length xs → (x : A) × (slice_get xs i ≡ Some x)
at_all xs i within = elim (slice_get_cases xs i).1 [ inl found ↦ (found.0, found.2) | inr past ↦ absurd (omega (arith, within, past.0)) ]

-- the events, with what wasn't done
abbrev pub RanTo : {D : Type 0} → (D → State) → List D → Set D → Type 0
RanTo state opened set =
    (number : ℕ) (j c : State) → NodeHas state number opened j c → PlaysOn state (opening set.sizes).world set.history set.disks number j c

ran_to : {D : Type 0} (state : D → State) (OutOfMemory : Type 0) (IsNext : ℕ → Command → Type 0) (IsBlock : List Event → List Attempt → Type 0) (opened : List D) (set : Set D)
    → DisksRan state OutOfMemory IsNext IsBlock opened set → RanTo state opened set
ran_to state OutOfMemory IsNext IsBlock opened set (inl played) number j c has = node_played state (opening set.sizes).world set.history opened set.disks number j c has played
ran_to state OutOfMemory IsNext IsBlock opened set (inr (out, inl began)) number j c has =
    let events = node_played state (opening set.sizes).world set.history opened began.last number j c has began.played in
    let tail = undone_there state began.command began.last set.disks number events.0 events.1 events.2 (run set.sizes set.history).world began.undone in
    (tail.0, tail.1, tail.2, used_after number (opening set.sizes).world set.history j events.0 tail.0 c events.1 tail.1 events.3 tail.3)
ran_to state OutOfMemory IsNext IsBlock opened set (inr (out, inr block)) number j c has =
    let before = node_played state (opening set.sizes).world block.earlier opened block.begun number j c has block.played in
    let later = node_run state (run set.sizes block.earlier).world (done_in block.tried) block.begun set.disks number before.0 before.1 before.2
    (attempts_run state (run set.sizes block.earlier).world block.tried block.begun set.disks block.ran) in (
      later.0,
      later.1,
      later.2,
      subst (λ (es : List Event). NodePlay number (opening set.sizes).world es j later.0 c later.1) (sym block.events_are)
          (plays_after number (opening set.sizes) block.earlier (done_in block.tried) j before.0 later.0 c before.1 later.1 before.3 later.3),
    )

pub node_ran : {D : Type 0} (state : D → State) (handed opened : List D) (set : Set D) → Opens state set.sizes.nodes (Ok tt) handed opened → RanTo state opened set → (number : ℕ) → 2 * number + 1 < length handed
    → OfNode state handed set.disks number (NodeRan number (opening set.sizes).world set.history)
node_ran {D} state handed opened set opens ran number within = record {
  journal = journal.0;
  journal' = events.2.journal;
  checkpoints = checkpoints.0;
  checkpoints' = events.2.checkpoints;
  journal_was = journal.1;
  journal_is = events.2.journal_at;
  checkpoints_was = checkpoints.1;
  checkpoints_is = events.2.checkpoints_at;
  so = subst (λ s. NodeRan number (opening set.sizes).world set.history (state journal.0) s (state checkpoints.0) (state events.2.checkpoints)) (sym events.2.journal_is)
      (subst (λ s. NodeRan number (opening set.sizes).world set.history (state journal.0) events.0 (state checkpoints.0) s) (sym events.2.checkpoints_is)
      (record {
        opened_journal = state first.0;
        opened_checkpoints = state second.0;
        journal_served = opens.each (2 * number) journal.0 first.0 journal.1 first.1;
        checkpoints_served = opens.each (2 * number + 1) checkpoints.0 second.0 checkpoints.1 second.1;
        played = events.3;
      }));
}
  where
    journal : (d : D) × (slice_get handed (2 * number) ≡ Some d)
    journal = at_all handed (2 * number) (omega (arith, within))

    checkpoints : (d : D) × (slice_get handed (2 * number + 1) ≡ Some d)
    checkpoints = at_all handed (2 * number + 1) within

    first : (d : D) × (slice_get opened (2 * number) ≡ Some d)
    first = there_too handed opened (2 * number) journal.0 opens.count journal.1

    second : (d : D) × (slice_get opened (2 * number + 1) ≡ Some d)
    second = there_too handed opened (2 * number + 1) checkpoints.0 opens.count checkpoints.1

    events : PlaysOn state (opening set.sizes).world set.history set.disks number (state first.0) (state second.0)
    events = ran number (state first.0) (state second.0)
        (record { journal = first.0; checkpoints = second.0; journal_at = first.1; checkpoints_at = second.1; journal_is = refl; checkpoints_is = refl })

-- ---- what that tells

of_node : {D : Type 0} (state : D → State) (handed left : List D) (number : ℕ) (So Other : State → State → State → State → Type 0) → ((j j' c c' : State) → So j j' c c' → Other j j' c c')
    → OfNode state handed left number So → OfNode state handed left number Other
of_node state handed left number So Other tells of = record {
  journal = of.journal;
  journal' = of.journal';
  checkpoints = of.checkpoints;
  checkpoints' = of.checkpoints';
  journal_was = of.journal_was;
  journal_is = of.journal_is;
  checkpoints_was = of.checkpoints_was;
  checkpoints_is = of.checkpoints_is;
  so = tells (state of.journal) (state of.journal') (state of.checkpoints) (state of.checkpoints') of.so;
}

module _ (number : ℕ) (sizes : Sizes) (events : List Event) (j j' c c' : State) (ran : NodeRan number (opening sizes).world events j j' c c') where
  pub failures_ran : FailedAtLeast (failures_at number (opening sizes).world events) j j' c c'
  failures_ran = failed_wider (failures_at number (opening sizes).world events) j ran.opened_journal j' j' c ran.opened_checkpoints c' c'
      ran.journal_served.faults ran.checkpoints_served.faults (omega arith) (omega arith)
      (failures_counted number (opening sizes).world events ran.opened_journal j' ran.opened_checkpoints c' ran.played)

  pub orders_ran : OrdersAre number (opening sizes).world events j j' c c'
  orders_ran =
      let told = orders_told number (opening sizes).world events ran.opened_journal j' ran.opened_checkpoints c' ran.played in
      rw (← ran.journal_served.orders, ← ran.checkpoints_served.orders) told

  here : (place : ℕ) (event : Event) (answer : Reply) → Answers sizes events place number event answer → AnswersHere (opening sizes) events place number event answer
  here place event answer is = record { event_is = is.event_is; touches = is.touches; reply_is = is.reply_is }

  pub fault_ran : (place : ℕ) (event : Event) → Answers sizes events place number event (Refused DiskFailed) → EitherFaultCounted j j' c c'
  fault_ran place event is = rose_wider j ran.opened_journal j' j' c ran.opened_checkpoints c' c'
      ran.journal_served.faults ran.checkpoints_served.faults (omega arith) (omega arith)
      (fault_caused number (opening sizes) events ran.opened_journal j' ran.opened_checkpoints c' ran.played place event (here place event (Refused DiskFailed) is))

  pub armed_ran : IsRun sizes events → IsUnarmed j → IsUnarmed c → (place : ℕ) (event : Event) → Answers sizes events place number event (Refused DiskFailed)
      → (before : ℕ) × (earlier : Event) × (before < place) × Answers sizes events before number earlier Armed
  armed_ran is_run first second place event is =
      let found = armed_before number (opening sizes) events is_run ran.opened_journal j' ran.opened_checkpoints c' ran.played
      (record {
        journal_steady = ran.journal_served.steady first.0;
        checkpoints_steady = ran.checkpoints_served.steady second.0;
        journal = λ armed. first.1 (ran.journal_served.armed armed);
        checkpoints = λ armed. second.1 (ran.checkpoints_served.armed armed);
      }) place event (here place event (Refused DiskFailed) is) in
      (found.0, found.1, found.2, record { event_is = found.3.event_is; touches = found.3.touches; reply_is = found.3.reply_is })

-- ---- what a call leaves

module _ {D : Type 0} (state : D → State) (handed : List D) (many : length handed ≡ 100) where
  ran_of : (opened : List D) (set : Set D) → AreSizes set.sizes → Opens state set.sizes.nodes (Ok tt) handed opened → RanTo state opened set → (number : ℕ) → number < set.sizes.nodes
      → OfNode state handed set.disks number (NodeRan number (opening set.sizes).world set.history)
  ran_of opened set sizes opens ran number less =
      node_ran state handed opened set opens ran number (let most : set.sizes.nodes ≤ 50 = sizes.most in omega (arith, less, most, many))

  -- a set whose events were played on disks that were opened
  module _ (opened : List D) (set : Set D) (sizes : AreSizes set.sizes) (opens : Opens state set.sizes.nodes (Ok tt) handed opened) (ran : RanTo state opened set) where
    abbrev Went : ℕ → State → State → State → State → Type 0
    Went number = NodeRan number (opening set.sizes).world set.history

    failures_of : FailuresCount state handed set
    failures_of = λ number less.
        of_node state handed set.disks number (Went number) (FailedAtLeast (failures_at number (opening set.sizes).world set.history))
        (λ j j' c c' node. failures_ran number set.sizes set.history j j' c c' node) (ran_of opened set sizes opens ran number less)

    orders_of : OrdersCount state handed set
    orders_of = λ number less.
        of_node state handed set.disks number (Went number) (OrdersAre number (opening set.sizes).world set.history)
        (λ j j' c c' node. orders_ran number set.sizes set.history j j' c c' node) (ran_of opened set sizes opens ran number less)

    causes_of : FaultsHaveCauses state handed set
    causes_of = λ place number event less is.
        of_node state handed set.disks number (Went number) EitherFaultCounted
        (λ j j' c c' node. fault_ran number set.sizes set.history j j' c c' node place event is) (ran_of opened set sizes opens ran number less)

    armed_of : IsRun set.sizes set.history → All (λ (disk : D). IsUnarmed (state disk)) handed → FaultsAreArmed set.sizes set.history
    armed_of is_run unarmed = λ place number event less is.
        let node = ran_of opened set sizes opens ran number less in
        armed_ran number set.sizes set.history (state node.journal) (state node.journal') (state node.checkpoints) (state node.checkpoints') node.so is_run
        (unarmed_at state handed unarmed (2 * number) node.journal node.journal_was) (unarmed_at state handed unarmed (2 * number + 1) node.checkpoints node.checkpoints_was) place event is

  -- a set that was closed after its events
  pub ran_safely : (opened : List D) (set : Set D) → AreSizes set.sizes → Opens state set.sizes.nodes (Ok tt) handed opened → DisksPlayed state opened set → IsRun set.sizes set.history → InEveryRun Safe → IsRunSafely state handed set
  ran_safely opened set sizes opens played is_run law =
      let ran : RanTo state opened set = ran_to state ⊥ (λ line command. ⊥) (λ earlier later. ⊥) opened set (inl played) in
      record {
        safe = law set.sizes set.history sizes is_run;
        orders = orders_of opened set sizes opens ran;
        failures = failures_of opened set sizes opens ran;
        causes = causes_of opened set sizes opens ran;
        armed = armed_of opened set sizes opens ran is_run;
        unfailed = nothing_failed state handed set is_run (failures_of opened set sizes opens ran);
      }

  module _ (call : Call D) (words : List (String Global)) (left rest old new : Option (List ℕ)) (ended : Result (Unit {0}) Stop) where
    abbrev Leaves : Left D → Type 0
    Leaves outcome = LeavesDisks state call words left rest handed (status_of ended) outcome

    ran_set : (set : Set D) → Leaves (Ran set) → RanTo state call.opened set
    ran_set set (asked, opens, ran) = ran_to state (status_of ended ≡ 1) (ComesNext call.read.parts set.history) (BreaksIn call.task call.read.parts) call.opened set ran

    pub failures_left : (outcome : Left D) → IfSet outcome (λ set. AreSizes set.sizes) → Leaves outcome → IfSet outcome (FailuresCount state handed)
    failures_left (Parts events disks) sizes leaves = tt
    failures_left (Ran set) sizes leaves = failures_of call.opened set sizes leaves.1 (ran_set set leaves)

    pub orders_left : (outcome : Left D) → IfSet outcome (λ set. AreSizes set.sizes) → Leaves outcome → IfSet outcome (OrdersCount state handed)
    orders_left (Parts events disks) sizes leaves = tt
    orders_left (Ran set) sizes leaves = orders_of call.opened set sizes leaves.1 (ran_set set leaves)

    pub causes_left : (outcome : Left D) → IfSet outcome (λ set. AreSizes set.sizes) → Leaves outcome → IfSet outcome (FaultsHaveCauses state handed)
    causes_left (Parts events disks) sizes leaves = tt
    causes_left (Ran set) sizes leaves = causes_of call.opened set sizes leaves.1 (ran_set set leaves)

    pub armed_left : (outcome : Left D) → IfSet outcome (λ set. AreSizes set.sizes) → IfSet outcome (λ set. IsRun set.sizes set.history) → Leaves outcome
        → All (λ (disk : D). IsUnarmed (state disk)) handed → IfSet outcome (λ set. FaultsAreArmed set.sizes set.history)
    armed_left (Parts events disks) sizes is_run leaves unarmed = tt
    armed_left (Ran set) sizes is_run leaves unarmed = armed_of call.opened set sizes leaves.1 (ran_set set leaves) is_run unarmed

    written_left : (outcome : Left D) → IfSet outcome (λ set. AreSizes set.sizes) → IfSet outcome (λ set. IsRun set.sizes set.history) → Ends state call handed words left rest old new ended outcome → Leaves outcome
        → NoFaultCounted state handed (disks_of outcome) → IfSet outcome (GoesAsWritten call (status_of ended))
    written_left (Parts events disks) sizes is_run ends leaves still = tt
    written_left (Ran set) sizes is_run ends leaves still =
        goes_as_written call ended old new set ends.2 (nothing_failed state handed set is_run (failures_of call.opened set sizes leaves.1 (ran_set set leaves)) still)

    pub comes_to : (outcome : Left D) → ¬ AsksCheck words → IfSet outcome (λ set. AreSizes set.sizes) → IfSet outcome (λ set. IsRun set.sizes set.history) → Ends state call handed words left rest old new ended outcome → Leaves outcome
        → ComesTo state call handed words left rest old new (status_of ended) outcome
    comes_to outcome other sizes is_run ends leaves = record {
      answer = inr (other, (ended, refl, ends));
      disks = leaves;
      open_fault = disk_failed state call words left rest old new handed ended outcome ends leaves;
      copy_fault = copy_failed state call handed words left rest old new ended outcome ends;
      as_written = written_left outcome sizes is_run ends leaves;
    }

-- where bytes are checked nothing is run
pub check_comes : {D : Type 0} (state : D → State) (handed : List D) (words : List (String Global)) (left rest old new : Option (List ℕ)) (ended : Result (Unit {0}) CheckStop) (events : Vec Event Global) (disks : Vec D Global)
    → AsksCheck words → events.items ≡ [] → disks.items ≡ handed → EndsCheck left rest old new ended → ComesTo state no_call handed words left rest old new (status_of_check ended) (Parts events disks)
check_comes state handed words left rest old new ended events disks asks none same ends = record {
  answer = inl (asks, (none, same, (ended, refl, ends)));
  disks = inl ((no_disk ended).0, same);
  open_fault = λ seven. absurd ((no_disk ended).0 seven);
  copy_fault = λ eight. absurd ((no_disk ended).1 eight);
  as_written = λ still. tt;
}
