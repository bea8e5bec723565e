-- The disks without a node stay as they are, whatever the events.
use Rattle.std.proofs.Common.{◌≡◌, ◌∙◌, ◌<◌, ◌≤◌, ◌+◌, ◌-◌, ◌*◌, inl, inr, ap, sym, subst, refl, arith, append_assoc, ℕ, suc, true, Option, None, Some, List, [], ◌∷◌, ◌++◌, fold, length, take, drop, slice_get, slice_set}
use Rattle.std.proofs.lemmas.List.{drop-set-lt, length-drop}
use Rattle.std.proofs.Math.Seq.{take-append_seam}
use Rattle.std.specs.Prelude.{Contains, ⊤}
use Rattle.repl_msg.specs.declared.message.Message.{Message}
use Rattle.rs_disk.specs.State.{State}
use Rattle.rs_optime.specs.Membership.{In}
use Rattle.set_model.proofs.RunLemmas.{world_of-append}
use Rattle.set_model.specs.declared.command.Command.{Command}
use Rattle.set_model.specs.declared.command.Command.TheVariants.{Campaign, Drain, Insert, Replace, Update, Delete, Retry, Note, Begin, Commit, Abort, Ack, Read, Dump, Log, State as AsksState, Rolled, DryRun, StepDown, Heartbeat, Report, Common, Fetch, Deliver, DeliverLatest, Apply, Flush, Checkpoint, Reconfig, Crash, Restart, DiskFail, Clock}
use Rattle.set_model.specs.declared.command.Event.{Event}
use Rattle.set_model.specs.Limits.{AllFit, IsRun, is_for}
use Rattle.set_model.specs.Run.{Run, Sizes, after, opening, run}
use Rattle.set_model.specs.World.{World, Task, acts, takes, nothing, latest_between, taking, task}
use Rattle.safety_laws.specs.Bounds.{NumbersStaySmall}
use Rattle.safety_laws.proofs.Frame.{task_sent}
use Rattle.set_world.specs.Disks.{AtTouchedNode, DisksStep, OneChanged}
use Rattle.set_world.specs.Went.{DisksPlay}
use Rattle.set_model.proofs.LimitLemmas.{named}

-- ---- an event touches a node of the set

-- a task is for one of so many nodes, where it is for one
abbrev Known : ℕ → Task → Type 0
Known nodes (acts number) = number < nodes
Known nodes (takes message) = message.to < nodes
Known nodes nothing = ⊤

taken : (nodes : ℕ) (found : Option Message) → ((message : Message) → taking found ≡ takes message → message.to < nodes) → Known nodes (taking found)
taken nodes None between = tt
taken nodes (Some message) between = between message refl

known : (nodes : ℕ) (world : World) (command : Command) → is_for nodes command ≡ true → ((message : Message) → task world command ≡ takes message → message.to < nodes) → Known nodes (task world command)
known nodes world (Campaign node) for between = named node nodes _ _ for
known nodes world (Drain node) for between = named node nodes _ _ for
known nodes world (Insert node collection document) for between = named node nodes _ _ for
known nodes world (Replace node collection id document) for between = named node nodes _ _ for
known nodes world (Update node collection id operators) for between = named node nodes _ _ for
known nodes world (Delete node collection id) for between = named node nodes _ _ for
known nodes world (Retry node session op) for between = named node nodes _ _ for
known nodes world (Note node) for between = named node nodes _ _ for
known nodes world (Begin node writer op) for between = named node nodes _ _ for
known nodes world (Commit node writer) for between = named node nodes _ _ for
known nodes world (Abort node writer) for between = named node nodes _ _ for
known nodes world (Ack node target concern) for between = named node nodes _ _ for
known nodes world (Read node level collection id) for between = named node nodes _ _ for
known nodes world (Dump node level) for between = named node nodes _ _ for
known nodes world (Log node) for between = named node nodes _ _ for
known nodes world (AsksState node) for between = named node nodes _ _ for
known nodes world (Rolled node) for between = named node nodes _ _ for
known nodes world (DryRun node) for between = named node nodes _ _ for
known nodes world (StepDown node) for between = named node nodes _ _ for
known nodes world (Heartbeat node to) for between = named node nodes _ _ for
known nodes world (Report node to) for between = named node nodes _ _ for
known nodes world (Common node to) for between = named node nodes _ _ for
known nodes world (Fetch node) for between = named node nodes _ _ for
known nodes world (Deliver message) for between = taken nodes (slice_get world.messages message) between
known nodes world (DeliverLatest from to) for between = taken nodes (latest_between world.messages from to) between
known nodes world (Apply node workers) for between = named node nodes _ _ for
known nodes world (Flush node) for between = named node nodes _ _ for
known nodes world (Checkpoint node) for between = named node nodes _ _ for
known nodes world (Reconfig node config) for between = named node nodes _ _ for
known nodes world (Crash node pick) for between = named node nodes _ _ for
known nodes world (Restart node) for between = named node nodes _ _ for
known nodes world (DiskFail node disk call pick) for between = named node nodes _ _ for
known nodes world (Clock node seconds) for between = named node nodes _ _ for

-- ---- and its two disks stand in front of those

module _ {D : Type 0} (state : D → State) (nodes : ℕ) where
  one_idle : (Changed : State → State → State → State → Type 0) (number : ℕ) (old new : List D) → number < nodes → OneChanged state Changed number old new → drop (2 * nodes) new ≡ drop (2 * nodes) old
  one_idle Changed number old new less one =
      ap (λ l. drop (2 * nodes) l) one.disks
      ∙ drop-set-lt (2 * nodes) (slice_set old (2 * number) one.journal') (2 * number + 1) one.checkpoints' (omega (arith, less))
      ∙ drop-set-lt (2 * nodes) old (2 * number) one.journal' (omega (arith, less))

  touched_idle : (Changed : State → State → State → State → Type 0) (what : Task) (failed : Option ℕ) (old new : List D) → Known nodes what
      → AtTouchedNode what failed old new (λ number. OneChanged state Changed number old new) → drop (2 * nodes) new ≡ drop (2 * nodes) old
  touched_idle Changed (acts number) failed old new less one = one_idle Changed number old new less one
  touched_idle Changed (takes message) failed old new less one = one_idle Changed message.to old new less one
  touched_idle Changed nothing failed old new less same = ap (λ l. drop (2 * nodes) l) same.1

-- there is as much room after them
pub room_after : {A : Type 0} (n : ℕ) (old new : List A) → drop n new ≡ drop n old → n + 2 ≤ length old → n + 2 ≤ length new
room_after n old new same room =
    let later : length new - n ≡ length old - n = sym (length-drop n new) ∙ ap length same ∙ length-drop n old in omega (arith, later, room)

-- ---- a run

in_contains : {A : Type 0} (xs : List A) (x : A) → In x xs → Contains xs x
in_contains [] x there = absurd there
in_contains (y ∷ xs) x (inl same) = (0, omega arith, same)
in_contains (y ∷ xs) x (inr there) =
    let rest : Contains xs x = in_contains xs x there in
    let within : rest.0 < length xs = rest.1 in
    (suc rest.0, omega (arith, within), rest.2)

module _ {D : Type 0} (state : D → State) (sizes : Sizes) (all : List Event) (small : NumbersStaySmall sizes all) where
  step_idle : (front rest : List Event) (event : Event) → all ≡ front ++ rest → is_for (length (run sizes front).world.nodes) event.command ≡ true → (old new : List D) → DisksStep state (run sizes front).world event old new
      → drop (2 * sizes.nodes) new ≡ drop (2 * sizes.nodes) old
  step_idle front rest event split for old new changed =
      touched_idle state sizes.nodes _ (task (run sizes front).world event.command) event.failed old new
      (known sizes.nodes (run sizes front).world event.command (subst (λ n. is_for n event.command ≡ true) count for)
      (λ message is. receiver message (task_sent (run sizes front).world event.command message is))) changed
    where
      here : (run sizes (take (length front) all)).world ≡ (run sizes front).world
      here = ap (λ l. (run sizes l).world) (ap (λ l. take (length front) l) split ∙ take-append_seam front rest)

      count : length (run sizes front).world.nodes ≡ sizes.nodes
      count = ap (λ (w : World). length w.nodes) (sym here) ∙ small.count (length front)

      receiver : (message : Message) → In message (run sizes front).world.messages → message.to < sizes.nodes
      receiver message there =
          (small.messages (length front) message (in_contains _ message (subst (λ (w : World). In message w.messages) (sym here) there))).receiver

  goes_idle : (front rest : List Event) → all ≡ front ++ rest → AllFit (run sizes front).world rest → (old new : List D) → DisksPlay state (run sizes front).world rest old new
      → drop (2 * sizes.nodes) new ≡ drop (2 * sizes.nodes) old
  goes_idle front [] split fit old new same = ap (λ l. drop (2 * sizes.nodes) l) same
  goes_idle front (event ∷ rest) split fit old new (between, changed, played) =
      goes_idle (front ++ event ∷ []) rest (split ∙ sym (append_assoc front (event ∷ []) rest)) (subst (λ w. AllFit w rest) (sym (world_of-append sizes front event)) fit.1) between new
      (subst (λ w. DisksPlay state w rest between new) (sym (world_of-append sizes front event)) played)
      ∙ step_idle front (event ∷ rest) event split fit.0.command old between changed

-- the events after others fit the world that these lead to
fits_after : (so_far : Run) (front rest : List Event) → AllFit so_far.world (front ++ rest) → AllFit (fold after so_far front).world rest
fits_after so_far [] rest fit = fit
fits_after so_far (event ∷ front) rest fit = fits_after (after so_far event) front rest fit.1

module _ {D : Type 0} (state : D → State) (sizes : Sizes) where
  -- from the opening on
  pub played_idle : (events : List Event) → NumbersStaySmall sizes events → IsRun sizes events → (first last : List D) → DisksPlay state (opening sizes).world events first last
      → drop (2 * sizes.nodes) last ≡ drop (2 * sizes.nodes) first
  played_idle events small fit first last played = goes_idle state sizes events small [] events refl fit first last played

  -- from some moment on
  pub went_idle : (old added all : List Event) → all ≡ old ++ added → NumbersStaySmall sizes all → IsRun sizes all → (first last : List D) → DisksPlay state (run sizes old).world added first last
      → drop (2 * sizes.nodes) last ≡ drop (2 * sizes.nodes) first
  went_idle old added all split small fit first last played =
      goes_idle state sizes all small old added split (fits_after (opening sizes) old added (subst (λ l. AllFit (opening sizes).world l) split fit)) first last played
