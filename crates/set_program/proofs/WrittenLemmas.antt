-- The events of a call in which no disk's count rose.
use Rattle.std.proofs.Common.{◌≡◌, ◌∙◌, ◌<◌, ◌≤◌, ◌+◌, ◌*◌, ◌-◌, ◌^◌, ◌==◌, ◌&&◌, ◌⊎◌, inl, inr, ap, sym, subst, refl, arith, eq-eqb, ℕ, Bool, true, false, Option, None, Some, Result, Ok, Err, List, [], ◌∷◌, ◌++◌, length, slice_get, if◌then◌else◌}
use Rattle.std.specs.Prelude.{is_some, is_none, map, min, nat_le, option_and_then}
use Rattle.std.specs.List.{AllByRecursion, list_all}
use Rattle.std.proofs.lemmas.Bool.{and_parts, cases_Bool, leb-false, leb-true}
use Rattle.std.proofs.lemmas.Option.{slice_get_within}
use Rattle.rs_disk.specs.State.{State}
use Rattle.fault_script.specs.declared.script.Part.{Part}
use Rattle.fault_script.specs.declared.script.Part.TheVariants as parts
use Rattle.fault_script.specs.Script.{lines_in}
use Rattle.set_model.specs.declared.command.Command.{Command}
use Rattle.set_model.specs.declared.command.Event.{Event}
use Rattle.set_model.specs.Limits.{AllFit, IsRun, plan_reaches}
use Rattle.set_model.specs.Node.{Node}
use Rattle.set_model.specs.Run.{opening}
use Rattle.set_model.specs.World.{World, event_plan, plan_of, step, task, touched_node}
use Rattle.set_world.specs.World.{Set}
use Rattle.set_program.specs.declared.stop.Stop.{Stop}
use Rattle.set_program.specs.declared.stop.Stop.TheVariants.{Memory, Usage, Script as NoScript, ReadFault, WriteFault, TooLong, DiskFault, CopyFault, Refused}
use Rattle.set_program.specs.Calls.{Call}
use Rattle.set_program.specs.Counts.{FailuresCount, failures_at}
use Rattle.set_program.specs.Headline.{EndsTask, status_of}
use Rattle.set_program.specs.Orders.{AreOrdersOf, Follows}
use Rattle.set_program.specs.Steps.{line_of}
use Rattle.set_program.specs.Tasks.{is_script_alone}
use Rattle.set_program.specs.Written.{GoesAsWritten, NoFaultCounted, NothingFailed, event_of_line, is_line}
use Rattle.task_words.specs.declared.words.Task.{Task}
use Rattle.task_words.specs.declared.words.Task.TheVariants.{Run, Trace, Chaos, Sync, Linear as ReadsLinear, Watch as Watches}
use Rattle.set_program.proofs.DoubtLemmas.{AreCertain, as_many_after, certain_first, certain_step, many_first, none_kept}

-- ---- no store failed

below : (a b : ℕ) → ¬ (a ≤ b) → b < a
below a b other = elim (cases_Bool (nat_le a b)) [ inl less ↦ absurd (other (leb-true a b less)) | inr more ↦ leb-false a b more ]

-- two disks whose counts didn't rise failed in no store
none_failed : (most count j j' c c' : ℕ) → ¬ (min (j + 1) most ≤ j') → ¬ (min (c + 1) most ≤ c') → (count + j + c ≤ j' + c') ⊎ (most ≤ j') ⊎ (most ≤ c') → count ≡ 0
none_failed most count j j' c c' first second (inl sum) = omega (arith, below (min (j + 1) most) j' first, below (min (c + 1) most) c' second, sum)
none_failed most count j j' c c' first second (inr (inl full)) = absurd (first (omega (arith, full)))
none_failed most count j j' c c' first second (inr (inr full)) = absurd (second (omega (arith, full)))

failures_none : {D : Type 0} (state : D → State) (handed : List D) (set : Set D) → FailuresCount state handed set → NoFaultCounted state handed set.disks
    → (number : ℕ) → number < set.sizes.nodes → failures_at number (opening set.sizes).world set.history ≡ 0
failures_none state handed set failures still number less =
    let of = failures number less in
    none_failed (2 ^ 64 - 1) (failures_at number (opening set.sizes).world set.history) (state of.journal).faults (state of.journal').faults (state of.checkpoints).faults (state of.checkpoints').faults
    (still (2 * number) of.journal of.journal' of.journal_was of.journal_is) (still (2 * number + 1) of.checkpoints of.checkpoints' of.checkpoints_was of.checkpoints_is) of.so

-- an event that fits fails only at a node that there is
unfailed : (world : World) (event : Event) → plan_reaches (event_plan world event) event.failed ≡ true
    → ((number : ℕ) → number < length world.nodes → (is_some event.failed && touched_node world event.command == number) ≡ false) → event.failed ≡ None
unfailed world event reached none = go event.failed refl (slice_get world.nodes (touched_node world event.command)) refl
  where
    touched : ℕ
    touched = touched_node world event.command

    go : (failed : Option ℕ) → event.failed ≡ failed → (found : Option Node) → slice_get world.nodes touched ≡ found → event.failed ≡ None
    go None is found there = is
    go (Some store) is (Some node) there =
        let none_here : (is_some event.failed && touched == touched) ≡ false = none touched (slice_get_within world.nodes touched node there) in
        let here : (touched == touched) ≡ false = ap (λ f. is_some f && touched == touched) (sym is) ∙ none_here in
        absurd (cc (here, eq-eqb touched touched refl))
    go (Some store) is None there =
        let plan : event_plan world event ≡ None = ap (λ f. option_and_then (plan_of world event (task world event.command)) f) there in
        absurd (cc (sym (ap (λ p. plan_reaches p event.failed) plan ∙ ap is_none is) ∙ reached))

-- a number is 0 where each part is
none_of_both : (b : Bool) (others : ℕ) → (if b then 1 else 0) + others ≡ 0 → (b ≡ false) × (others ≡ 0)
none_of_both true others is = let one : 1 + others ≡ 0 = is in absurd (omega (arith, one))
none_of_both false others is = (refl, let rest : 0 + others ≡ 0 = is in omega (arith, rest))

all_unfailed : (world : World) (events : List Event) → AllFit world events → AreCertain world → ((number : ℕ) → number < length world.nodes → failures_at number world events ≡ 0)
    → AllByRecursion NothingFailed events
all_unfailed world [] fit certain none = tt
all_unfailed world (event ∷ later) fit certain none = (
  record { failed = failed; kept = kept },
  all_unfailed (step world event).world later fit.1 (certain_step world event failed certain)
      (λ number less. (none_of_both (is_some event.failed && touched_node world event.command == number) (failures_at number (step world event).world later)
      (none number (subst (λ n. number < n) (as_many_after world event) less))).1),
)
  where
    failed : event.failed ≡ None
    failed = unfailed world event fit.0.failed (λ number less.
        (none_of_both (is_some event.failed && touched_node world event.command == number) (failures_at number (step world event).world later) (none number less)).0)

    kept : event.kept ≡ false
    kept = none_kept world event fit.0 certain

pub nothing_failed : {D : Type 0} (state : D → State) (handed : List D) (set : Set D) → IsRun set.sizes set.history → FailuresCount state handed set → NoFaultCounted state handed set.disks
    → AllByRecursion NothingFailed set.history
nothing_failed state handed set is_run failures still =
    all_unfailed (opening set.sizes).world set.history is_run (certain_first set.sizes)
    (λ number less. failures_none state handed set failures still number (subst (λ n. number < n) (many_first set.sizes) less))

-- ---- the events are the lines

one_written : (event : Event) → NothingFailed event → event ≡ event_of_line (line_of event)
one_written event well = λ i. record { line = event.line; command = event.command; failed = well.failed i; kept = well.kept i }

written : (events : List Event) → AllByRecursion NothingFailed events → events ≡ map event_of_line (map line_of events)
written [] well = refl
written (event ∷ events) well = ap (λ e. e ∷ events) (one_written event well.0) ∙ ap (λ es. event_of_line (line_of event) ∷ es) (written events well.1)

-- lines without blocks have one order
lines_are : (ps : List Part) (lines : List (ℕ × Command)) → list_all is_line ps ≡ true → AreOrdersOf ps lines → lines ≡ lines_in ps
lines_are [] lines plain none = none
lines_are (parts.Line number command ∷ later) lines plain (own, others, is, order, rest) =
    is ∙ ap (λ l. l ++ others) order ∙ ap (λ l. (number, command) ∷ l) (lines_are later others (and_parts (is_line (parts.Line number command)) (list_all is_line later) plain).1 rest)
lines_are (parts.Par threads ∷ later) lines plain orders = absurd (cc (and_parts (is_line (parts.Par threads)) (list_all is_line later) plain).0)

-- a script after which nothing comes was played to its end
follows_alone : {D : Type 0} (task : Task) (ps : List Part) (old new : Option (List ℕ)) (set : Set D) → is_script_alone task ≡ true → EndsTask task ps old new (Ok tt) set → Follows ps set.history
follows_alone Run ps old new set alone ends = ends.0
follows_alone Trace ps old new set alone ends = ends.0
follows_alone (Chaos seed events nodes) ps old new set alone ends = ends.0
follows_alone (ReadsLinear linear) ps old new set alone ends = absurd (cc alone)
follows_alone (Watches watch) ps old new set alone ends = absurd (cc alone)
follows_alone (Sync node) ps old new set alone ends = absurd (cc alone)

played_whole : {D : Type 0} (task : Task) (ps : List Part) (old new : Option (List ℕ)) (ended : Result (Unit {0}) Stop) (set : Set D) → status_of ended ≡ 0 → is_script_alone task ≡ true → EndsTask task ps old new ended set
    → Follows ps set.history
played_whole task ps old new (Ok done) set zero_is alone ends = follows_alone task ps old new set alone ends
played_whole task ps old new (Err Memory) set zero_is alone ends = absurd (cc zero_is)
played_whole task ps old new (Err Usage) set zero_is alone ends = absurd (cc zero_is)
played_whole task ps old new (Err NoScript) set zero_is alone ends = absurd (cc zero_is)
played_whole task ps old new (Err ReadFault) set zero_is alone ends = absurd (cc zero_is)
played_whole task ps old new (Err WriteFault) set zero_is alone ends = absurd (cc zero_is)
played_whole task ps old new (Err TooLong) set zero_is alone ends = absurd (cc zero_is)
played_whole task ps old new (Err DiskFault) set zero_is alone ends = absurd (cc zero_is)
played_whole task ps old new (Err CopyFault) set zero_is alone ends = absurd (cc zero_is)
played_whole task ps old new (Err Refused) set zero_is alone ends = absurd (cc zero_is)

pub goes_as_written : {D : Type 0} (call : Call D) (ended : Result (Unit {0}) Stop) (old new : Option (List ℕ)) (set : Set D) → EndsTask call.task call.read.parts old new ended set → AllByRecursion NothingFailed set.history
    → GoesAsWritten call (status_of ended) set
goes_as_written call ended old new set ends well = record {
  unfailed = well;
  lines = λ zero_is alone plain. written set.history well
      ∙ ap (λ l. map event_of_line l) (lines_are call.read.parts (map line_of set.history) plain (played_whole call.task call.read.parts old new ended set zero_is alone ends));
}
