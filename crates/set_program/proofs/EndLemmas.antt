-- How a call ends.
use Rattle.std.proofs.Common.{ℕ, ◌≡◌, ◌<◌, ◌≤◌, Bool, true, false, List, [], ◌∷◌, length, Option, None, Some, Result, Ok, Err, String, refl, ap, subst, sym, arith, inl, inr, ⊎_elim, ◌∙◌}
use Rattle.std.proofs.lemmas.Option.{same_Some}
use Rattle.std.specs.Prelude.{◌≢◌, IfSome, Vec}
use Rattle.std.specs.declared.alloc.Global.{Global}
use Rattle.rs_disk.specs.State.{State}
use Rattle.rs_io.specs.Fault.{CountRose}
use Rattle.rs_io.specs.ReadAll.{ReadsAll}
use Rattle.rs_io.specs.declared.reading.ReadAllError.{ReadAllError}
use Rattle.rs_io.specs.declared.reading.ReadAllError.TheVariants.{ReadFault as SourceFailed, TooLong as OverLimit, Memory as NoMemory}
use Rattle.set_model.specs.declared.command.Event.{Event}
use Rattle.set_model.specs.Limits.{IsRun}
use Rattle.set_model.specs.Run.{AreSizes}
use Rattle.set_model.specs.Safety.{Safe}
use Rattle.safety_laws.specs.Laws.{InEveryRun}
use Rattle.fault_script.specs.declared.fault.ScriptFault.{ScriptFault}
use Rattle.fault_script.specs.declared.script.Part.{Part}
use Rattle.fault_script.specs.declared.script.Script.{Script}
use Rattle.fault_script.specs.Script.{script}
use Rattle.set_world.specs.World.{Set}
use Rattle.set_program.specs.declared.outcome.Left.{Left}
use Rattle.set_program.specs.declared.outcome.Left.TheVariants.{World, Parts}
use Rattle.set_program.specs.declared.stop.Stop.{Stop}
use Rattle.set_program.specs.declared.stop.Stop.TheVariants.{Memory, Usage, Script as NoScript, ReadFault, WriteFault, TooLong, DiskFault, CopyFault, Refused}
use Rattle.set_program.specs.Asking.{OpensScript, PlaysScript, ReadsSource, RunsScript, call_of}
use Rattle.rs_io.specs.Put.{Puts}
use Rattle.rs_io.specs.declared.sink.SinkError.{SinkError}
use Rattle.rs_io.specs.declared.sink.SinkError.TheVariants.{Failed, Memory as NoRoom}
use Rattle.set_program.specs.Causes.{of_read, of_sink, of_sync}
use Rattle.set_program.specs.Calls.{Asks, AsksNothing, AsksSource, Call, IsAsked, IsFaulty, IsReadable, IsScriptOf, WasRead, limit}
use Rattle.set_program.specs.Headline.{Ends, EndsTask, EndsWithoutRun, HasNoFault, IsOneOf, LeavesDisks, status_of, usage}
use Rattle.task_words.specs.declared.words.Task.{Task}
use Rattle.task_words.specs.declared.words.Task.TheVariants.{Run, Trace, Chaos, Sync, Linear as ReadsLinear, Watch as Watches}
use Rattle.set_program.specs.Left.{IfSet}
use Rattle.set_program.specs.Plays.{PutsText as PutsLine}
use Rattle.transcript.specs.Faults.{fault_text}
use Rattle.set_program.specs.Syncing.{ended_so}
use Rattle.set_program.specs.Tasks.{is_of_source, may_end_in}
use Rattle.sync_words.specs.Putting.{PutsText}
use Rattle.sync_words.specs.declared.stop.SyncStop.{SyncStop}
use Rattle.sync_words.specs.declared.stop.SyncStop.TheVariants as syncs
use Rattle.change_watch.proofs.KeepLemmas.{Keeps-same}

-- ---- the script is read

pub was_read : (left rest : Option (List ℕ)) (bytes : Vec ℕ Global) → ReadsAll limit left rest (Ok bytes) → length bytes.items ≤ limit → WasRead left rest bytes.items
was_read left rest bytes reads within = record { within = within; whole = whole left rest reads }
  where
    whole : (l r : Option (List ℕ)) → ReadsAll limit l r (Ok bytes) → IfSome l (λ told. (bytes.items ≡ told) × (r ≡ Some []))
    whole None r reads = tt
    whole (Some before) None reads = absurd reads
    whole (Some before) (Some after) reads = (reads.0, ap Some reads.1)

pub read_stops : (left rest held : Option (List ℕ)) (error : ReadAllError) → ReadsAll limit left rest (Err error) → ReadsSource left rest held held (Err (of_read error))
read_stops left rest held SourceFailed reads = Keeps-same held
read_stops left rest held NoMemory reads = Keeps-same held
read_stops left rest held OverLimit reads = (Keeps-same held, over left rest reads)
  where
    over : (l r : Option (List ℕ)) → ReadsAll limit l r (Err OverLimit) → IfSome l (λ bytes. limit < length bytes)
    over None r reads = tt
    over (Some before) None reads = absurd reads
    over (Some before) (Some after) reads = omega (arith, reads)

-- the line of a script's fault is put
pub fault_stops : (left rest old new : Option (List ℕ)) (fault : ScriptFault) (stop : Stop) → IsFaulty left rest fault → PutsLine old new (fault_text fault) (Err stop) → ReadsSource left rest old new (Err stop)
fault_stops left rest old new fault Memory is puts = puts
fault_stops left rest old new fault WriteFault is puts = (fault, is, (puts.0, tt, puts.1))
fault_stops left rest old new fault Usage is puts = absurd puts
fault_stops left rest old new fault NoScript is puts = absurd puts
fault_stops left rest old new fault ReadFault is puts = absurd puts
fault_stops left rest old new fault TooLong is puts = absurd puts
fault_stops left rest old new fault DiskFault is puts = absurd puts
fault_stops left rest old new fault CopyFault is puts = absurd puts
fault_stops left rest old new fault Refused is puts = absurd puts

-- nothing is run, since the source has no script
pub source_stops : (words : List (String Global)) (left rest old new : Option (List ℕ)) (stop : Stop) → AsksSource words → ReadsSource left rest old new (Err stop)
    → EndsWithoutRun ⊥ words left rest old new (Err stop)
source_stops words left rest old new Usage asks reads = absurd reads
source_stops words left rest old new NoScript asks reads = (asks, reads)
source_stops words left rest old new ReadFault asks reads = (asks, reads)
source_stops words left rest old new TooLong asks (kept, over) = (asks, kept, over)
source_stops words left rest old new DiskFault asks reads = absurd reads
source_stops words left rest old new CopyFault asks reads = absurd reads
source_stops words left rest old new Refused asks reads = absurd reads
source_stops words left rest old new Memory asks reads = reads
source_stops words left rest old new WriteFault asks reads = inr (asks, reads)

-- the words ask for nothing
pub usage_stops : (words : List (String Global)) (left rest old new : Option (List ℕ)) (error : SinkError) → AsksNothing words → Puts old new (Err error) usage
    → EndsWithoutRun ⊥ words left rest old new (Err (of_sink error))
usage_stops words left rest old new Failed none (count, put) = inl (none, (count, tt, put))
usage_stops words left rest old new NoRoom none kept = kept

-- ---- it is run

-- what was asked for was run
run_ends : {D : Type 0} (state : D → State) (call : Call D) (handed : List D) (words : List (String Global)) (left rest old new : Option (List ℕ)) (ended : Result (Unit {0}) Stop) (outcome : Left D)
    → IsAsked call words left rest → RunsScript state call handed old new ended outcome → Ends state call handed words left rest old new ended outcome
run_ends state call handed words left rest old new ended (World set) asked runs = (asked, runs.0, runs.1)
run_ends state call handed words left rest old new ended (Parts events disks) asked (inr member) = inr (asked, member)
run_ends state call handed words left rest old new ended (Parts events disks) asked (inl (none, kept, one)) = inl (none, ⊎_elim no_memory failed one)
  where
    no_memory : ended ≡ Err Memory → EndsWithoutRun (IsAsked call words left rest) words left rest old new ended
    no_memory same = rw same kept

    failed : ended ≡ Err DiskFault → EndsWithoutRun (IsAsked call words left rest) words left rest old new ended
    failed same = rw same (kept, asked)

-- and these disks are left
asked_leaves : {D : Type 0} (state : D → State) (call : Call D) (words : List (String Global)) (left rest : Option (List ℕ)) (handed : List D) (status : ℕ) (outcome : Left D)
    → IsAsked call words left rest → OpensScript state call handed status outcome → LeavesDisks state call words left rest handed status outcome
asked_leaves state call words left rest handed status (World set) asked opens = (asked, opens.0, opens.1)
asked_leaves state call words left rest handed status (Parts events disks) asked (inl (one, opens, stand)) = inr (inl (one, asked, opens, stand))
asked_leaves state call words left rest handed status (Parts events disks) asked (inr member) = inr (inr member)

-- a call of one task and script ends so, and leaves these disks
abbrev pub CallEnds : {D : Type 0} → (D → State) → List D → List (String Global) → Option (List ℕ) → Option (List ℕ) → Option (List ℕ) → Option (List ℕ) → Result (Unit {0}) Stop → Left D → Type 0
CallEnds {D} state handed words left rest old new ended outcome =
    (call : Call D) × Ends state call handed words left rest old new ended outcome × LeavesDisks state call words left rest handed (status_of ended) outcome

pub script_played : {D : Type 0} (state : D → State) (handed : List D) (words : List (String Global)) (left rest old new : Option (List ℕ)) (task : Task) (read : Script) (ended : Result (Unit {0}) Stop) (outcome : Left D)
    → Asks words task → IsScriptOf task left rest read → PlaysScript state handed task read old new ended outcome → CallEnds state handed words left rest old new ended outcome
script_played {D} state handed words left rest old new task read ended outcome asks is (opened, runs, opens) = of_call (call_of task read opened) (record { asks = asks; script_is = is }) runs opens
  where
    of_call : (call : Call D) → IsAsked call words left rest → RunsScript state call handed old new ended outcome → OpensScript state call handed (status_of ended) outcome
        → CallEnds state handed words left rest old new ended outcome
    of_call call asked ran left_so =
        (call, run_ends state call handed words left rest old new ended outcome asked ran, asked_leaves state call words left rest handed (status_of ended) outcome asked left_so)

-- ---- nothing is run

-- the call of no task in particular
pub no_call : {D : Type 0} → Call D
no_call = call_of Run (record { nodes = 0; voters = 0; members = 0; parts = [] }) []

unasked : (Asked : Type 0) (words : List (String Global)) (left rest old new : Option (List ℕ)) (stop : Stop) → EndsWithoutRun ⊥ words left rest old new (Err stop) → EndsWithoutRun Asked words left rest old new (Err stop)
unasked Asked words left rest old new Usage ends = ends
unasked Asked words left rest old new NoScript ends = ends
unasked Asked words left rest old new ReadFault ends = ends
unasked Asked words left rest old new TooLong ends = ends
unasked Asked words left rest old new DiskFault ends = absurd ends.1
unasked Asked words left rest old new CopyFault ends = ends
unasked Asked words left rest old new Refused ends = ends
unasked Asked words left rest old new Memory ends = ends
unasked Asked words left rest old new WriteFault ends = ends

pub none_played : {D : Type 0} (state : D → State) (handed : List D) (words : List (String Global)) (left rest old new : Option (List ℕ)) (stop : Stop) (events : Vec Event Global) (disks : Vec D Global)
    → events.items ≡ [] → disks.items ≡ handed → status_of {A = Unit {0}} (Err stop) ≢ 7 → EndsWithoutRun ⊥ words left rest old new (Err stop) → CallEnds state handed words left rest old new (Err stop) (Parts events disks)
none_played state handed words left rest old new stop events disks none same other ends =
    (no_call, inl (none, unasked (IsAsked no_call words left rest) words left rest old new stop ends), inl (other, same))

-- ---- what holds of what is left

pub safe_here : {D : Type 0} → InEveryRun Safe → (outcome : Left D) → IfSet outcome (λ set. AreSizes set.sizes) → IfSet outcome (λ set. IsRun set.sizes set.history)
    → IfSet outcome (λ set. Safe set.sizes set.history)
safe_here law (World set) sizes defined = law set.sizes set.history sizes defined
safe_here law (Parts events disks) sizes defined = tt

-- ---- a readable script is run

-- a fault has its cause
no_fault : (Steady : Type 0) (before now : ℕ) → HasNoFault Steady before now → ¬ Steady → CountRose before now → ⊥
no_fault Steady before now (inl steady) unsteady rose = unsteady steady
no_fault Steady before now (inr still) unsteady rose = still rose

-- a source's bytes that are no script aren't readable
faulty : (left rest : Option (List ℕ)) (fault : ScriptFault) (P : Type 0) → IsFaulty left rest fault → IfSome left (λ bytes. IsReadable bytes → P)
faulty None rest fault P is = tt
faulty (Some bytes) rest fault P (found, was, is) = λ readable. absurd (apart readable.1.0 (sym readable.1.1 ∙ ap script (sym was.whole.0) ∙ is))
  where
    apart : (read : Script) → Ok read ≡ Err fault → ⊥
    apart read same = cc same

over_limit : (left : Option (List ℕ)) (P : Type 0) → IfSome left (λ bytes. limit < length bytes) → IfSome left (λ bytes. IsReadable bytes → P)
over_limit None P over = tt
over_limit (Some bytes) P over = λ readable. absurd (omega (arith, over, readable.0))

whatever : (left : Option (List ℕ)) (P : Type 0) → P → IfSome left (λ bytes. IsReadable bytes → P)
whatever None P holds = tt
whatever (Some bytes) P holds = λ readable. holds

-- the words ask for one task at most
asks_one : (P : Type 0) (words : List (String Global)) (one other : Task) → (Some one ≡ Some other → ⊥) → Asks words one → Asks words other → P
asks_one P words one other apart first second = absurd (apart (sym first ∙ second))

-- a generated script isn't the source's
not_of_source : (task : Task) (seed events nodes : ℕ) → is_of_source task ≡ true → Some task ≡ Some (Chaos seed events nodes) → ⊥
not_of_source Run seed events nodes of_source same = cc same
not_of_source Trace seed events nodes of_source same = cc same
not_of_source (ReadsLinear linear) seed events nodes of_source same = cc same
not_of_source (Watches watch) seed events nodes of_source same = cc same
not_of_source (Sync node) seed events nodes of_source same = cc same
not_of_source (Chaos s e n) seed events nodes of_source same = cc of_source

reads_nothing : (P : Type 0) (words : List (String Global)) (seed events nodes : ℕ) → AsksSource words → Asks words (Chaos seed events nodes) → P
reads_nothing P words seed events nodes (task, asked, of_source) asks =
    asks_one P words task (Chaos seed events nodes) (not_of_source task seed events nodes of_source) asked asks

asks_something : (P : Type 0) (words : List (String Global)) (task : Task) → Asks words task → AsksNothing words → P
asks_something P words task asks none = absurd (cc (asks, none))

-- a set that is run ends with its lines, or out of memory, or with a fault of the sink
ends_before : Stop → Bool
ends_before Memory = false
ends_before WriteFault = false
ends_before Usage = true
ends_before NoScript = true
ends_before ReadFault = true
ends_before TooLong = true
ends_before DiskFault = true
ends_before CopyFault = false
ends_before Refused = false

never : {D : Type 0} (P : Type 0) (task : Task) (parts : List Part) (old new : Option (List ℕ)) (stop : Stop) (set : Set D) → ends_before stop ≡ true → EndsTask task parts old new (Err stop) set → P
unfolding ends_before
never P Run parts old new Memory set before ends = absurd (cc before)
never P Run parts old new WriteFault set before ends = absurd (cc before)
never P Run parts old new Usage set before ends = absurd ends
never P Run parts old new NoScript set before ends = absurd ends
never P Run parts old new ReadFault set before ends = absurd ends
never P Run parts old new TooLong set before ends = absurd ends
never P Run parts old new DiskFault set before ends = absurd ends
never P Run parts old new CopyFault set before ends = absurd (cc before)
never P Run parts old new Refused set before ends = absurd (cc before)
never P Trace parts old new Memory set before ends = absurd (cc before)
never P Trace parts old new WriteFault set before ends = absurd (cc before)
never P Trace parts old new Usage set before ends = absurd ends
never P Trace parts old new NoScript set before ends = absurd ends
never P Trace parts old new ReadFault set before ends = absurd ends
never P Trace parts old new TooLong set before ends = absurd ends
never P Trace parts old new DiskFault set before ends = absurd ends
never P Trace parts old new CopyFault set before ends = absurd (cc before)
never P Trace parts old new Refused set before ends = absurd (cc before)
never P (ReadsLinear linear) parts old new Memory set before ends = absurd (cc before)
never P (ReadsLinear linear) parts old new WriteFault set before ends = absurd (cc before)
never P (ReadsLinear linear) parts old new Usage set before ends = absurd ends
never P (ReadsLinear linear) parts old new NoScript set before ends = absurd ends
never P (ReadsLinear linear) parts old new ReadFault set before ends = absurd ends
never P (ReadsLinear linear) parts old new TooLong set before ends = absurd ends
never P (ReadsLinear linear) parts old new DiskFault set before ends = absurd ends
never P (ReadsLinear linear) parts old new CopyFault set before ends = absurd (cc before)
never P (ReadsLinear linear) parts old new Refused set before ends = absurd (cc before)
never P (Watches watch) parts old new Memory set before ends = absurd (cc before)
never P (Watches watch) parts old new WriteFault set before ends = absurd (cc before)
never P (Watches watch) parts old new Usage set before ends = absurd ends
never P (Watches watch) parts old new NoScript set before ends = absurd ends
never P (Watches watch) parts old new ReadFault set before ends = absurd ends
never P (Watches watch) parts old new TooLong set before ends = absurd ends
never P (Watches watch) parts old new DiskFault set before ends = absurd ends
never P (Watches watch) parts old new CopyFault set before ends = absurd (cc before)
never P (Watches watch) parts old new Refused set before ends = absurd (cc before)
never P (Sync node) parts old new Memory set before ends = absurd (cc before)
never P (Sync node) parts old new WriteFault set before ends = absurd (cc before)
never P (Sync node) parts old new Usage set before ends = absurd ends
never P (Sync node) parts old new NoScript set before ends = absurd ends
never P (Sync node) parts old new ReadFault set before ends = absurd ends
never P (Sync node) parts old new TooLong set before ends = absurd ends
never P (Sync node) parts old new DiskFault set before ends = absurd ends
never P (Sync node) parts old new CopyFault set before ends = absurd (cc before)
never P (Sync node) parts old new Refused set before ends = absurd (cc before)
never P (Chaos seed events nodes) parts old new Memory set before ends = absurd (cc before)
never P (Chaos seed events nodes) parts old new WriteFault set before ends = absurd (cc before)
never P (Chaos seed events nodes) parts old new Usage set before ends = absurd ends
never P (Chaos seed events nodes) parts old new NoScript set before ends = absurd ends
never P (Chaos seed events nodes) parts old new ReadFault set before ends = absurd ends
never P (Chaos seed events nodes) parts old new TooLong set before ends = absurd ends
never P (Chaos seed events nodes) parts old new DiskFault set before ends = absurd ends
never P (Chaos seed events nodes) parts old new CopyFault set before ends = absurd (cc before)
never P (Chaos seed events nodes) parts old new Refused set before ends = absurd (cc before)

-- a member that was made, or wasn't, ends no call before its script is run
member_never : (stop : Stop) (made : Result (Unit {0}) SyncStop) → ends_before stop ≡ true → Err stop ≡ ended_so made → ⊥
unfolding ends_before
member_never stop (Ok done) before is = cc is
member_never stop (Err why) before is = cc (before, ap early is, later why)
  where
    early : Result (Unit {0}) Stop → Bool
    early (Ok done) = false
    early (Err other) = ends_before other

    later : (why : SyncStop) → ends_before (of_sync why) ≡ false
    later (syncs.Refused reason) = refl
    later syncs.DiskFault = refl
    later syncs.WriteFault = refl
    later syncs.Memory = refl

-- so nothing was run where a call ends otherwise
only_unrun : {D : Type 0} (P : Type 0) (state : D → State) (call : Call D) (handed : List D) (words : List (String Global)) (left rest old new : Option (List ℕ)) (stop : Stop) (outcome : Left D)
    → ends_before stop ≡ true → (EndsWithoutRun (IsAsked call words left rest) words left rest old new (Err stop) → P) → Ends state call handed words left rest old new (Err stop) outcome → P
only_unrun P state call handed words left rest old new stop (World set) before unrun (asked, sizes, ends) = never P call.task call.read.parts old new stop set before ends
only_unrun P state call handed words left rest old new stop (Parts events disks) before unrun (inl (none, ends)) = unrun ends
only_unrun P state call handed words left rest old new stop (Parts events disks) before unrun (inr (asked, ends)) = absurd (member_never stop ends.member.made before ends.member.ends)

-- each task may end in these
with_end : (task : Task) → IsOneOf (may_end_in task) 0
with_end Run = refl
with_end Trace = refl
with_end (ReadsLinear linear) = refl
with_end (Watches watch) = refl
with_end (Sync node) = refl
with_end (Chaos seed events nodes) = refl

with_memory : (task : Task) → IsOneOf (may_end_in task) 1
with_memory Run = refl
with_memory Trace = refl
with_memory (ReadsLinear linear) = refl
with_memory (Watches watch) = refl
with_memory (Sync node) = refl
with_memory (Chaos seed events nodes) = refl

with_disk : (task : Task) → IsOneOf (may_end_in task) 7
with_disk Run = refl
with_disk Trace = refl
with_disk (ReadsLinear linear) = refl
with_disk (Watches watch) = refl
with_disk (Sync node) = refl
with_disk (Chaos seed events nodes) = refl

-- the words ask for a task that may end so
abbrev AsksEnding : List (String Global) → ℕ → Type 0
AsksEnding words status = (task : Task) × Asks words task × IsOneOf (may_end_in task) status

asked_ending : (words : List (String Global)) (task : Task) (status : ℕ) → Asks words task → AsksEnding words status → IsOneOf (may_end_in task) status
asked_ending words task status asks (other, asked, may) = subst (λ t. IsOneOf (may_end_in t) status) (same_Some other task (sym asked ∙ asks)) may

-- a member isn't made where it is refused
made_unrefused : (held now : Option (List ℕ)) (text : List ℕ) (made : Result (Unit {0}) SyncStop) → Err Refused ≡ ended_so made → PutsText held now text made → ⊥
made_unrefused held now text (Ok done) is puts = cc is
made_unrefused held now text (Err (syncs.Refused why)) is puts = puts
made_unrefused held now text (Err syncs.DiskFault) is puts = cc is
made_unrefused held now text (Err syncs.WriteFault) is puts = cc is
made_unrefused held now text (Err syncs.Memory) is puts = cc is

-- only work after a script is refused
may_refuse : {D : Type 0} (task : Task) (parts : List Part) (old new : Option (List ℕ)) (set : Set D) → EndsTask task parts old new (Err Refused) set → IsOneOf (may_end_in task) 9
may_refuse Run parts old new set ends = absurd ends
may_refuse Trace parts old new set ends = absurd ends
may_refuse (Chaos seed events nodes) parts old new set ends = absurd ends
may_refuse (ReadsLinear linear) parts old new set ends = refl
may_refuse (Watches watch) parts old new set ends = refl
may_refuse (Sync node) parts old new set ends = refl

refused_ending : {D : Type 0} (state : D → State) (call : Call D) (handed : List D) (words : List (String Global)) (left rest old new : Option (List ℕ)) (outcome : Left D) → Ends state call handed words left rest old new (Err Refused) outcome
    → AsksEnding words 9
refused_ending state call handed words left rest old new (World set) (asked, sizes, ends) = (call.task, asked.asks, may_refuse call.task call.read.parts old new set ends)
refused_ending state call handed words left rest old new (Parts events disks) (inl (none, ends)) = absurd ends
refused_ending state call handed words left rest old new (Parts events disks) (inr (asked, ends)) =
    absurd (made_unrefused _ _ _ ends.member.made ends.member.ends ends.member.adds.puts)

-- only the disks of a new member fail after a script
never_copied : {D : Type 0} (P : Type 0) (task : Task) (parts : List Part) (old new : Option (List ℕ)) (set : Set D) → EndsTask task parts old new (Err CopyFault) set → P
never_copied P Run parts old new set ends = absurd ends
never_copied P Trace parts old new set ends = absurd ends
never_copied P (Chaos seed events nodes) parts old new set ends = absurd ends
never_copied P (ReadsLinear linear) parts old new set ends = absurd ends
never_copied P (Watches watch) parts old new set ends = absurd ends
never_copied P (Sync node) parts old new set ends = absurd ends

copy_ending : {D : Type 0} (state : D → State) (call : Call D) (handed : List D) (words : List (String Global)) (left rest old new : Option (List ℕ)) (outcome : Left D) → Ends state call handed words left rest old new (Err CopyFault) outcome
    → AsksEnding words 8
copy_ending state call handed words left rest old new (World set) (asked, sizes, ends) = never_copied _ call.task call.read.parts old new set ends
copy_ending state call handed words left rest old new (Parts events disks) (inl (none, ends)) = absurd ends
copy_ending state call handed words left rest old new (Parts events disks) (inr (asked, ends)) =
    (call.task, asked.asks, subst (λ t. IsOneOf (may_end_in t) 8) (sym ends.task_is) refl)

pub completes : {D : Type 0} (state : D → State) (call : Call D) (handed : List D) (words : List (String Global)) (left rest old new : Option (List ℕ)) (ended : Result (Unit {0}) Stop) (outcome : Left D)
    (SteadySource SteadySink : Type 0) (reads reads' writes writes' : ℕ)
    → Ends state call handed words left rest old new ended outcome → (status_of ended ≡ 4 → CountRose reads reads') → (status_of ended ≡ 5 → CountRose writes writes')
    → (SteadySource → status_of ended ≢ 4) → (SteadySink → status_of ended ≢ 5)
    → (task : Task) → Asks words task → is_of_source task ≡ true → HasNoFault SteadySource reads reads' → HasNoFault SteadySink writes writes'
    → IfSome left (λ bytes. IsReadable bytes → IsOneOf (may_end_in task) (status_of ended))
unfolding ends_before
completes state call handed words left rest old new (Ok done) outcome SteadySource SteadySink reads reads' writes writes' ends read_fault write_fault steady_source steady_sink task asks of_source source sink = whatever left _ (with_end task)
completes state call handed words left rest old new (Err Memory) outcome SteadySource SteadySink reads reads' writes writes' ends read_fault write_fault steady_source steady_sink task asks of_source source sink = whatever left _ (with_memory task)
completes state call handed words left rest old new (Err DiskFault) outcome SteadySource SteadySink reads reads' writes writes' ends read_fault write_fault steady_source steady_sink task asks of_source source sink = whatever left _ (with_disk task)
completes state call handed words left rest old new (Err ReadFault) outcome SteadySource SteadySink reads reads' writes writes' ends read_fault write_fault steady_source steady_sink task asks of_source source sink =
    absurd (no_fault SteadySource reads reads' source (λ steady. steady_source steady refl) (read_fault refl))
completes state call handed words left rest old new (Err WriteFault) outcome SteadySource SteadySink reads reads' writes writes' ends read_fault write_fault steady_source steady_sink task asks of_source source sink =
    absurd (no_fault SteadySink writes writes' sink (λ steady. steady_sink steady refl) (write_fault refl))
completes state call handed words left rest old new (Err Usage) outcome SteadySource SteadySink reads reads' writes writes' ends read_fault write_fault steady_source steady_sink task asks of_source source sink =
    only_unrun _ state call handed words left rest old new Usage outcome refl (λ unrun. asks_something _ words task asks unrun.0) ends
completes state call handed words left rest old new (Err NoScript) outcome SteadySource SteadySink reads reads' writes writes' ends read_fault write_fault steady_source steady_sink task asks of_source source sink =
    only_unrun _ state call handed words left rest old new NoScript outcome refl (λ unrun. faulty left rest unrun.1.0 _ unrun.1.1) ends
completes state call handed words left rest old new (Err TooLong) outcome SteadySource SteadySink reads reads' writes writes' ends read_fault write_fault steady_source steady_sink task asks of_source source sink =
    only_unrun _ state call handed words left rest old new TooLong outcome refl (λ unrun. over_limit left _ unrun.2) ends
completes state call handed words left rest old new (Err Refused) outcome SteadySource SteadySink reads reads' writes writes' ends read_fault write_fault steady_source steady_sink task asks of_source source sink =
    whatever left _ (asked_ending words task 9 asks (refused_ending state call handed words left rest old new outcome ends))
completes state call handed words left rest old new (Err CopyFault) outcome SteadySource SteadySink reads reads' writes writes' ends read_fault write_fault steady_source steady_sink task asks of_source source sink =
    whatever left _ (asked_ending words task 8 asks (copy_ending state call handed words left rest old new outcome ends))

-- ---- a generated script is run

pub completes_chaos : {D : Type 0} (state : D → State) (call : Call D) (handed : List D) (words : List (String Global)) (left rest old new : Option (List ℕ)) (ended : Result (Unit {0}) Stop) (outcome : Left D) (SteadySink : Type 0) (writes writes' : ℕ)
    → Ends state call handed words left rest old new ended outcome → (status_of ended ≡ 5 → CountRose writes writes') → (SteadySink → status_of ended ≢ 5)
    → (seed events nodes : ℕ) → Asks words (Chaos seed events nodes) → HasNoFault SteadySink writes writes' → IsOneOf (0 ∷ 1 ∷ 7 ∷ []) (status_of ended)
unfolding ends_before
completes_chaos state call handed words left rest old new (Ok done) outcome SteadySink writes writes' ends write_fault steady_sink seed events nodes asks sink = refl
completes_chaos state call handed words left rest old new (Err Memory) outcome SteadySink writes writes' ends write_fault steady_sink seed events nodes asks sink = refl
completes_chaos state call handed words left rest old new (Err DiskFault) outcome SteadySink writes writes' ends write_fault steady_sink seed events nodes asks sink = refl
completes_chaos state call handed words left rest old new (Err WriteFault) outcome SteadySink writes writes' ends write_fault steady_sink seed events nodes asks sink =
    absurd (no_fault SteadySink writes writes' sink (λ steady. steady_sink steady refl) (write_fault refl))
completes_chaos state call handed words left rest old new (Err Usage) outcome SteadySink writes writes' ends write_fault steady_sink seed events nodes asks sink =
    only_unrun _ state call handed words left rest old new Usage outcome refl (λ unrun. asks_something _ words (Chaos seed events nodes) asks unrun.0) ends
completes_chaos state call handed words left rest old new (Err ReadFault) outcome SteadySink writes writes' ends write_fault steady_sink seed events nodes asks sink =
    only_unrun _ state call handed words left rest old new ReadFault outcome refl (λ unrun. reads_nothing _ words seed events nodes unrun.0 asks) ends
completes_chaos state call handed words left rest old new (Err NoScript) outcome SteadySink writes writes' ends write_fault steady_sink seed events nodes asks sink =
    only_unrun _ state call handed words left rest old new NoScript outcome refl (λ unrun. reads_nothing _ words seed events nodes unrun.0 asks) ends
completes_chaos state call handed words left rest old new (Err TooLong) outcome SteadySink writes writes' ends write_fault steady_sink seed events nodes asks sink =
    only_unrun _ state call handed words left rest old new TooLong outcome refl (λ unrun. reads_nothing _ words seed events nodes unrun.0 asks) ends
completes_chaos state call handed words left rest old new (Err Refused) outcome SteadySink writes writes' ends write_fault steady_sink seed events nodes asks sink =
    asked_ending words (Chaos seed events nodes) 9 asks (refused_ending state call handed words left rest old new outcome ends)
completes_chaos state call handed words left rest old new (Err CopyFault) outcome SteadySink writes writes' ends write_fault steady_sink seed events nodes asks sink =
    asked_ending words (Chaos seed events nodes) 8 asks (copy_ending state call handed words left rest old new outcome ends)
