-- The disks that a call leaves.
use Rattle.std.proofs.Common.{ℕ, ◌≡◌, ◌*◌, List, [], Option, Some, Result, Ok, Err, String, refl, subst, sym, ap, inl, inr, ◌∙◌}
use Rattle.std.specs.Prelude.{◌≢◌, ◌⊎◌, All, Vec, slice_get}
use Rattle.std.specs.declared.alloc.Global.{Global}
use Rattle.std.proofs.lemmas.List.Elements.{All-get_or}
use Rattle.std.proofs.lemmas.Option.{get_or_from_slice_get, slice_get_within}
use Rattle.rs_disk.specs.State.{State}
use Rattle.record_file.specs.declared.error.FileError.{FileError}
use Rattle.record_file.specs.declared.error.FileError.TheVariants.{Disk, Memory as NoBytes}
use Rattle.member_config.specs.Config.{first_config}
use Rattle.set_model.specs.declared.command.Event.{Event}
use Rattle.set_model.specs.Run.{Sizes}
use Rattle.fault_script.specs.declared.script.Part.{Part}
use Rattle.fault_script.specs.declared.script.Script.{Script}
use Rattle.fault_script.specs.Script.{sizes_of}
use Rattle.set_world.specs.World.{Set}
use Rattle.set_world.specs.Disks.{AllBegin, Opens, OneFaultCounted}
use Rattle.set_program.specs.declared.outcome.Left.{Left}
use Rattle.set_program.specs.declared.outcome.Left.TheVariants.{World, Parts}
use Rattle.set_program.specs.declared.stop.Stop.{Stop}
use Rattle.set_program.specs.declared.stop.Stop.TheVariants.{Memory, Usage, Script as NoScript, ReadFault, WriteFault, TooLong, DiskFault, CopyFault, Refused}
use Rattle.task_words.specs.declared.words.Task.{Task}
use Rattle.task_words.specs.declared.words.Task.TheVariants.{Run, Trace, Chaos, Sync, Linear as ReadsLinear, Watch as Watches}
use Rattle.set_program.specs.Asking.{OpensScript, PlaysScript, call_of}
use Rattle.set_program.specs.Calls.{Call, IsAsked}
use Rattle.set_program.specs.Causes.{of_file}
use Rattle.set_program.specs.Headline.{Ends, EndsTask, LeavesDisks, opening_error, status_of, status_of_stop}
use Rattle.set_program.specs.Left.{disks_of}
use Rattle.set_program.specs.Disks.{IsUnarmed}
use Rattle.set_program.specs.Parts.{DisksEnd, DisksGo}
use Rattle.change_watch.proofs.KeepLemmas.{Keeps-same}

-- ---- a set was opened, and went on

-- whether memory ran out, said otherwise
pub go_out : {D : Type 0} (state : D → State) (parts : List Part) (first : List D) (set : Set D) (One Two : Type 0) → (One → Two) → DisksGo state parts first set One → DisksGo state parts first set Two
go_out state parts first set One Two memory (inl played) = inl played
go_out state parts first set One Two memory (inr (out, more)) = inr (memory out, more)

-- the same of a task
end_out : {D : Type 0} (state : D → State) (task : Task) (parts : List Part) (first : List D) (set : Set D) (One Two : Type 0) → (One → Two) → DisksEnd state task parts first set One → DisksEnd state task parts first set Two
end_out state task parts first set One Two memory (inl played) = inl played
end_out state task parts first set One Two memory (inr (out, more)) = inr (memory out, more)

pub set_leaves : {D : Type 0} (state : D → State) (task : Task) (read : Script) (handed : List D) (old new : Set D) (result : Result (Unit {0}) Stop)
    → old.sizes ≡ sizes_of read → new.sizes ≡ old.sizes → Opens state read.nodes (Ok tt) handed old.disks → DisksEnd state task read.parts old.disks new (result ≡ Err Memory)
    → OpensScript state (call_of task read old.disks) handed (status_of result) (World new)
set_leaves {D} state task read handed old new result sizes same opens goes = (
  subst (λ (n : ℕ). Opens state n (Ok tt) handed old.disks) (sym (ap (λ (s : Sizes). s.nodes) (same ∙ sizes))) opens,
  end_out state task read.parts old.disks new (result ≡ Err Memory) (status_of result ≡ 1) (λ out. ap (λ (r : Result (Unit {0}) Stop). status_of r) out) goes,
)

-- ---- it couldn't be opened

refuses : {D : Type 0} (state : D → State) (task : Task) (read : Script) (handed : List D) (error : FileError) (opened : List D) (events : Vec Event Global) (disks : Vec D Global)
    → Opens state read.nodes (Err error) handed disks.items → AllBegin state (first_config read.voters read.members) read.nodes disks.items
    → OpensScript state (call_of task read opened) handed (status_of_stop (of_file error)) (Parts events disks)
refuses state task read handed Disk opened events disks opens stand = inl (refl, opens, stand)
refuses state task read handed NoBytes opened events disks opens stand = inl (refl, opens, stand)

stops : (error : FileError) (ended : Result (Unit {0}) Stop) → ended ≡ Err (of_file error) → (ended ≡ Err Memory) ⊎ (ended ≡ Err DiskFault)
stops Disk ended is = inr is
stops NoBytes ended is = inl is

pub refused : {D : Type 0} (state : D → State) (handed : List D) (task : Task) (read : Script) (held : Option (List ℕ)) (error : FileError) (stop : Stop) (events : Vec Event Global) (disks : Vec D Global)
    → stop ≡ of_file error → events.items ≡ [] → Opens state read.nodes (Err error) handed disks.items → AllBegin state (first_config read.voters read.members) read.nodes disks.items
    → PlaysScript state handed task read held held (Err stop) (Parts events disks)
refused state handed task read held error stop events disks is none opens stand = (
  disks.items,
  inl (none, Keeps-same held, stops error (Err stop) (ap Err is)),
  subst (λ (s : Stop). OpensScript state (call_of task read disks.items) handed (status_of_stop s) (Parts events disks)) (sym is) (refuses state task read handed error disks.items events disks opens stand),
)

-- ---- what the whole call leaves

-- a set that was opened doesn't end with a fault of a disk
not_opening : {D : Type 0} (task : Task) (parts : List Part) (old new : Option (List ℕ)) (ended : Result (Unit {0}) Stop) (set : Set D) → EndsTask task parts old new ended set → status_of ended ≢ 7
not_opening task parts old new (Ok done) set ends seven = cc seven
not_opening task parts old new (Err Memory) set ends seven = cc seven
not_opening task parts old new (Err WriteFault) set ends seven = cc seven
not_opening task parts old new (Err Usage) set ends seven = cc seven
not_opening task parts old new (Err NoScript) set ends seven = cc seven
not_opening task parts old new (Err ReadFault) set ends seven = cc seven
not_opening task parts old new (Err TooLong) set ends seven = cc seven
not_opening task parts old new (Err CopyFault) set ends seven = cc seven
not_opening task parts old new (Err Refused) set ends seven = cc seven
not_opening Run parts old new (Err DiskFault) set ends seven = ends
not_opening (ReadsLinear linear) parts old new (Err DiskFault) set ends seven = ends
not_opening (Watches watch) parts old new (Err DiskFault) set ends seven = ends
not_opening (Sync node) parts old new (Err DiskFault) set ends seven = ends
not_opening Trace parts old new (Err DiskFault) set ends seven = ends
not_opening (Chaos seed events nodes) parts old new (Err DiskFault) set ends seven = ends

-- what holds of the opening of a script's set holds where a disk failed
when_failed : {D : Type 0} (state : D → State) (call : Call D) (words : List (String Global)) (left rest old new : Option (List ℕ)) (handed : List D) (ended : Result (Unit {0}) Stop) (outcome : Left D)
    → Ends state call handed words left rest old new ended outcome → LeavesDisks state call words left rest handed (status_of ended) outcome → status_of ended ≡ 7
    → IsAsked call words left rest × Opens state call.read.nodes (Err (opening_error (status_of ended))) handed (disks_of outcome)
when_failed state call words left rest old new handed ended (World set) (asked, sizes, runs) leaves seven = absurd (not_opening call.task call.read.parts old new ended set runs seven)
when_failed state call words left rest old new handed ended (Parts events disks) ends (inl (other, same)) seven = absurd (other seven)
when_failed state call words left rest old new handed ended (Parts events disks) ends (inr (inl (one, asked, opens, stand))) seven = (asked, opens)
when_failed state call words left rest old new handed ended (Parts events disks) ends (inr (inr (other, some))) seven = absurd (other seven)

pub disk_failed : {D : Type 0} (state : D → State) (call : Call D) (words : List (String Global)) (left rest old new : Option (List ℕ)) (handed : List D) (ended : Result (Unit {0}) Stop) (outcome : Left D)
    → Ends state call handed words left rest old new ended outcome → LeavesDisks state call words left rest handed (status_of ended) outcome → status_of ended ≡ 7
    → IsAsked call words left rest × OneFaultCounted state (2 * call.read.nodes) handed (disks_of outcome)
disk_failed state call words left rest old new handed ended outcome ends leaves seven =
    let failed = when_failed state call words left rest old new handed ended outcome ends leaves seven in
    (failed.0, failed.1.cause (ap opening_error seven))

pub unarmed_at : {D : Type 0} (state : D → State) (handed : List D) → All (λ (disk : D). IsUnarmed (state disk)) handed → (place : ℕ) (disk : D) → slice_get handed place ≡ Some disk → IsUnarmed (state disk)
unarmed_at {D} state handed unarmed place disk at =
    subst (λ (d : D). IsUnarmed (state d)) (get_or_from_slice_get handed place disk disk at)
    (All-get_or (λ (d : D). IsUnarmed (state d)) handed place disk (slice_get_within handed place disk at) unarmed)

pub none_failed : {D : Type 0} (state : D → State) (call : Call D) (words : List (String Global)) (left rest old new : Option (List ℕ)) (handed : List D) (ended : Result (Unit {0}) Stop) (outcome : Left D)
    → Ends state call handed words left rest old new ended outcome → LeavesDisks state call words left rest handed (status_of ended) outcome → All (λ (disk : D). IsUnarmed (state disk)) handed → status_of ended ≢ 7
none_failed {D} state call words left rest old new handed ended outcome ends leaves unarmed seven =
    let failed = when_failed state call words left rest old new handed ended outcome ends leaves seven in
    let armed = failed.1.only_armed (ap opening_error seven) (λ place disk within at. (unarmed_at state handed unarmed place disk at).0) in
    (unarmed_at state handed unarmed armed.0 armed.1 armed.3).1 armed.4
