-- A sync after a script.
use Rattle.std.proofs.Common.{◌≡◌, ◌≢◌, ◌∙◌, ◌≤◌, ◌+◌, ◌*◌, ◌++◌, ◌∷◌, ap, sym, subst, refl, inr, ℕ, List, [], Option, Result, Ok, Err, length, drop}
use Rattle.std.specs.Prelude.{All, IfErr, IfOk, IsErrOf, Vec}
use Rattle.std.proofs.lemmas.List.Elements.{All-drop}
use Rattle.std.specs.Io.KnownBytes.{Appends}
use Rattle.std.specs.declared.alloc.Global.{Global}
use Rattle.rs_disk.specs.File.{IsEmpty}
use Rattle.rs_disk.specs.State.{State}
use Rattle.rs_io.specs.Fault.{HasCause}
use Rattle.fault_script.specs.declared.script.Part.{Part}
use Rattle.fault_script.specs.declared.script.Script.{Script}
use Rattle.fault_script.specs.Script.{sizes_of}
use Rattle.set_model.specs.declared.command.Event.{Event}
use Rattle.set_model.specs.Limits.{IsRun}
use Rattle.set_model.specs.Run.{AreSizes, Sizes, run}
use Rattle.set_model.specs.Safety.{Safe}
use Rattle.safety_laws.specs.Bounds.{NumbersStaySmall}
use Rattle.safety_laws.specs.Laws.{InEveryRun}
use Rattle.set_world.specs.Disks.{Opens}
use Rattle.set_world.specs.World.{Set}
use Rattle.sync_member.proofs.IdleLemmas.{played_idle, room_after}
use Rattle.sync_member.proofs.MemberLemmas.{cause_then}
use Rattle.sync_member.specs.Adding.{AddsMember, AddsNoMember}
use Rattle.sync_pin.specs.Asking.{Pins}
use Rattle.sync_words.specs.declared.stop.SyncStop.{SyncStop}
use Rattle.sync_words.specs.declared.stop.SyncStop.TheVariants as syncs
use Rattle.transcript.specs.Replies.{text}
use Rattle.set_program.specs.declared.outcome.Left.{Left}
use Rattle.set_program.specs.declared.outcome.Left.TheVariants.{World, Parts}
use Rattle.set_program.specs.declared.stop.Stop.{Stop}
use Rattle.set_program.specs.declared.stop.Stop.TheVariants.{Memory, WriteFault}
use Rattle.task_words.specs.declared.words.Task.{Task}
use Rattle.task_words.specs.declared.words.Task.TheVariants.{Sync}
use Rattle.set_program.specs.Asking.{OpensScript, PlaysScript, RunsScript, call_of}
use Rattle.set_program.specs.AfterScript.{AfterScript, EndsAfterScript}
use Rattle.set_program.specs.Causes.{of_sync}
use Rattle.set_program.specs.Disks.{DisksPlayed}
use Rattle.set_program.specs.Headline.{EndsTask, status_of}
use Rattle.set_program.specs.Left.{IfParts, IfSet}
use Rattle.set_program.specs.Orders.{Follows}
use Rattle.set_program.specs.Parts.{DisksAfterScript, DisksEnd}
use Rattle.set_program.specs.Syncing.{IsRunSafely, MadeMember, MakesMember, MakesNoMember, ended_so, left_so}
use Rattle.set_program.proofs.DisksLemmas.{played_on}
use Rattle.set_program.proofs.OpenLemmas.{set_leaves}
use Rattle.set_program.proofs.RanLemmas.{ran_safely}
use Rattle.set_program.proofs.AfterScriptLemmas.{work_disks}

-- ---- the script was played to its end, and the set is still there

module _ {D : Type 0} (state : D → State) (node : ℕ) (parts : List Part) (old told new : Option (List ℕ)) (first : List D) (mid last : Set D) (follows : Follows parts mid.history) (put : Appends old told (text (run mid.sizes mid.history))) where
  no_member_ends : (why : SyncStop) → last.sizes ≡ mid.sizes → Pins mid.sizes node mid.history last.history told new (Err why) → EndsAfterScript parts old new (MakesNoMember node last.sizes last.history new) (Err (of_sync why)) last
  no_member_ends why same pins = by_stop why pins
    where
      after : (stop : SyncStop) → Pins mid.sizes node mid.history last.history told new (Err stop) → AfterScript parts old last (MakesNoMember node last.sizes last.history new (Err (of_sync stop)))
      after stop pinned = record {
        scripted = mid.history;
        follows = follows;
        told = told;
        transcript = subst (λ (s : Sizes). Appends old told (text (run s mid.history))) (sym same) put;
        work = (stop, refl, subst (λ (s : Sizes). Pins s node mid.history last.history told new (Err stop)) (sym same) pinned);
      }

      by_stop : (stop : SyncStop) → Pins mid.sizes node mid.history last.history told new (Err stop) → EndsAfterScript parts old new (MakesNoMember node last.sizes last.history new) (Err (of_sync stop)) last
      by_stop (syncs.Refused reason) pinned = after (syncs.Refused reason) pinned
      by_stop syncs.DiskFault never = absurd never
      by_stop syncs.WriteFault pinned = inr (after syncs.WriteFault pinned)
      by_stop syncs.Memory pinned = inr (after syncs.Memory pinned)

  pub without_member : (ended : Result (Unit {0}) SyncStop) → AddsNoMember state node mid last told new ended → EndsAfterScript parts old new (MakesNoMember node last.sizes last.history new) (ended_so ended) last
  without_member ended no_member =
      subst (λ e. EndsAfterScript parts old new (MakesNoMember node last.sizes last.history new) (ended_so e) last) (sym no_member.ends) (no_member_ends no_member.why no_member.went.sizes no_member.pins)

out_of_memory : (why : SyncStop) → ended_so (Err why) ≢ Err Memory → why ≢ syncs.Memory
out_of_memory why other is = other (ap (λ (s : SyncStop). ended_so (Err s)) is)

pub no_member_disks : {D : Type 0} (state : D → State) (node : ℕ) (parts : List Part) (first : List D) (mid last : Set D) (told new : Option (List ℕ)) (ended : Result (Unit {0}) SyncStop)
    → Follows parts mid.history → DisksPlayed state first mid → AddsNoMember state node mid last told new ended → DisksAfterScript state parts first last (ended_so ended ≡ Err Memory)
no_member_disks {D} state node parts first mid last told new ended follows played no_member =
    subst (λ e. DisksAfterScript state parts first last (ended_so e ≡ Err Memory)) (sym no_member.ends)
    (work_disks state parts first mid last no_member.went follows played (Err (of_sync no_member.why)) (λ other. no_member.whole (out_of_memory no_member.why other)))

-- ---- or it was closed, and a member made

pub made_after : {D : Type 0} (state : D → State) (node : ℕ) (parts : List Part) (old told new : Option (List ℕ)) (first : List D) (mid : Set D) (sizes : Sizes) (ended : Result (Unit {0}) SyncStop) (events : List Event) (disks : List D)
    → mid.sizes ≡ sizes → Follows parts mid.history → Appends old told (text (run mid.sizes mid.history)) → DisksPlayed state first mid → AddsMember state node mid told new ended events disks
    → MakesMember state node parts sizes first old new (ended_so ended) events disks
made_after state node parts old told new first mid sizes ended events disks same follows put played adds = record {
  scripted = mid;
  sizes_are = same;
  follows = follows;
  played = played;
  told = told;
  transcript = subst (λ (s : Sizes). Appends old told (text (run s mid.history))) same put;
  made = ended;
  ends = refl;
  adds = adds;
}

-- ---- both

abbrev Both : Type 0 → Type 0
Both D = Result (Vec Event Global × Vec D Global) (Set D)

module _ {D : Type 0} (state : D → State) (node : ℕ) (parts : List Part) (old told new : Option (List ℕ)) (first : List D) (sizes : Sizes) (mid : Set D) (ended : Result (Unit {0}) SyncStop)
    (same : mid.sizes ≡ sizes) (follows : Follows parts mid.history) (put : Appends old told (text (run mid.sizes mid.history))) (played : DisksPlayed state first mid) where
  abbrev AddsNone : Set D → Type 0
  AddsNone set = AddsNoMember state node mid set told new ended

  abbrev Adds : Vec Event Global × Vec D Global → Type 0
  Adds closed = AddsMember state node mid told new ended closed.0.items closed.1.items

  pub synced_ends : (left : Both D) → IfErr left AddsNone → IfSet (left_so left) (λ set. EndsAfterScript parts old new (MakesNoMember node set.sizes set.history new) (ended_so ended) set)
  synced_ends (Ok closed) no_member = tt
  synced_ends (Err set) no_member = without_member state node parts old told new first mid set follows put ended no_member

  pub synced_sizes : (left : Both D) → IfErr left AddsNone → IfSet (left_so left) (λ set. set.sizes ≡ sizes)
  synced_sizes (Ok closed) no_member = tt
  synced_sizes (Err set) no_member = no_member.went.sizes ∙ same

  pub synced_disks : (left : Both D) → IfErr left AddsNone → IfSet (left_so left) (λ set. DisksAfterScript state parts first set (ended_so ended ≡ Err Memory))
  synced_disks (Ok closed) no_member = tt
  synced_disks (Err set) no_member = no_member_disks state node parts first mid set told new ended follows played no_member

  pub synced_member : (left : Both D) → IfOk left Adds → IfParts (left_so left) (λ events disks. MakesMember state node parts sizes first old new (ended_so ended) events disks)
  synced_member (Ok closed) adds = made_after state node parts old told new first mid sizes ended closed.0.items closed.1.items same follows put played adds
  synced_member (Err set) adds = tt

-- the same of the task that asked for it
pub task_member : {D : Type 0} (state : D → State) (task : Task) (node : ℕ) (parts : List Part) (sizes : Sizes) (first : List D) (old new : Option (List ℕ)) (ended : Result (Unit {0}) Stop) → task ≡ Sync node → (left : Left D)
    → IfParts left (λ events disks. MakesMember state node parts sizes first old new ended events disks) → IfParts left (λ events disks. MadeMember state task parts sizes first old new ended events disks)
task_member state task node parts sizes first old new ended is (World set) made = tt
task_member state task node parts sizes first old new ended is (Parts events disks) made = (node, is, made)

-- ---- faults of the sink

write_fault : (ended : Result (Unit {0}) SyncStop) → IsErrOf (ended_so ended) WriteFault → IsErrOf ended syncs.WriteFault
write_fault (Ok done) is = absurd (cc is)
write_fault (Err (syncs.Refused why)) is = absurd (cc is)
write_fault (Err syncs.DiskFault) is = absurd (cc is)
write_fault (Err syncs.WriteFault) is = refl
write_fault (Err syncs.Memory) is = absurd (cc is)

pub synced_cause : (before between now : ℕ) (First : Type 0) (ended : Result (Unit {0}) SyncStop) → HasCause before between First → HasCause between now (IsErrOf ended syncs.WriteFault)
    → HasCause before now (IsErrOf (ended_so ended) WriteFault)
synced_cause before between now First ended first second =
    cause_then before between now First (IsErrOf (ended_so ended) WriteFault) first (record { later = second.later; rose = λ fault. second.rose (write_fault ended fault) })

pub synced_steady : (ended : Result (Unit {0}) SyncStop) → ended ≢ Err syncs.WriteFault → ended_so ended ≢ Err WriteFault
synced_steady (Ok done) other is = cc is
synced_steady (Err (syncs.Refused why)) other is = cc is
synced_steady (Err syncs.DiskFault) other is = cc is
synced_steady (Err syncs.WriteFault) other is = other refl
synced_steady (Err syncs.Memory) other is = cc is

-- ---- the disks of the new member are still empty after the script

module _ {D : Type 0} (state : D → State) (first : List D) (mid : Set D) (small : NumbersStaySmall mid.sizes mid.history) (is_run : IsRun mid.sizes mid.history) (played : DisksPlayed state first mid) where
  idle : drop (2 * mid.sizes.nodes) mid.disks ≡ drop (2 * mid.sizes.nodes) first
  idle = played_idle state mid.sizes mid.history small is_run first mid.disks played

  pub spare_after : All (λ (disk : D). IsEmpty (state disk).file) (drop (2 * mid.sizes.nodes) first) → All (λ (disk : D). IsEmpty (state disk).file) (drop (2 * mid.sizes.nodes) mid.disks)
  spare_after spare = subst (All (λ (disk : D). IsEmpty (state disk).file)) (sym idle) spare

  pub room_still : 2 * mid.sizes.nodes + 2 ≤ length first → 2 * mid.sizes.nodes + 2 ≤ length mid.disks
  room_still room = room_after (2 * mid.sizes.nodes) first mid.disks idle room

-- as the set is opened, they are as they were handed in
pub spare_first : {D : Type 0} (state : D → State) (handed : List D) (begun : Set D) (sizes : Sizes) → begun.sizes ≡ sizes → Opens state sizes.nodes (Ok tt) handed begun.disks → All (λ (disk : D). IsEmpty (state disk).file) handed
    → All (λ (disk : D). IsEmpty (state disk).file) (drop (2 * begun.sizes.nodes) begun.disks)
spare_first {D} state handed begun sizes same opens empty =
    subst (λ (s : Sizes). All (λ (disk : D). IsEmpty (state disk).file) (drop (2 * s.nodes) begun.disks)) (sym same)
    (subst (All (λ (disk : D). IsEmpty (state disk).file)) (sym opens.idle) (All-drop (λ (disk : D). IsEmpty (state disk).file) (2 * sizes.nodes) handed empty))

-- ---- what the run of a script leaves

not_opened : (made : Result (Unit {0}) SyncStop) → status_of (ended_so made) ≢ 7
not_opened (Ok done) seven = cc seven
not_opened (Err (syncs.Refused why)) seven = cc seven
not_opened (Err syncs.DiskFault) seven = cc seven
not_opened (Err syncs.WriteFault) seven = cc seven
not_opened (Err syncs.Memory) seven = cc seven

never_empty : (front : List Event) (event : Event) → front ++ event ∷ [] ≢ []
never_empty [] event is = cc is
never_empty (first ∷ front) event is = cc is

-- the node that was asked left events
has_events : {D : Type 0} (state : D → State) (node : ℕ) (mid : Set D) (told new : Option (List ℕ)) (made : Result (Unit {0}) SyncStop) (events : List Event) (disks : List D) → AddsMember state node mid told new made events disks → events ≢ []
has_events state node mid told new made events disks adds none =
    let last = adds.pins.1.asks_documents in never_empty last.met last.event (sym last.new_is ∙ sym adds.events_are ∙ none)

task_leaves : {D : Type 0} (state : D → State) (task : Task) (read : Script) (handed : List D) (begun : Set D) (left : Left D) (held now : Option (List ℕ)) (result : Result (Unit {0}) Stop)
    → begun.sizes ≡ sizes_of read → Opens state read.nodes (Ok tt) handed begun.disks → IfSet left (λ set. set.sizes ≡ begun.sizes) → IfSet left (λ set. DisksEnd state task read.parts begun.disks set (result ≡ Err Memory))
    → IfParts left (λ events disks. MadeMember state task read.parts begun.sizes begun.disks held now result events disks) → OpensScript state (call_of task read begun.disks) handed (status_of result) left
task_leaves state task read handed begun (World set) held now result sizes opens same goes made = set_leaves state task read handed begun set result sizes same opens goes
task_leaves state task read handed begun (Parts events disks) held now result sizes opens same goes (node, is, made) =
    inr (subst (λ r. status_of r ≢ 7) (sym made.ends) (not_opened made.made), has_events state node made.scripted made.told now made.made events.items disks.items made.adds)

-- what holds of a member that was made after the script of a set that was opened
record IsMadeSoundly {D : Type 0} (state : D → State) (handed : List D) (node : ℕ) (parts : List Part) (first : List D) (old new : Option (List ℕ)) (ended : Result (Unit {0}) Stop) (events : List Event) (disks : List D)
    (sizes : Sizes) : Type 0 where
  made : MakesMember state node parts sizes first old new ended events disks
  sound : IsRunSafely state handed made.adds.set
  idle : drop (2 * sizes.nodes) made.adds.set.disks ≡ drop (2 * sizes.nodes) handed

module _ {D : Type 0} (state : D → State) (handed : List D) (many : length handed ≡ 100) (law : InEveryRun Safe) (small : InEveryRun NumbersStaySmall) where
  module _ (node : ℕ) (parts : List Part) (first : List D) (old new : Option (List ℕ)) (ended : Result (Unit {0}) Stop) (events : List Event) (disks : List D) (sizes : Sizes) (are : AreSizes sizes)
      (opens : Opens state sizes.nodes (Ok tt) handed first) (made : MakesMember state node parts sizes first old new ended events disks) where
    abbrev closed : Set D
    closed = made.adds.set

    same_sizes : closed.sizes ≡ sizes
    same_sizes = made.adds.went.sizes ∙ made.sizes_are

    sizes_there : AreSizes closed.sizes
    sizes_there = subst AreSizes (sym same_sizes) are

    played_closed : DisksPlayed state first closed
    played_closed = played_on state first made.scripted closed made.adds.went.added made.adds.went.sizes made.adds.went.history (made.adds.went.played made.adds.whole) made.played

    made_soundly : IsMadeSoundly state handed node parts first old new ended events disks sizes
    made_soundly = record {
      made = made;
      sound = ran_safely state handed many first closed sizes_there (subst (λ (s : Sizes). Opens state s.nodes (Ok tt) handed first) (sym same_sizes) opens) played_closed made.adds.defined law;
      idle = subst (λ (s : Sizes). drop (2 * s.nodes) closed.disks ≡ drop (2 * s.nodes) first) same_sizes
          (played_idle state closed.sizes closed.history (small closed.sizes closed.history sizes_there made.adds.defined) made.adds.defined first closed.disks played_closed) ∙ opens.idle;
    }

  task_runs : (task : Task) (read : Script) (begun : Set D) (left : Left D) (held now : Option (List ℕ)) (result : Result (Unit {0}) Stop)
      → AreSizes (sizes_of read) → begun.sizes ≡ sizes_of read → Opens state read.nodes (Ok tt) handed begun.disks
      → IfSet left (λ set. set.sizes ≡ begun.sizes) → IfSet left (λ set. EndsTask task read.parts held now result set)
      → IfParts left (λ events disks. MadeMember state task read.parts begun.sizes begun.disks held now result events disks) → RunsScript state (call_of task read begun.disks) handed held now result left
  task_runs task read begun (World set) held now result are sizes opens same ends made = (same ∙ sizes, ends)
  task_runs task read begun (Parts events disks) held now result are sizes opens same ends (node, is, made) =
      let soundly = made_soundly node read.parts begun.disks held now result events.items disks.items (sizes_of read) are opens
      (subst (λ (s : Sizes). MakesMember state node read.parts s begun.disks held now result events.items disks.items) sizes made) in
      inr (record {
        node = node;
        task_is = is;
        opens = opens;
        member = soundly.made;
        sound = soundly.sound;
        idle = soundly.idle;
      })

  pub task_plays : (task : Task) (read : Script) (begun : Set D) (left : Left D) (held now : Option (List ℕ)) (result : Result (Unit {0}) Stop)
      → AreSizes (sizes_of read) → begun.sizes ≡ sizes_of read → Opens state read.nodes (Ok tt) handed begun.disks
      → IfSet left (λ set. set.sizes ≡ begun.sizes) → IfSet left (λ set. EndsTask task read.parts held now result set)
      → IfSet left (λ set. DisksEnd state task read.parts begun.disks set (result ≡ Err Memory))
      → IfParts left (λ events disks. MadeMember state task read.parts begun.sizes begun.disks held now result events disks) → PlaysScript state handed task read held now result left
  task_plays task read begun left held now result are sizes opens same ends goes made = (
    begun.disks,
    task_runs task read begun left held now result are sizes opens same ends made,
    task_leaves state task read handed begun left held now result sizes opens same goes made,
  )
