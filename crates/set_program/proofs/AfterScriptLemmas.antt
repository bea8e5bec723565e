-- Work after a script.
use Rattle.std.proofs.Common.{◌≡◌, ◌≢◌, ◌∙◌, ◌++◌, ℕ, true, false, List, Option, Result, Ok, Err, ap, refl, sym, subst, inl, inr}
use Rattle.std.specs.Prelude.{Bool}
use Rattle.std.specs.Io.KnownBytes.{Appends}
use Rattle.rs_disk.specs.State.{State}
use Rattle.set_model.specs.declared.command.Event.{Event}
use Rattle.set_model.specs.Run.{Sizes, opening, run}
use Rattle.fault_script.specs.declared.script.Part.{Part}
use Rattle.transcript.specs.Replies.{text}
use Rattle.set_world.specs.Went.{DisksPlay, GoesOn, WentOn}
use Rattle.set_world.specs.World.{Set}
use Rattle.shared_set.specs.Attempts.{AttemptsLeave}
use Rattle.set_world.proofs.WentLemmas.{went_nowhere}
use Rattle.change_watch.specs.Following.{StaysSo}
use Rattle.set_program.specs.declared.stop.Stop.{Stop}
use Rattle.set_program.specs.declared.stop.Stop.TheVariants.{Memory, Usage, Script as NoScript, ReadFault, WriteFault, TooLong, DiskFault, CopyFault, Refused}
use Rattle.set_program.specs.AfterScript.{EndsAfterScript}
use Rattle.set_program.specs.Disks.{DisksPlayed}
use Rattle.set_program.specs.Headline.{EndsRun}
use Rattle.set_program.specs.Orders.{Follows}
use Rattle.set_program.specs.Parts.{DisksAfterScript, DisksGo}
use Rattle.set_program.proofs.DisksLemmas.{played_on}
use Rattle.set_program.proofs.TriedLemmas.{run_tried}

-- work after a script may stop so
abbrev pub stops_work : Stop → Bool
stops_work Memory = true
stops_work WriteFault = true
stops_work Refused = true
stops_work Usage = false
stops_work NoScript = false
stops_work ReadFault = false
stops_work TooLong = false
stops_work DiskFault = false
stops_work CopyFault = false

pub went_by : {D : Type 0} (state : D → State) (old new : Set D) → StaysSo (λ before after. GoesOn state before after) old new → WentOn state old new
went_by {D} state old new (inl same) = subst (λ (set : Set D). WentOn state old set) (sym same) (went_nowhere state old)
went_by state old new (inr goes) = goes old (went_nowhere state old)

-- ---- what it comes to

-- what the work does to a set of these sizes with these events, and to what the sink holds; then how it ends,
-- and from where on it is done
abbrev pub Work : Type 1
Work = Sizes → List Event → Option (List ℕ) → Result (Unit {0}) Stop → List Event → Option (List ℕ) → Type 0

-- the script was played to its end
module _ {D : Type 0} (Works : Work) (only : (stop : Stop) → stops_work stop ≡ false → (sizes : Sizes) (events scripted : List Event) (new told : Option (List ℕ)) → Works sizes events new (Err stop) scripted told → ⊥)
    (parts : List Part) (old told new : Option (List ℕ)) where
  pub work_ends : (mid last : Set D) (ended : Result (Unit {0}) Stop) → last.sizes ≡ mid.sizes → EndsRun parts old told (Ok tt) mid → Works mid.sizes last.history new ended mid.history told
      → EndsAfterScript parts old new (Works last.sizes last.history new) ended last
  work_ends mid last ended same (follows, put) works = by_end ended works
    where
      transcript : Appends old told (text (run last.sizes mid.history))
      transcript = subst (λ (s : Sizes). Appends old told (text (run s mid.history))) (sym same) put

      here : (e : Result (Unit {0}) Stop) → Works mid.sizes last.history new e mid.history told → Works last.sizes last.history new e mid.history told
      here e works = subst (λ (s : Sizes). Works s last.history new e mid.history told) (sym same) works

      never : (P : Type 0) (stop : Stop) → stops_work stop ≡ false → Works mid.sizes last.history new (Err stop) mid.history told → P
      never P stop other works = absurd (only stop other mid.sizes last.history mid.history new told works)

      by_end : (e : Result (Unit {0}) Stop) → Works mid.sizes last.history new e mid.history told → EndsAfterScript parts old new (Works last.sizes last.history new) e last
      by_end (Ok done) works = record { scripted = mid.history; follows = follows; told = told; transcript = transcript; work = here (Ok done) works }
      by_end (Err Refused) works = record { scripted = mid.history; follows = follows; told = told; transcript = transcript; work = here (Err Refused) works }
      by_end (Err Memory) works = inr (record { scripted = mid.history; follows = follows; told = told; transcript = transcript; work = here (Err Memory) works })
      by_end (Err WriteFault) works = inr (record { scripted = mid.history; follows = follows; told = told; transcript = transcript; work = here (Err WriteFault) works })
      by_end (Err Usage) works = never _ Usage refl works
      by_end (Err NoScript) works = never _ NoScript refl works
      by_end (Err ReadFault) works = never _ ReadFault refl works
      by_end (Err TooLong) works = never _ TooLong refl works
      by_end (Err DiskFault) works = never _ DiskFault refl works
      by_end (Err CopyFault) works = never _ CopyFault refl works

-- it stopped
pub script_stops : {D : Type 0} (Works : Work) (parts : List Part) (old new : Option (List ℕ)) (set : Set D) (stop : Stop) → EndsRun parts old new (Err stop) set
    → EndsAfterScript parts old new (Works set.sizes set.history new) (Err stop) set
script_stops Works parts old new set Memory ends = inl ends
script_stops Works parts old new set WriteFault ends = inl ends
script_stops Works parts old new set Refused never = absurd never
script_stops Works parts old new set Usage never = absurd never
script_stops Works parts old new set NoScript never = absurd never
script_stops Works parts old new set ReadFault never = absurd never
script_stops Works parts old new set TooLong never = absurd never
script_stops Works parts old new set DiskFault never = absurd never
script_stops Works parts old new set CopyFault never = absurd never

-- ---- the disks

module _ {D : Type 0} (state : D → State) (parts : List Part) (first : List D) where
  -- those of a script that stopped
  pub stopped_disks : (set : Set D) (Out : Type 0) → DisksGo state parts first set Out → DisksAfterScript state parts first set Out
  stopped_disks set Out (inl played) = inl played
  stopped_disks set Out (inr (out, inl began)) = inr (out, inl began)
  stopped_disks set Out (inr (out, inr broke)) = inr (
    out,
    inr (record {
      earlier = broke.earlier;
      tried = broke.tried;
      events_are = broke.events_are;
      block = inl broke.block;
      begun = broke.begun;
      played = broke.played;
      ran = broke.ran;
    }),
  )

  -- those of a script that was played to its end
  pub script_disks : (set : Set D) (Out : Type 0) → ¬ Out → DisksGo state parts first set Out → DisksPlayed state first set
  script_disks set Out enough (inl played) = played
  script_disks set Out enough (inr (out, more)) = absurd (enough out)

  module _ (mid last : Set D) (went : WentOn state mid last) (follows : Follows parts mid.history) (played : DisksPlayed state first mid) where
    whole_disks : (Out : Type 0) → last.whole ≡ true → DisksAfterScript state parts first last Out
    whole_disks Out whole = inl (played_on state first mid last went.added went.sizes went.history (went.played whole) played)

    broken_disks : (Out : Type 0) → Out → DisksAfterScript state parts first last Out
    broken_disks Out out = let tried = run_tried state (run mid.sizes mid.history).world went.added mid.disks last.disks went.ran in inr (
      out,
      inr (record {
        earlier = mid.history;
        tried = tried.0;
        events_are = went.history ∙ ap (λ (es : List Event). mid.history ++ es) (sym tried.1);
        block = inr follows;
        begun = mid.disks;
        played = subst (λ (s : Sizes). DisksPlay state (opening s).world mid.history first mid.disks) (sym went.sizes) played;
        ran = subst (λ (s : Sizes). AttemptsLeave state (run s mid.history).world tried.0 mid.disks last.disks) (sym went.sizes) tried.2;
      }),
    )

    -- those of the work
    pub work_disks : (ended : Result (Unit {0}) Stop) → (ended ≢ Err Memory → last.whole ≡ true) → DisksAfterScript state parts first last (ended ≡ Err Memory)
    work_disks (Ok done) whole = whole_disks _ (whole (λ same. cc same))
    work_disks (Err Memory) whole = broken_disks _ refl
    work_disks (Err WriteFault) whole = whole_disks _ (whole (λ same. cc same))
    work_disks (Err Refused) whole = whole_disks _ (whole (λ same. cc same))
    work_disks (Err Usage) whole = whole_disks _ (whole (λ same. cc same))
    work_disks (Err NoScript) whole = whole_disks _ (whole (λ same. cc same))
    work_disks (Err ReadFault) whole = whole_disks _ (whole (λ same. cc same))
    work_disks (Err TooLong) whole = whole_disks _ (whole (λ same. cc same))
    work_disks (Err DiskFault) whole = whole_disks _ (whole (λ same. cc same))
    work_disks (Err CopyFault) whole = whole_disks _ (whole (λ same. cc same))
