-- A run whose trace is put.
use Rattle.std.proofs.Common.{ℕ, ◌≡◌, ◌+◌, ◌≤◌, ◌<◌, List, [], ◌++◌, length, take, get_or, Result, Ok, Err, refl, ap, sym, subst, arith, ◌∙◌, inl, inr}
use Rattle.std.specs.Prelude.{OnOk, Option, map, min}
use Rattle.std.specs.List.{AllByRecursion}
use Rattle.std.specs.Io.KnownBytes.{Appends}
use Rattle.std.proofs.Math.Seq.{take-append-add}
use Rattle.std.proofs.lemmas.List.{append-nil, get_or-map, length-map}
use Rattle.rs_io.proofs.PutSoFar.{Appends-append}
use Rattle.rs_disk.specs.State.{State}
use Rattle.set_model.specs.declared.command.Event.{Event}
use Rattle.set_model.specs.declared.reply.Reply.{Reply}
use Rattle.set_model.specs.Run.{Sizes, run}
use Rattle.fault_script.specs.declared.script.Part.{Part}
use Rattle.fault_script.specs.declared.script.Script.{Script}
use Rattle.fault_script.specs.Script.{sizes_of}
use Rattle.run_checker.specs.Checking.{IsTrace}
use Rattle.run_checker.specs.Trace.{IsPlain, entries_text, entry_text, header_text}
use Rattle.run_checker.proofs.TraceLemmas.{entries_all, entries_front, entries_more, take_front}
use Rattle.set_world.specs.World.{Set}
use Rattle.set_program.specs.declared.stop.Stop.{Stop}
use Rattle.set_program.specs.declared.stop.Stop.TheVariants.{Memory, Usage, Script as NoScript, ReadFault, WriteFault, TooLong, DiskFault, CopyFault, Refused}
use Rattle.set_program.specs.Headline.{EndsWithTrace, answers, trace_put, trace_sizes}
use Rattle.set_program.specs.Parts.{AllStepped}
use Rattle.set_program.specs.Plays.{PutsEntries, PutsText, PutsTrace}
use Rattle.set_program.proofs.PartOrders.{all_in_part}
use Rattle.change_watch.proofs.KeepLemmas.{Appends-nothing}
use Rattle.set_program.proofs.StepLemmas.{replies-count}

-- ---- event after event

abbrev pub bare : List (ℕ × Reply) → List Reply
bare replies = map (λ (reply : ℕ × Reply). reply.1) replies

-- these events were put, with these replies
pub record PutEvents {K : Type 0} (held : K → Option (List ℕ)) (faults : K → ℕ) (steady : K → Type 0) (old new : K) (events : List Event) (replies : List Reply) : Type 0 where
  pub put : Appends (held old) (held new) (entries_text events replies)
  pub plain : AllByRecursion IsPlain events
  pub later : faults old ≤ faults new
  pub steady_still : steady old → steady new

bare_at : (replies : List (ℕ × Reply)) (place : ℕ) (told : ℕ × Reply) → place < length replies → told ≡ get_or replies place told → told.1 ≡ get_or (bare replies) place told.1
bare_at replies place told within is = ap (λ (t : ℕ × Reply). t.1) is ∙ sym (get_or-map (λ (t : ℕ × Reply). t.1) replies place told told.1 within)

bare_long : (replies : List (ℕ × Reply)) → length (bare replies) ≡ length replies
bare_long replies = length-map replies (λ (t : ℕ × Reply). t.1)

module _ (events : List Event) (replies : List (ℕ × Reply)) (place : ℕ) (event : Event) (told : ℕ × Reply)
    (within : place < length events) (too : place < length replies) (is_event : event ≡ get_or events place event) (is_told : told ≡ get_or replies place told)
    (first old new : Option (List ℕ)) (put : Appends first old (entries_text (take place events) (take place (bare replies)))) where
  bare_too : place < length (bare replies)
  bare_too = omega (arith, too, bare_long replies)

  -- one event more is put
  pub entry_put : (more : ℕ) → more ≡ place + 1 → Appends old new (entry_text (event, told.1)) → Appends first new (entries_text (take more events) (take more (bare replies)))
  entry_put more next one =
      let so_far = entries_text (take place events) (take place (bare replies)) in
      let whole = entries_more event told.1 events (bare replies) place more [] so_far (so_far ++ entry_text (event, told.1)) next within bare_too is_event (bare_at replies place told too is_told) refl refl in
      subst (λ (text : List ℕ). Appends first new text) whole (Appends-append first old new so_far (entry_text (event, told.1)) put one)

  -- where the next event stops
  pub entry_stops : (stop : Stop) → PutsText old new (entry_text (event, told.1)) (Err stop) → PutsEntries first new events replies (Err stop)
  entry_stops Memory kept =
      let so_far = entries_text (take place events) (take place (bare replies)) in
      (place, subst (λ (text : List ℕ). Appends first new text) (append-nil so_far) (Appends-append first old new so_far [] put (Appends-nothing old new kept)))
  entry_stops WriteFault (count, cut) =
      let so_far = entries_text (take place events) (take place (bare replies)) in
      let front = entries_front event told.1 events (bare replies) place count within bare_too is_event (bare_at replies place told too is_told) in
      (front.0, subst (λ (text : List ℕ). Appends first new text) front.1 (Appends-append first old new so_far (take count (entry_text (event, told.1))) put cut))
  entry_stops Usage never = absurd never
  entry_stops NoScript never = absurd never
  entry_stops ReadFault never = absurd never
  entry_stops TooLong never = absurd never
  entry_stops CopyFault never = absurd never
  entry_stops DiskFault never = absurd never
  entry_stops Refused never = absurd never

-- after the last event all are put
pub all_put : (events : List Event) (replies : List (ℕ × Reply)) (count : ℕ) (first now : Option (List ℕ)) → length events ≡ length replies → count ≡ min (length events) (length replies)
    → Appends first now (entries_text (take count events) (take count (bare replies))) → Appends first now (entries_text events (bare replies))
all_put events replies count first now same is put =
    let long : length events ≡ length (bare replies) = same ∙ sym (bare_long replies) in
    let all : count ≡ min (length events) (length (bare replies)) = omega (arith, same, is, bare_long replies) in
    subst (λ (text : List ℕ). Appends first now text) (entries_all events (bare replies) count long all) put

-- ---- the whole trace

-- the sizes of a script's set, as a header tells them
pub sizes_told : (script : Script) (sizes : Sizes) → sizes ≡ sizes_of script → (script.nodes, script.voters, script.members) ≡ trace_sizes sizes
sizes_told script sizes is = ap trace_sizes (sym is)

-- each event has a reply
pub told_long : (sizes : Sizes) (events : List Event) (replies : List (ℕ × Reply)) → replies ≡ (run sizes events).replies → length events ≡ length replies
told_long sizes events replies is =
    let all = ap (λ (rs : List (ℕ × Reply)). length rs) is in
    let each = replies-count sizes [] events in
    omega (arith, all, each)

module _ {D : Type 0} (held now : Option (List ℕ)) (set : Set D) (sizes : ℕ × ℕ × ℕ) (sizes_are : sizes ≡ trace_sizes set.sizes) where
  -- the header stops
  pub header_stops : (stop : Stop) → PutsText held now (header_text sizes) (Err stop) → PutsTrace held now set (Err stop)
  header_stops stop put = stops stop (subst (λ (s : ℕ × ℕ × ℕ). PutsText held now (header_text s) (Err stop)) sizes_are put)
    where
      stops : (s : Stop) → PutsText held now (header_text (trace_sizes set.sizes)) (Err s) → PutsTrace held now set (Err s)
      stops Memory kept = inl kept
      stops WriteFault (count, cut) =
          let header = header_text (trace_sizes set.sizes) in
          let entries = entries_text set.history (answers set) in
          (min count (length header), tt, subst (λ (text : List ℕ). Appends held now text) (take_front count header entries) cut)
      stops Usage never = absurd never
      stops NoScript never = absurd never
      stops ReadFault never = absurd never
      stops TooLong never = absurd never
      stops CopyFault never = absurd never
      stops DiskFault never = absurd never
      stops Refused never = absurd never

  -- after the header come the events
  pub trace_goes_on : (mid : Option (List ℕ)) (events : List Event) (replies : List (ℕ × Reply)) (result : Result (Unit {0}) Stop) → events ≡ set.history → replies ≡ (run set.sizes set.history).replies
      → Appends held mid (header_text sizes) → PutsEntries mid now events replies result → PutsTrace held now set result
  trace_goes_on mid events replies result events_are is put entries =
      goes_on result (subst (λ (es : List Event). PutsEntries mid now es (run set.sizes set.history).replies result) events_are (subst (λ (rs : List (ℕ × Reply)). PutsEntries mid now events rs result) is entries))
    where
      header : Appends held mid (header_text (trace_sizes set.sizes))
      header = subst (λ (s : ℕ × ℕ × ℕ). Appends held mid (header_text s)) sizes_are put

      goes_on : (r : Result (Unit {0}) Stop) → PutsEntries mid now set.history (run set.sizes set.history).replies r → PutsTrace held now set r
      goes_on (Ok done) put = Appends-append held mid now (header_text (trace_sizes set.sizes)) (entries_text set.history (answers set)) header put
      goes_on (Err Memory) (count, put) =
          inr (count, Appends-append held mid now (header_text (trace_sizes set.sizes)) (entries_text (take count set.history) (take count (answers set))) header put)
      goes_on (Err WriteFault) (count, put) = (
        length (header_text (trace_sizes set.sizes)) + count,
        tt,
        rw (take-append-add (header_text (trace_sizes set.sizes)) (entries_text set.history (answers set)) count)
            (Appends-append held mid now (header_text (trace_sizes set.sizes)) (take count (entries_text set.history (answers set))) header put),
      )
      goes_on (Err Usage) never = absurd never
      goes_on (Err NoScript) never = absurd never
      goes_on (Err ReadFault) never = absurd never
      goes_on (Err TooLong) never = absurd never
      goes_on (Err CopyFault) never = absurd never
      goes_on (Err DiskFault) never = absurd never
      goes_on (Err Refused) never = absurd never

-- how a run ends whose trace is put
pub traced_ends : {D : Type 0} (state : D → State) (parts : List Part) (old new : Set D) (after : List (ℕ × Reply)) → AllStepped state parts old new after
    → (held now : Option (List ℕ)) (result : Result (Unit {0}) Stop) → PutsTrace held now new result → OnOk result (IsTrace (trace_sizes new.sizes) new.history (trace_put new)) → EndsWithTrace parts held now result new
traced_ends state parts old new after stepped held now (Ok done) put trace = (stepped.follows, (put, trace))
traced_ends state parts old new after stepped held now (Err Memory) (inl kept) trace = inl (all_in_part parts new.history stepped.follows, kept)
traced_ends state parts old new after stepped held now (Err Memory) (inr put) trace = inr (stepped.follows, put)
traced_ends state parts old new after stepped held now (Err WriteFault) put trace = (stepped.follows, put)
traced_ends state parts old new after stepped held now (Err Usage) never trace = absurd never
traced_ends state parts old new after stepped held now (Err NoScript) never trace = absurd never
traced_ends state parts old new after stepped held now (Err ReadFault) never trace = absurd never
traced_ends state parts old new after stepped held now (Err TooLong) never trace = absurd never
traced_ends state parts old new after stepped held now (Err CopyFault) never trace = absurd never
traced_ends state parts old new after stepped held now (Err DiskFault) never trace = absurd never
traced_ends state parts old new after stepped held now (Err Refused) never trace = absurd never
