-- A whole watch: all nodes are asked, and then comes the last line.
use Rattle.std.proofs.Common.{ℕ, ◌≡◌, inl, inr, List, [], ◌∷◌, Option, Result, Ok, Err, refl, subst}
use Rattle.std.specs.Io.KnownBytes.{Appends}
use Rattle.std.specs.Prelude.{Bool}
use Rattle.rs_optime.specs.declared.optime.OpTime.{OpTime}
use Rattle.set_model.specs.declared.command.Event.{Event}
use Rattle.set_model.specs.Run.{Sizes}
use Rattle.change_stream.specs.Calls.{given}
use Rattle.change_words.specs.Texts.{change_lines, refusal_text, resume_text}
use Rattle.change_words.specs.declared.asked.Watch.{Watch}
use Rattle.change_words.specs.declared.refusal.WatchRefusal.{WatchRefusal}
use Rattle.change_watch.specs.declared.stop.WatchStop.{WatchStop}
use Rattle.change_watch.specs.declared.stop.WatchStop.TheVariants.{Refused, WriteFault, Memory}
use Rattle.change_watch.specs.Following.{AskedSo, AsksAll, EndsSo, Follows, LosesChange, PutsLines, StopsSo, Watched, last_lines, stop_lines}
use Rattle.change_watch.proofs.LineLemmas.{after_kept, both_put, none_refused}

abbrev IsDone : Result (Unit {0}) WatchStop → Type 0
IsDone result = result ≡ Ok tt

never_ok : (stop : WatchStop) → IsDone (Err stop) → ⊥
never_ok stop same = cc same

module _ (alone : Bool) (sizes : Sizes) (watch : Watch) (end : OpTime) (old new : List Event) where
  -- the stream was opened with the token of the watch, and its nodes are asked
  pub from_start : (token : OpTime) (nodes : List ℕ) → token ≡ watch.token → nodes ≡ watch.nodes → (held now : Option (List ℕ)) (result : Result (Unit {0}) WatchStop)
      → AsksAll alone sizes watch.collection token nodes end old new held now result → AsksAll alone sizes watch.collection watch.token watch.nodes end old new held now result
  from_start token nodes token_is nodes_are held now result asked =
      subst (λ (t : OpTime). AsksAll alone sizes watch.collection t watch.nodes end old new held now result) token_is
      (subst (λ (ns : List ℕ). AsksAll alone sizes watch.collection token ns end old new held now result) nodes_are asked)

  -- the calls, what stopped them, and the last line
  watched_so : (ended : Result (Unit {0}) WatchStop) (left : List ℕ) (between : List Event) (lines : List (List ℕ)) → AskedSo alone sizes watch.collection watch.token watch.nodes end left old between lines
      → EndsSo alone sizes end left between new ended → Watched alone sizes watch old new ended lines (last_lines end ended)
  watched_so ended left between lines asked ends = record { token = end; left = left; between = between; asked = asked; ends = ends; last_are = refl }

  all_watched : (lines : List (List ℕ)) → AskedSo alone sizes watch.collection watch.token watch.nodes end [] old new lines → Watched alone sizes watch old new (Ok tt) lines (resume_text end ∷ [])
  all_watched lines asked = watched_so (Ok tt) [] new lines asked (refl, refl)

  -- all nodes had no more, and it is told where to resume
  pub told_all : (held mid now : Option (List ℕ)) (result : Result (Unit {0}) WatchStop) → AsksAll alone sizes watch.collection watch.token watch.nodes end old new held mid (Ok tt)
      → PutsLines mid now (resume_text end ∷ []) result → Follows alone sizes watch old new held now result
  told_all held mid now (Ok done) (lines, asked, put) next = (lines, resume_text end ∷ [], all_watched lines asked, both_put held mid now lines (resume_text end ∷ []) put next)
  told_all held mid now (Err (Refused why)) (lines, asked, put) never = absurd never
  told_all held mid now (Err WriteFault) (lines, asked, put) lost = inr (Ok tt, lines, resume_text end, all_watched lines asked, (mid, put, lost))
  told_all held mid now (Err Memory) (lines, asked, put) lost = inr (inr (Ok tt, lines, resume_text end, all_watched lines asked, (mid, put, lost)))

  stopped_so : (stop : WatchStop) (lines : List (List ℕ)) → StopsSo alone sizes watch.collection watch.token watch.nodes end old new stop lines → Watched alone sizes watch old new (Err stop) lines (stop_lines stop)
  stopped_so stop lines stops = watched_so (Err stop) stops.left stops.between lines stops.asked stops.ends

  -- a line was lost, and nothing more is put
  lost_so : (stop : WatchStop) (held mid now : Option (List ℕ)) → LosesChange alone sizes watch.collection watch.token watch.nodes end old new held mid stop → Appends mid now []
      → LosesChange alone sizes watch.collection watch.token watch.nodes end old new held now stop
  lost_so stop held mid now loses kept = record {
    before = loses.before;
    left = loses.left;
    between = loses.between;
    lines = loses.lines;
    asked = loses.asked;
    last = loses.last;
    still = loses.still;
    goes = loses.goes;
    made = loses.made;
    put = after_kept held mid now loses.lines (change_lines watch.collection (given loses.before loses.last)) stop loses.put kept;
  }

  -- where it was refused no line was lost
  refused_whole : (why : WatchRefusal) (held mid : Option (List ℕ)) → LosesChange alone sizes watch.collection watch.token watch.nodes end old new held mid (Refused why) → ⊥
  refused_whole why held mid loses = none_refused held mid loses.lines (change_lines watch.collection (given loses.before loses.last)) why loses.put

  -- it stopped, and a refusal is told; else nothing more
  pub told_stop : (stop : WatchStop) (held mid now : Option (List ℕ)) → AsksAll alone sizes watch.collection watch.token watch.nodes end old new held mid (Err stop)
      → PutsLines mid now (stop_lines stop) (Ok tt) → Follows alone sizes watch old new held now (Err stop)
  told_stop (Refused why) held mid now (inl (lines, stops, put)) next =
      (lines, refusal_text why ∷ [], stopped_so (Refused why) lines stops, both_put held mid now lines (refusal_text why ∷ []) put next)
  told_stop (Refused why) held mid now (inr loses) next = absurd (refused_whole why held mid loses)
  told_stop WriteFault held mid now (inl (lines, stops, put)) next = absurd stops.ends
  told_stop WriteFault held mid now (inr loses) next = inl (end, lost_so WriteFault held mid now loses next)
  told_stop Memory held mid now (inl (lines, stops, put)) next = inl (lines, [], stopped_so Memory lines stops, both_put held mid now lines [] put next)
  told_stop Memory held mid now (inr loses) next = inr (inl (end, lost_so Memory held mid now loses next))

  -- the refusal isn't told whole
  pub stop_stops : (stopped stop : WatchStop) (held mid now : Option (List ℕ)) → AsksAll alone sizes watch.collection watch.token watch.nodes end old new held mid (Err stopped)
      → PutsLines mid now (stop_lines stopped) (Err stop) → (stop_lines stopped ≡ [] → IsDone (Err stop)) → Follows alone sizes watch old new held now (Err stop)
  stop_stops (Refused why) stop held mid now (inr loses) lost quiet = absurd (refused_whole why held mid loses)
  stop_stops (Refused why) (Refused other) held mid now (inl (lines, stops, put)) never quiet = absurd never
  stop_stops (Refused why) WriteFault held mid now (inl (lines, stops, put)) lost quiet = inr (Err (Refused why), lines, refusal_text why, stopped_so (Refused why) lines stops, (mid, put, lost))
  stop_stops (Refused why) Memory held mid now (inl (lines, stops, put)) lost quiet = inr (inr (Err (Refused why), lines, refusal_text why, stopped_so (Refused why) lines stops, (mid, put, lost)))
  stop_stops WriteFault stop held mid now asked lost quiet = absurd (never_ok stop (quiet refl))
  stop_stops Memory stop held mid now asked lost quiet = absurd (never_ok stop (quiet refl))
