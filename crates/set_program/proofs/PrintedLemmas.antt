-- What is put of a run's trace is a trace of its events.
use Rattle.std.proofs.Common.{◌≡◌, ℕ, zero, suc, ◌+◌, ◌<◌, List, [], ◌∷◌, length, take, get_or, Result, Ok, Err, ap, sym, subst, arith, ◌∙◌, inl, inr}
use Rattle.std.specs.Prelude.{OnOk, map, min}
use Rattle.std.specs.List.{AllByRecursion}
use Rattle.std.proofs.Math.Seq.{take-length}
use Rattle.fault_script.specs.declared.script.Part.{Part}
use Rattle.fault_script.specs.declared.script.Part.TheVariants as parts
use Rattle.fault_script.specs.declared.script.Script.{Script}
use Rattle.fault_script.specs.Merge.{Interleaves, IsMerge}
use Rattle.fault_script.specs.Script.{Thread, joined, lines_in, lines_of, sizes_of}
use Rattle.run_checker.specs.Checking.{IsTrace}
use Rattle.run_checker.specs.Trace.{IsPlain}
use Rattle.set_model.specs.declared.command.Command.{Command}
use Rattle.set_model.specs.declared.command.Event.{Event}
use Rattle.set_model.specs.declared.reply.Reply.{Reply}
use Rattle.set_model.specs.Limits.{IsRun}
use Rattle.set_model.specs.Run.{AreSizes, Sizes}
use Rattle.set_world.specs.World.{Set}
use Rattle.trace_laws.specs.Said.{AreSaid, CanBePrinted}
use Rattle.trace_laws.proofs.ScriptSaid.{said_both, said_first, said_later}
use Rattle.trace_laws.proofs.TraceAgain.{trace_again}
use Rattle.set_program.specs.declared.stop.Stop.{Stop}
use Rattle.set_program.specs.Headline.{trace_put, trace_sizes}
use Rattle.set_program.specs.Orders.{AreOrdersOf, Follows, IsOrderOf}
use Rattle.set_program.specs.Steps.{line_of}

-- ---- lines in another order

module _ (nodes : ℕ) where
  interleaved_said : (first second merged : List (ℕ × Command)) → Interleaves first second merged → AreSaid nodes first → AreSaid nodes second → AreSaid nodes merged
  interleaved_said first second [] none one other = tt
  interleaved_said first second (line ∷ merged) (inl (rest, is, so)) one other =
      let own = subst (AreSaid nodes) is one in
      (own.0, interleaved_said rest second merged so own.1 other)
  interleaved_said first second (line ∷ merged) (inr (rest, is, so)) one other =
      let own = subst (AreSaid nodes) is other in
      (own.0, interleaved_said first rest merged so one own.1)

  merge_said : (threads : List Thread) (merged : List (ℕ × Command)) → IsMerge threads merged → AreSaid nodes (joined threads) → AreSaid nodes merged
  merge_said [] merged none all = subst (AreSaid nodes) (sym none) tt
  merge_said (thread ∷ threads) merged (others, is, so) all =
      interleaved_said thread others merged so (said_first nodes thread (joined threads) all) (merge_said threads others is (said_later nodes thread (joined threads) all))

  order_said : (part : Part) (lines : List (ℕ × Command)) → IsOrderOf part lines → AreSaid nodes (lines_of part) → AreSaid nodes lines
  order_said (parts.Line number command) lines is all = subst (AreSaid nodes) (sym is) all
  order_said (parts.Par threads) lines merge all = merge_said threads lines merge all

  orders_said : (ps : List Part) (lines : List (ℕ × Command)) → AreOrdersOf ps lines → AreSaid nodes (lines_in ps) → AreSaid nodes lines
  orders_said [] lines none all = subst (AreSaid nodes) (sym none) tt
  orders_said (part ∷ later) lines (own, others, is, order, rest) all =
      subst (AreSaid nodes) (sym is)
      (said_both nodes own others (order_said part own order (said_first nodes (lines_of part) (lines_in later) all)) (orders_said later others rest (said_later nodes (lines_of part) (lines_in later) all)))

  all_printed : (events : List Event) → AreSaid nodes (map line_of events) → AllByRecursion IsPlain events → AllByRecursion (CanBePrinted nodes) events
  all_printed [] said plain = tt
  all_printed (event ∷ events) said plain = (record { command = said.0; plain = plain.0 }, all_printed events said.1 plain.1)

-- ---- one event more

module _ (event : Event) (one : IsPlain event) where
  next_plain : (events : List Event) (place : ℕ) → place < length events → event ≡ get_or events place event → AllByRecursion IsPlain (take place events) → AllByRecursion IsPlain (take (suc place) events)
  next_plain [] place within is so_far = absurd (omega (arith, within))
  next_plain (e ∷ es) zero within is so_far = (subst IsPlain is one, tt)
  next_plain (e ∷ es) (suc place) within is so_far = (so_far.0, next_plain es place (omega (arith, within)) is so_far.1)

  pub plain_more : (events : List Event) (place more : ℕ) → more ≡ place + 1 → place < length events → event ≡ get_or events place event → AllByRecursion IsPlain (take place events) → AllByRecursion IsPlain (take more events)
  plain_more events place more next within is so_far =
      let same : more ≡ suc place = omega (arith, next) in
      subst (λ (n : ℕ). AllByRecursion IsPlain (take n events)) (sym same) (next_plain events place within is so_far)

-- after the last event all are plain
pub all_plain : (events : List Event) (replies : List (ℕ × Reply)) (count : ℕ) → length events ≡ length replies → count ≡ min (length events) (length replies)
    → AllByRecursion IsPlain (take count events) → AllByRecursion IsPlain events
all_plain events replies count same is so_far =
    let all : count ≡ length events = omega (arith, same, is) in
    subst (λ (es : List Event). AllByRecursion IsPlain es) (ap (λ (n : ℕ). take n events) all ∙ take-length events) so_far

-- ---- the whole trace

module _ {D : Type 0} (script : Script) (set : Set D) (sizes : set.sizes ≡ sizes_of script) (fine : AreSizes set.sizes) (defined : IsRun set.sizes set.history)
    (follows : Follows script.parts set.history) (said : AreSaid script.nodes (lines_in script.parts)) where
  own_said : AreSaid set.sizes.nodes (map line_of set.history)
  own_said =
      subst (λ (s : Sizes). AreSaid s.nodes (map line_of set.history)) (sym sizes) (orders_said script.nodes script.parts (map line_of set.history) follows said)

  -- where it is put, it is a trace
  pub is_traced : (result : Result (Unit {0}) Stop) → OnOk result (AllByRecursion IsPlain set.history) → OnOk result (IsTrace (trace_sizes set.sizes) set.history (trace_put set))
  is_traced (Ok done) plain = trace_again (trace_sizes set.sizes) set.history fine defined (all_printed set.sizes.nodes set.history own_said plain)
  is_traced (Err stop) plain = tt
