-- A run whose summary is put.
use Rattle.std.proofs.Common.{ℕ, ◌≤◌, List, [], length, Result, Ok, Err, ap, arith}
use Rattle.std.specs.Prelude.{Option}
use Rattle.rs_disk.specs.State.{State}
use Rattle.set_model.specs.declared.reply.Reply.{Reply}
use Rattle.fault_script.specs.declared.script.Part.{Part}
use Rattle.fault_script.specs.Script.{lines_in}
use Rattle.set_world.specs.World.{Set}
use Rattle.set_program.specs.declared.stop.Stop.{Stop}
use Rattle.set_program.specs.declared.stop.Stop.TheVariants.{Memory, Usage, Script as NoScript, ReadFault, WriteFault, TooLong, DiskFault, CopyFault, Refused}
use Rattle.set_program.specs.Headline.{EndsWithSummary, summary_put}
use Rattle.set_program.specs.Parts.{AllStepped}
use Rattle.set_program.specs.Plays.{PutsText}
use Rattle.set_program.proofs.PartOrders.{all_in_part, follows_long}
use Rattle.set_program.proofs.StepLemmas.{replies-count}

module _ {D : Type 0} (state : D → State) (parts : List Part) (old new : Set D) (after : List (ℕ × Reply)) (stepped : AllStepped state parts old new after) where
  pub replies_few : length (lines_in parts) ≤ 200000 → length after ≤ 200000
  replies_few few =
      let long = follows_long parts new.history stepped.follows in
      let all = ap (λ (rs : List (ℕ × Reply)). length rs) stepped.told in
      let each = replies-count new.sizes [] new.history in
      omega (arith, long, all, each, few)

  pub told_ends : (held now : Option (List ℕ)) (result : Result (Unit {0}) Stop) → PutsText held now (summary_put new) result → EndsWithSummary parts held now result new
  told_ends held now (Ok done) put = (stepped.follows, put)
  told_ends held now (Err Memory) kept = (all_in_part parts new.history stepped.follows, kept)
  told_ends held now (Err WriteFault) (count, put) = (stepped.follows, (count, tt, put))
  told_ends held now (Err Usage) never = absurd never
  told_ends held now (Err NoScript) never = absurd never
  told_ends held now (Err ReadFault) never = absurd never
  told_ends held now (Err TooLong) never = absurd never
  told_ends held now (Err CopyFault) never = absurd never
  told_ends held now (Err DiskFault) never = absurd never
  told_ends held now (Err Refused) never = absurd never
