-- A block that ran on a shared set, which was closed after it.
use Rattle.std.proofs.Common.{ℕ, zero, suc, ◌≡◌, ◌∙◌, ◌+◌, ◌≤◌, ap, sym, subst, arith, refl, true, List, [], ◌∷◌, ◌++◌, length, length-append, take}
use Rattle.std.specs.Prelude.{IfOk, OnErr, OnOk, Result, Ok, Err, Vec, map}
use Rattle.std.specs.List.{AllByRecursion, AllPass, list_all}
use Rattle.std.specs.declared.alloc.AllocError.{AllocError}
use Rattle.std.specs.declared.alloc.Global.{Global}
use Rattle.std.proofs.lemmas.Bool.{and_parts}
use Rattle.std.proofs.lemmas.List.Sums.{AllPass-from_list_all}
use Rattle.std.proofs.Math.Seq.{take-length}
use Rattle.std.proofs.lemmas.List.{append-nil, length-map}
use Rattle.rs_disk.specs.State.{State}
use Rattle.set_model.specs.declared.command.Command.{Command}
use Rattle.set_model.specs.declared.command.Event.{Event}
use Rattle.set_model.specs.declared.reply.Reply.{Reply}
use Rattle.set_model.specs.Run.{Sizes}
use Rattle.fault_script.specs.declared.script.Part.TheVariants.{Par}
use Rattle.fault_script.specs.Merge.{IsMerge}
use Rattle.fault_script.specs.Script.{is_part_for, joined}
use Rattle.set_model.specs.Limits.{is_for}
use Rattle.set_world.specs.declared.error.StepError.{StepError}
use Rattle.set_world.specs.Went.{WentOn}
use Rattle.set_world.specs.World.{Set}
use Rattle.shared_set.specs.Calls.{Closes}
use Rattle.turn_board.specs.declared.view.View.{View}
use Rattle.shared_set.specs.Attempts.{IsInSome, WentOnBy, done_in, undone_in}
use Rattle.turn_board.specs.History.{events}
use Rattle.turn_board.specs.Views.{opened, seen}
use Rattle.set_program.specs.Blocks.{AreOfSome, RanBlock, TellsBlock}
use Rattle.set_program.specs.Parts.{Stepped, SteppedSome, Steps, can_be_run, has_few_threads, unplaced}
use Rattle.set_program.specs.Steps.{Adds, line_of}
use Rattle.set_program.proofs.BlockLemmas.{block_adds, block_adds_some, block_told}
use Rattle.set_program.proofs.BlockRuns.{same_after}
use Rattle.set_program.proofs.PartOrders.{order_long, order_of}

-- ---- before and after it

-- its pass has its parts again
pub parts_back : {F : Type 0} (sizes : Sizes) (lists : List (List (ℕ × Command))) (v w : View Event F) (result : Result (Vec (ℕ × ℕ × Reply) Global) StepError)
    → IfOk result (λ told. TellsBlock sizes lists v w told.items) → OnErr result (RanBlock AreOfSome lists v w) → w.parts ≡ v.parts
parts_back sizes lists v w (Ok told) tells ran = tells.ran.parts
parts_back sizes lists v w (Err error) tells ran = ran.parts

-- the lists are for a set of these sizes
pub lists_fit : (sizes shared : Sizes) (lists slice : List (List (ℕ × Command))) → shared ≡ sizes → slice ≡ lists → can_be_run sizes.nodes (Par lists) ≡ true
    → AllPass (list_all (λ (line : ℕ × Command). is_for shared.nodes line.1)) slice
lists_fit sizes shared lists slice same is fits =
    subst (λ (ls : List (List (ℕ × Command))). AllPass (list_all (λ (line : ℕ × Command). is_for shared.nodes line.1)) ls) (sym is)
    (subst (λ (s : Sizes). AllPass (list_all (λ (line : ℕ × Command). is_for s.nodes line.1)) lists) (sym same)
    (AllPass-from_list_all (list_all (λ (line : ℕ × Command). is_for sizes.nodes line.1)) lists (and_parts (has_few_threads (Par lists)) (is_part_for sizes.nodes (Par lists)) fits).1))

-- the set couldn't be shared
pub block_unshared : {D : Type 0} (state : D → State) (lists : List (List (ℕ × Command))) (old : Set D) → SteppedSome state (Par lists) old old
block_unshared state lists old = record {
  sizes = refl;
  added = [];
  events = sym (append-nil old.history);
  lines = joined lists;
  order = order_of (Par lists);
  front = refl;
  disks = ([], refl, tt, refl);
}

-- ---- a block that ran

module _ {D F : Type 0} (state : D → State) (lists : List (List (ℕ × Command))) (undone : List (List (ℕ × Command))) (fixed : List F) (old new : Set D) (v w : View Event F)
    (fresh : v ≡ opened fixed old.history) (same : w.begun ≡ old.history) (closes : Closes old.sizes w new.history) (went : WentOn state old new)
    (by : WentOnBy state undone old new) (of_lists : AllByRecursion (IsInSome lists) (undone_in by.all)) where
  lines_of_added : (lines : List (ℕ × Command)) → Adds lines old.history new.history → map line_of went.added ≡ lines
  lines_of_added lines adds = ap (map line_of) (same_after old.history went.added adds.added (sym went.history ∙ adds.events)) ∙ adds.lines_are

  prefix_of : (lines next : List (ℕ × Command)) → map line_of went.added ≡ lines → lines ≡ take (length lines) next → map line_of went.added ≡ take (length went.added) next
  prefix_of lines next is front = is ∙ front ∙ ap (λ (n : ℕ). take n next) (ap (λ (ls : List (ℕ × Command)). length ls) (sym is) ∙ length-map went.added line_of)

  -- all of it is played
  pub block_stepped : (told : List (ℕ × ℕ × Reply)) (before after : List (ℕ × Reply)) → new.whole ≡ true → TellsBlock old.sizes lists v w told → after ≡ before ++ unplaced told
      → Stepped state (Par lists) old new before after
  block_stepped told before after whole tells kept =
      let played = block_adds old.sizes lists fixed old.history v w new.history fresh same closes tells.ran in record {
        sizes = went.sizes;
        added = went.added;
        events = went.history;
        order = subst (λ (ls : List (ℕ × Command)). IsMerge lists ls) (sym (lines_of_added played.0 played.2)) played.1;
        replies = unplaced told;
        told = block_told old.sizes lists fixed old.history v w new.history fresh same closes told tells;
        kept = kept;
        disks = went.played whole;
        whole = λ was. whole;
      }

  stopped : (next : List (ℕ × Command)) → IsMerge lists next → map line_of went.added ≡ take (length went.added) next → SteppedSome state (Par lists) old new
  stopped next merge front = record {
    sizes = went.sizes;
    added = went.added;
    events = went.history;
    lines = next;
    order = merge;
    front = front;
    disks = (by.all, same_after old.history (done_in by.all) went.added (sym by.went.history ∙ went.history), of_lists, by.went.disks);
  }

  -- memory ran out after it
  pub block_unkept : (told : List (ℕ × ℕ × Reply)) → TellsBlock old.sizes lists v w told → SteppedSome state (Par lists) old new
  block_unkept told tells =
      let played = block_adds old.sizes lists fixed old.history v w new.history fresh same closes tells.ran in
      stopped played.0 played.1 (prefix_of played.0 played.0 (lines_of_added played.0 played.2) (sym (take-length played.0)))

  -- it stopped
  pub block_stopped : RanBlock AreOfSome lists v w → SteppedSome state (Par lists) old new
  block_stopped ran =
      let some = block_adds_some old.sizes lists fixed old.history v w new.history fresh same closes ran in
      stopped some.1 some.2 (prefix_of some.0 some.1 (lines_of_added some.0 some.4) some.3)

  -- all of it is played, and its replies are kept or not
  pub block_kept : (told : List (ℕ × ℕ × Reply)) (before after : List (ℕ × Reply)) (result : Result (Unit {0}) AllocError) → new.whole ≡ true → TellsBlock old.sizes lists v w told
      → OnOk result (after ≡ before ++ unplaced told) → Steps state (Par lists) old new before after result
  block_kept told before after (Ok done) whole tells kept = block_stepped told before after whole tells kept
  block_kept told before after (Err error) whole tells kept = block_unkept told tells

  -- however it ended, some of it is played
  pub block_ended : (result : Result (Vec (ℕ × ℕ × Reply) Global) StepError) → IfOk result (λ told. TellsBlock old.sizes lists v w told.items) → OnErr result (RanBlock AreOfSome lists v w)
      → SteppedSome state (Par lists) old new
  block_ended (Ok told) tells ran = block_unkept told.items tells
  block_ended (Err error) tells ran = block_stopped ran

  -- the history isn't full
  pub not_full : SteppedSome state (Par lists) old new → length old.history + length (joined lists) ≤ 200000 → length (seen w) ≡ 4294967295 → ⊥
  not_full some few full =
      let all = order_long (Par lists) some.lines some.order in
      let front = sym (length-map some.added line_of) ∙ ap (λ (ls : List (ℕ × Command)). length ls) some.front in
      let least = length-take_le (length some.added) some.lines in
      let more = ap (λ (es : List Event). length es) some.events in
      let both = length-append old.history some.added in
      let shorter = seen_within in
      omega (arith, all, front, least, more, both, shorter, few, full)
    where
      length-take_le : {A : Type 0} (n : ℕ) (xs : List A) → length (take n xs) ≤ length xs
      length-take_le zero xs = omega arith
      length-take_le (suc n) [] = omega arith
      length-take_le (suc n) (x ∷ xs) = let rest = length-take_le n xs in omega (arith, rest)

      events_within : (xs ys : List (ℕ × Event)) → length (events xs) ≤ length (events (xs ++ ys))
      events_within [] ys = omega arith
      events_within (x ∷ xs) ys = let rest = events_within xs ys in omega (arith, rest)

      seen_within : length (seen w) ≤ length new.history
      seen_within =
          let within = events_within w.turns closes.meets.begins.0 in
          let whole = ap (λ (ts : List (ℕ × Event)). length (events ts)) closes.meets.begins.1 in
          let one = length-append w.begun (events w.turns) in
          let two = ap (λ (es : List Event). length es) closes.history_is in
          let three = length-append w.begun (events closes.turns) in
          omega (arith, within, whole, one, two, three)
