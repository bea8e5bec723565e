use Rattle.std.proofs.Common.{◌≡◌, ◌∙◌, ap, rules, subst, sym, true}
use Rattle.std.specs.Prelude.{IfOk, IsErrOf}
use Rattle.set_model.specs.Run.{Sizes}
use Rattle.set_world.specs.declared.error.StepError.TheVariants.{HistoryFull}
use Rattle.set_world.specs.Went.{WentOn}
use Rattle.set_world.specs.World.{Set}
use Rattle.shared_set.specs.Calls.{Closes}
use Rattle.shared_set.specs.Attempts.{WentOnBy}
use Rattle.shared_set.specs.Passes.{sizes_of, undone, view}
use Rattle.shared_set.specs.Sets.{history_in}
use Rattle.fault_script.specs.declared.script.Part.TheVariants.{Par}
use Rattle.set_program.specs.Blocks.{TellsBlock}
use Rattle.set_program.specs.Parts.{SteppedSome}
use Rattle.set_program.proofs.SharedLemmas.{block_ended, block_kept, block_unshared, lists_fit, not_full, parts_back}
use Rattle.set_program.proofs.TriedLemmas.{by_lists}
use Rattle.set_program.proofs.steps.step_block.Goals as goal

pub returns-in-Err : goal.returns-in-Err
returns-in-Err g c =
    subst (λ (s : Set g.row.D.Denot). SteppedSome g.D.Disk.state (Par c.args.lists.now) c.args.world s) (sym c.in-Err.ensures.err) (block_unshared g.D.Disk.state c.args.lists.now c.args.world)

pub run_block-told-requires-clause-fits : goal.run_block-told-requires-clause-fits
run_block-told-requires-clause-fits g c κs within =
    lists_fit c.args.world.sizes (sizes_of c.in-Ok.shared.0) c.args.lists.now c.as_slice.result.now (ap (λ (s : Set g.row.D.Denot). s.sizes) c.in-Ok.ensures.begun) c.as_slice.ensures c.requires.fits

pub close-world-requires-clause-parts : goal.close-world-requires-clause-parts
close-world-requires-clause-parts g c =
    parts_back (sizes_of c.in-Ok.shared.0) c.as_slice.result.now (view c.in-Ok.shared.1) (view c.run_block-told.new.pass) c.run_block-told.result c.run_block-told.ensures.told c.run_block-told.ensures.err
    ∙ ap (λ u. u.parts) c.in-Ok.ensures.pass.2

pub unreachable-requires : goal.unreachable-requires
unreachable-requires g c =
    let told = subst (λ (s : Sizes). IfOk c.run_block-told.result (λ told. TellsBlock s c.args.lists.now (view c.in-Ok.shared.1) (view c.run_block-told.new.pass) told.items)) (ap (λ (s : Set g.row.D.Denot). s.sizes) c.in-Ok.ensures.begun)
    (rw c.as_slice.ensures at c.run_block-told.ensures.told) in
    let err = rw c.as_slice.ensures at c.run_block-told.ensures.err in
    let by : WentOnBy g.D.Disk.state (undone c.run_block-told.new.pass) c.args.world c.close-world.result = subst (λ (s : Set g.row.D.Denot). WentOnBy g.D.Disk.state (undone c.run_block-told.new.pass) s c.close-world.result) c.in-Ok.ensures.begun c.close-world.ensures.tried in
    let is_full : IsErrOf c.run_block-told.result HistoryFull = search rules in
    not_full g.D.Disk.state c.args.lists.now (undone c.run_block-told.new.pass) (view c.in-Ok.shared.1).fixed c.args.world c.close-world.result
    (view c.in-Ok.shared.1) (view c.run_block-told.new.pass) c.in-Ok.ensures.pass.2 (ap (λ l. history_in l) (c.run_block-told.ensures.pass.0.4 ∙ sym c.in-Ok.ensures.pass.0.4) ∙ ap (λ u. u.begun) c.in-Ok.ensures.pass.2)
    (subst (λ (s : Sizes). Closes s (view c.run_block-told.new.pass) c.close-world.result.history) (ap (λ (s : Set g.row.D.Denot). s.sizes) c.in-Ok.ensures.begun) c.close-world.ensures.closes)
    (subst (λ (s : Set g.row.D.Denot). WentOn g.D.Disk.state s c.close-world.result) c.in-Ok.ensures.begun c.close-world.ensures.went)
    by
    (by_lists g.D.Disk.state c.args.lists.now (undone c.in-Ok.shared.1) (undone c.run_block-told.new.pass) c.args.world c.close-world.result by c.in-Ok.ensures.undone (rw c.as_slice.ensures at c.run_block-told.ensures.tried))
    (block_ended g.D.Disk.state c.args.lists.now (undone c.run_block-told.new.pass) (view c.in-Ok.shared.1).fixed c.args.world c.close-world.result
    (view c.in-Ok.shared.1) (view c.run_block-told.new.pass) c.in-Ok.ensures.pass.2 (ap (λ l. history_in l) (c.run_block-told.ensures.pass.0.4 ∙ sym c.in-Ok.ensures.pass.0.4) ∙ ap (λ u. u.begun) c.in-Ok.ensures.pass.2)
    (subst (λ (s : Sizes). Closes s (view c.run_block-told.new.pass) c.close-world.result.history) (ap (λ (s : Set g.row.D.Denot). s.sizes) c.in-Ok.ensures.begun) c.close-world.ensures.closes)
    (subst (λ (s : Set g.row.D.Denot). WentOn g.D.Disk.state s c.close-world.result) c.in-Ok.ensures.begun c.close-world.ensures.went)
    by
    (by_lists g.D.Disk.state c.args.lists.now (undone c.in-Ok.shared.1) (undone c.run_block-told.new.pass) c.args.world c.close-world.result by c.in-Ok.ensures.undone (rw c.as_slice.ensures at c.run_block-told.ensures.tried))
    c.run_block-told.result told err) c.requires.few (c.run_block-told.ensures.full is_full)

pub returns-then-is_whole : goal.returns-then-is_whole
returns-then-is_whole g c =
    let told = subst (λ (s : Sizes). IfOk c.run_block-told.result (λ told. TellsBlock s c.args.lists.now (view c.in-Ok.shared.1) (view c.run_block-told.new.pass) told.items)) (ap (λ (s : Set g.row.D.Denot). s.sizes) c.in-Ok.ensures.begun)
    (rw c.as_slice.ensures at c.run_block-told.ensures.told) in
    let err = rw c.as_slice.ensures at c.run_block-told.ensures.err in
    let by : WentOnBy g.D.Disk.state (undone c.run_block-told.new.pass) c.args.world c.close-world.result = subst (λ (s : Set g.row.D.Denot). WentOnBy g.D.Disk.state (undone c.run_block-told.new.pass) s c.close-world.result) c.in-Ok.ensures.begun c.close-world.ensures.tried in
    let whole : c.close-world.result.whole ≡ true = search rules in
    block_kept g.D.Disk.state c.args.lists.now (undone c.run_block-told.new.pass) (view c.in-Ok.shared.1).fixed c.args.world c.close-world.result
    (view c.in-Ok.shared.1) (view c.run_block-told.new.pass) c.in-Ok.ensures.pass.2 (ap (λ l. history_in l) (c.run_block-told.ensures.pass.0.4 ∙ sym c.in-Ok.ensures.pass.0.4) ∙ ap (λ u. u.begun) c.in-Ok.ensures.pass.2)
    (subst (λ (s : Sizes). Closes s (view c.run_block-told.new.pass) c.close-world.result.history) (ap (λ (s : Set g.row.D.Denot). s.sizes) c.in-Ok.ensures.begun) c.close-world.ensures.closes)
    (subst (λ (s : Set g.row.D.Denot). WentOn g.D.Disk.state s c.close-world.result) c.in-Ok.ensures.begun c.close-world.ensures.went)
    by
    (by_lists g.D.Disk.state c.args.lists.now (undone c.in-Ok.shared.1) (undone c.run_block-told.new.pass) c.args.world c.close-world.result by c.in-Ok.ensures.undone (rw c.as_slice.ensures at c.run_block-told.ensures.tried))
    c.in-Ok-told.told.items c.args.replies.now.items c.keep.new.replies.items c.keep.result whole (rw c.in-Ok-told.is at told) c.keep.ensures

pub returns-else-is_whole : goal.returns-else-is_whole
returns-else-is_whole g c =
    let told = subst (λ (s : Sizes). IfOk c.run_block-told.result (λ told. TellsBlock s c.args.lists.now (view c.in-Ok.shared.1) (view c.run_block-told.new.pass) told.items)) (ap (λ (s : Set g.row.D.Denot). s.sizes) c.in-Ok.ensures.begun)
    (rw c.as_slice.ensures at c.run_block-told.ensures.told) in
    let err = rw c.as_slice.ensures at c.run_block-told.ensures.err in
    let by : WentOnBy g.D.Disk.state (undone c.run_block-told.new.pass) c.args.world c.close-world.result = subst (λ (s : Set g.row.D.Denot). WentOnBy g.D.Disk.state (undone c.run_block-told.new.pass) s c.close-world.result) c.in-Ok.ensures.begun c.close-world.ensures.tried in
    block_ended g.D.Disk.state c.args.lists.now (undone c.run_block-told.new.pass) (view c.in-Ok.shared.1).fixed c.args.world c.close-world.result
    (view c.in-Ok.shared.1) (view c.run_block-told.new.pass) c.in-Ok.ensures.pass.2 (ap (λ l. history_in l) (c.run_block-told.ensures.pass.0.4 ∙ sym c.in-Ok.ensures.pass.0.4) ∙ ap (λ u. u.begun) c.in-Ok.ensures.pass.2)
    (subst (λ (s : Sizes). Closes s (view c.run_block-told.new.pass) c.close-world.result.history) (ap (λ (s : Set g.row.D.Denot). s.sizes) c.in-Ok.ensures.begun) c.close-world.ensures.closes)
    (subst (λ (s : Set g.row.D.Denot). WentOn g.D.Disk.state s c.close-world.result) c.in-Ok.ensures.begun c.close-world.ensures.went)
    by
    (by_lists g.D.Disk.state c.args.lists.now (undone c.in-Ok.shared.1) (undone c.run_block-told.new.pass) c.args.world c.close-world.result by c.in-Ok.ensures.undone (rw c.as_slice.ensures at c.run_block-told.ensures.tried))
    c.run_block-told.result told err

pub returns-in-Err-Memory : goal.returns-in-Err-Memory
returns-in-Err-Memory g c =
    let told = subst (λ (s : Sizes). IfOk c.run_block-told.result (λ told. TellsBlock s c.args.lists.now (view c.in-Ok.shared.1) (view c.run_block-told.new.pass) told.items)) (ap (λ (s : Set g.row.D.Denot). s.sizes) c.in-Ok.ensures.begun)
    (rw c.as_slice.ensures at c.run_block-told.ensures.told) in
    let err = rw c.as_slice.ensures at c.run_block-told.ensures.err in
    let by : WentOnBy g.D.Disk.state (undone c.run_block-told.new.pass) c.args.world c.close-world.result = subst (λ (s : Set g.row.D.Denot). WentOnBy g.D.Disk.state (undone c.run_block-told.new.pass) s c.close-world.result) c.in-Ok.ensures.begun c.close-world.ensures.tried in
    block_ended g.D.Disk.state c.args.lists.now (undone c.run_block-told.new.pass) (view c.in-Ok.shared.1).fixed c.args.world c.close-world.result
    (view c.in-Ok.shared.1) (view c.run_block-told.new.pass) c.in-Ok.ensures.pass.2 (ap (λ l. history_in l) (c.run_block-told.ensures.pass.0.4 ∙ sym c.in-Ok.ensures.pass.0.4) ∙ ap (λ u. u.begun) c.in-Ok.ensures.pass.2)
    (subst (λ (s : Sizes). Closes s (view c.run_block-told.new.pass) c.close-world.result.history) (ap (λ (s : Set g.row.D.Denot). s.sizes) c.in-Ok.ensures.begun) c.close-world.ensures.closes)
    (subst (λ (s : Set g.row.D.Denot). WentOn g.D.Disk.state s c.close-world.result) c.in-Ok.ensures.begun c.close-world.ensures.went)
    by
    (by_lists g.D.Disk.state c.args.lists.now (undone c.in-Ok.shared.1) (undone c.run_block-told.new.pass) c.args.world c.close-world.result by c.in-Ok.ensures.undone (rw c.as_slice.ensures at c.run_block-told.ensures.tried))
    c.run_block-told.result told err
