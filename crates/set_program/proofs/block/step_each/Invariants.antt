use Rattle.std.proofs.Common.{◌≡◌, [], ◌∷◌, take}
use Rattle.turn_board.specs.Passes.{IsFree}
use Rattle.shared_set.specs.Passes.{IsPass, sizes_of, undone, view}
use Rattle.set_program.specs.Blocks.{KeepsRun, KeepsShort, TellsList}
use Rattle.set_program.proofs.block.step_each.Given as goal

abbrev pub invariant-loop-line : goal.invariant-loop-line
invariant-loop-line g l =
    IsPass l.set l.pass × IsFree l.pass × KeepsShort (view l.initial.pass) (view l.pass) × KeepsRun (sizes_of l.set) (view l.initial.pass) (view l.pass)
    × TellsList (sizes_of l.set) (take l.line-index l.line-items) (view l.initial.pass) (view l.pass) l.told.items × (undone l.pass ≡ [] ∷ [])
