-- The memory that a handle owns.
use base.Fml.{Fml, ftrue, ffalse}
use base.Stored.{Coded}
use denote.RawPtr.{Ptr, block_ptr, null_ptr}
use Rattle.std.specs.Coded.{coded_option}
use Rattle.std.specs.Box.Ownership.{box_owns}
use Rattle.std.specs.declared.alloc.Global.{Global}
use Rattle.std.specs.declared.option.Option.{Option}
use Rattle.std.specs.declared.option.Option.TheVariants.{None, Some}
use Rattle.std.specs.contracts.impls.GlobalAllocator.TheImpl.{ghosts}
use Rattle.play_c.specs.contracts.held.Held.{the_row}

-- C's heap: its handles are all alike
abbrev pub c_heap : Global
c_heap = record { memory = record { seal = tt } }

-- what a box of a set owns
abbrev pub boxed : Ptr → the_row.Denot → Fml
boxed = box_owns (ghosts.dealloc_token c_heap) the_row

-- nothing at null, and else a box
abbrev pub held_owns : Ptr → Option the_row.Denot → Fml
held_owns null_ptr None = ftrue
held_owns null_ptr (Some held) = ffalse
held_owns (block_ptr b o) None = ffalse
held_owns (block_ptr b o) (Some held) = boxed (block_ptr b o) held

abbrev pub held_coded : Coded (Option the_row.Denot)
held_coded = coded_option the_row.coded
