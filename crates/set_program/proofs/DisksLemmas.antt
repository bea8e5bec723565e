-- How a set's disks go on, part after part.
use Rattle.std.proofs.Common.{ℕ, ◌≡◌, List, [], ◌∷◌, ◌++◌, fold, sym, subst, refl}
use Rattle.rs_disk.specs.State.{State}
use Rattle.set_model.specs.declared.command.Command.{Command}
use Rattle.set_model.specs.declared.command.Event.{Event}
use Rattle.set_model.specs.declared.reply.Reply.{Reply}
use Rattle.set_model.specs.Run.{Run, Sizes, after, opening, run}
use Rattle.set_world.specs.World.{Set}
use Rattle.set_world.specs.Disks.{IsStep}
use Rattle.set_world.specs.Went.{DisksPlay}
use Rattle.set_program.specs.Disks.{DisksPlayed}

-- events after events
play_after : {D : Type 0} (state : D → State) (so_far : Run) (events more : List Event) (first mid last : List D) → DisksPlay state so_far.world events first mid
    → DisksPlay state (fold after so_far events).world more mid last → DisksPlay state so_far.world (events ++ more) first last
play_after {D} state so_far [] more first mid last same rest = subst (λ (ds : List D). DisksPlay state so_far.world more ds last) same rest
play_after state so_far (event ∷ events) more first mid last played rest =
    (played.0, played.1, play_after state (after so_far event) events more played.0 mid last played.2 rest)

-- a set goes on by events
pub played_on : {D : Type 0} (state : D → State) (first : List D) (old new : Set D) (added : List Event) → new.sizes ≡ old.sizes → new.history ≡ old.history ++ added
    → DisksPlay state (run old.sizes old.history).world added old.disks new.disks → DisksPlayed state first old → DisksPlayed state first new
played_on state first old new added sizes history more played =
    subst (λ (es : List Event). DisksPlay state (opening new.sizes).world es first new.disks) (sym history)
    (subst (λ (s : Sizes). DisksPlay state (opening s).world (old.history ++ added) first new.disks) (sym sizes)
    (play_after state (opening old.sizes) old.history added first old.disks new.disks played more))

-- by one step
pub one_played : {D : Type 0} (state : D → State) (old new : Set D) (line : ℕ) (command : Command) (reply : Reply) (is : IsStep state old new line command reply)
    → DisksPlay state (run old.sizes old.history).world (is.event ∷ []) old.disks new.disks
one_played state old new line command reply is = (new.disks, is.disks, refl)
