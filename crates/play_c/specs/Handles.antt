-- What calls do with handles, each of which leads to a set or nowhere.
use Rattle.std.specs.Prelude.{◌≡◌, ℕ, true, false, List, [], Option, None, Some, drop}
use Rattle.run_checker.specs.Checking.{set_of}
use Rattle.play.specs.Play.{can_be_opened, opened}
use Rattle.play_c.specs.Calls.{Does, fresh}
use Rattle.play_c.specs.Holding.{Holding}
use Rattle.play_c.specs.declared.calls.Answer.{Answer}
use Rattle.play_c.specs.declared.calls.Answer.TheVariants.{BadSizes, Done, Memory, NoSet}
use Rattle.play_c.specs.declared.calls.Call.{Call}
use Rattle.play_c.specs.declared.calls.Call.TheVariants as calls

-- a handle leads to this, unless memory ran out
abbrev pub PutsIn : Answer → Holding → Option Holding → Option Holding → Type 0
PutsIn Done held old new = new ≡ Some held
PutsIn Memory held old new = new ≡ old
PutsIn _ held old new = ⊥

abbrev pub Opens : Answer → ℕ × ℕ × ℕ → ℕ → Option Holding → Option Holding → Type 0
Opens Done sizes line old new =
    (can_be_opened sizes line ≡ true) × (new ≡ Some (fresh (opened (set_of sizes) line)))
Opens BadSizes sizes line old new = (can_be_opened sizes line ≡ false) × (new ≡ old)
Opens Memory sizes line old new = new ≡ old
Opens _ sizes line old new = ⊥

-- what a set's handle leads to, and its copy's before and afterwards
abbrev pub Copies : Answer → Option Holding → Option Holding → Option Holding → Type 0
Copies Done (Some held) old new = new ≡ Some (fresh held.play)
Copies Memory (Some held) old new = new ≡ old
Copies NoSet None old new = new ≡ old
Copies _ set old new = ⊥

-- what a call with a number and a line does with what the handle leads to
abbrev pub Calls : Answer → Option Call → ℕ → List ℕ → Option Holding → Option Holding → Type 0
Calls answer call number line (Some old) (Some new) = Does call number line old new answer
Calls answer call number line None None = answer ≡ NoSet
Calls answer call number line old new = ⊥

-- from which byte on a call shows its text
abbrev pub first_shown : Option Call → ℕ → ℕ
first_shown (Some calls.Text) number = number
first_shown call number = 0

-- the text that a call shows
abbrev pub shown : Option Call → ℕ → Option Holding → List ℕ
shown call number None = []
shown call number (Some held) = drop (first_shown call number) held.text
