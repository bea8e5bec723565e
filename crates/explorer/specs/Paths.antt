-- Acts one after another.
use Rattle.std.specs.Prelude.{◌≡◌, ◌++◌, ℕ, zero, suc, List, []}
use Rattle.set_model.specs.declared.command.Event.{Event}
use Rattle.set_model.specs.World.{World}
use Rattle.explore_words.specs.declared.question.Act.{Act}
use Rattle.explore_words.specs.declared.question.Question.{Question}
use Rattle.question_laws.specs.Doing.{act_done, world_after}
use Rattle.question_laws.specs.Following.{Doing, MayDo, used_more}

-- these events are those of so many acts from a world on, and lead to another, after each act was done so
-- often
abbrev pub LeadsAlong : ℕ → Question → World → (ℕ → ℕ) → List Event → World → (ℕ → ℕ) → Type 0
LeadsAlong zero question world used events last done = (events ≡ []) × (last ≡ world) × (done ≡ used)
LeadsAlong (suc acts) question world used events last done =
    (doing : Doing) × (act : Act) × (rest : List Event) × MayDo question world used doing act
    × (events ≡ act_done world act doing.message ++ rest)
    × LeadsAlong acts question (world_after world (act_done world act doing.message))
    (used_more used doing.act) rest last done
