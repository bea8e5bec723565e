-- What a task reads, and how it can end.
use Rattle.std.specs.Prelude.{ℕ, Bool, true, false, List, [], ◌∷◌}
use Rattle.task_words.specs.declared.words.Task.{Task}
use Rattle.task_words.specs.declared.words.Task.TheVariants.{Run, Trace, Chaos, Sync, Linear as ReadsLinear, Watch as Watches}

-- the script of a task is the source's
abbrev pub is_of_source : Task → Bool
is_of_source Run = true
is_of_source Trace = true
is_of_source (ReadsLinear linear) = true
is_of_source (Watches watch) = true
is_of_source (Sync node) = true
is_of_source (Chaos seed events nodes) = false

-- nothing of a task comes after its script
abbrev pub is_script_alone : Task → Bool
is_script_alone Run = true
is_script_alone Trace = true
is_script_alone (ReadsLinear linear) = false
is_script_alone (Watches watch) = false
is_script_alone (Sync node) = false
is_script_alone (Chaos seed events nodes) = true

-- the statuses that a task can end with if the source and the sink have no fault and a script is read
abbrev pub may_end_in : Task → List ℕ
may_end_in Run = 0 ∷ 1 ∷ 7 ∷ []
may_end_in Trace = 0 ∷ 1 ∷ 7 ∷ []
may_end_in (ReadsLinear linear) = 0 ∷ 1 ∷ 7 ∷ 9 ∷ []
may_end_in (Watches watch) = 0 ∷ 1 ∷ 7 ∷ 9 ∷ []
may_end_in (Sync node) = 0 ∷ 1 ∷ 7 ∷ 8 ∷ 9 ∷ []
may_end_in (Chaos seed events nodes) = 0 ∷ 1 ∷ 7 ∷ []
