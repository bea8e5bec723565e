-- Statements about generated scripts.
use Rattle.std.specs.Prelude.{ℕ, ◌≡◌, List, Ok}
use Rattle.script_words.specs.Set.{most_voters}
use Rattle.fault_script.specs.Script.{script}
use Rattle.fault_script.specs.declared.script.Script.{Script}

-- these bytes are a script of a set of this size, whose nodes are all members, as many of them with a vote as
-- may
abbrev pub IsScriptFor : ℕ → List ℕ → Type 0
IsScriptFor nodes bytes =
    (read : Script) × (script bytes ≡ Ok read) × (read.nodes ≡ nodes) × (read.voters ≡ most_voters nodes)
    × (read.members ≡ nodes)
