-- The line that names the sizes of the set: `set NODES [VOTERS [MEMBERS]]`, with up to 50 nodes. Up to seven
-- of them vote, and without MEMBERS only these are members. With NODES alone all nodes are members, and as
-- many vote as may.
use Rattle.std.specs.Prelude.{ℕ, nat_lt, List, codes, None, Some, Result, Err, if◌then◌else◌}
use Rattle.std.specs.Str.{bytes_eq}
use Rattle.bson_doc.specs.Bind.{◌>>=◌}
use Rattle.script_words.specs.declared.rule.ScriptRule.{ScriptRule}
use Rattle.script_words.specs.declared.rule.ScriptRule.TheVariants.{NoSetLine, WordCount}
use Rattle.script_words.specs.declared.set.SetLine.{SetLine}
use Rattle.script_words.specs.declared.shape.Shape.TheVariants.{Words}
use Rattle.script_words.specs.Words.{Left, has_shape, word_at, ended, number_at, optional_at}

-- up to seven of the nodes vote
abbrev pub most_voters : ℕ → ℕ
most_voters nodes = if nat_lt nodes 7 then nodes else 7

-- how many members there are if the line doesn't say: all nodes, or only the voters if it names them
abbrev pub members_or : Left → ℕ → ℕ → ℕ
members_or None nodes voters = nodes
members_or (Some left) nodes voters = voters

unfoldable pub sizes_at : Left → Result SetLine ScriptRule
sizes_at left = do
  nodes ← number_at 1 50 left
  voters ← optional_at (most_voters nodes.0) 1 (most_voters nodes.0) nodes.1
  members ← optional_at (members_or nodes.1 nodes.0 voters.0) voters.0 nodes.0 voters.1
  ended members.1 (record { nodes = nodes.0; voters = voters.0; members = members.0 })

unfoldable pub set_line : List ℕ → Result SetLine ScriptRule
set_line text = do
  first ← word_at (Some text)
  if bytes_eq first.0 (codes "set")
      then (if has_shape (Words 1 3) first.1 then sizes_at first.1 else Err WordCount)
      else Err NoSetLine
