-- How a search ends.
use Rattle.std.specs.Prelude.{◌≤◌, ◌<◌, ℕ, List}
use Rattle.set_model.specs.declared.command.Event.{Event}
use Rattle.explore_words.specs.declared.question.Question.{Question}
use Rattle.explorer.specs.declared.search.End.{End}
use Rattle.explorer.specs.declared.search.End.TheVariants.{Found, NoneAtAll, NoneWithin, Unknown}
use Rattle.explorer.specs.Exploring.{HasNoneUpTo, IsShortest}

-- These events were done where a run was found.
abbrev pub Ends : Question → (depth limit : ℕ) → List Event → End → Type 0
Ends question depth limit events (Found acts) = (acts ≤ depth) × IsShortest question acts events
Ends question depth limit events (NoneAtAll states) = (most : ℕ) → HasNoneUpTo question most limit states
Ends question depth limit events (NoneWithin states) = HasNoneUpTo question depth limit states
Ends question depth limit events (Unknown acts states) =
    (acts < depth) × HasNoneUpTo question acts limit states
