-- A node that counts who would vote for it.
use Rattle.std.specs.Prelude.{ℕ, ◌==◌, ◌&&◌, Bool, false, Option, None, Some, length}
use Rattle.election_core.specs.declared.tally.Count.{Count}
use Rattle.member_config.specs.Voters.{majority}
use Rattle.set_model.specs.Node.{DryTally}
use Rattle.set_model.specs.Votes.{with_vote}

-- it asked in the term that the answer is for, and is still in that term
abbrev pub is_trying : Option DryTally → ℕ → ℕ → Bool
is_trying None asked term = false
is_trying (Some tally) asked term = tally.term == asked && asked == term

abbrev pub with_dry_vote : Option DryTally → ℕ → Option DryTally
with_dry_vote None from = None
with_dry_vote (Some tally) from = Some (record tally { yes = with_vote tally.config tally.yes from })

-- how many would vote for it, and how many it needs
abbrev pub dry_count : Option DryTally → Count
dry_count None = record { yes = 0; needed = 0 }
dry_count (Some tally) = record { yes = length tally.yes; needed = majority tally.config }
