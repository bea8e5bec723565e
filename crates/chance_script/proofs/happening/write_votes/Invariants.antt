use Rattle.std.proofs.Common.{◌≡◌, ◌++◌, string_bytes}
use Rattle.chance_script.specs.Generated.{votes_of}
use Rattle.chance_script.proofs.happening.write_votes.Given as goal

abbrev pub invariant-loop-voter : goal.invariant-loop-voter
invariant-loop-voter l = string_bytes l.out ≡ string_bytes l.fn.out ++ votes_of l.candidate l.voter
