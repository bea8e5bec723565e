-- Who votes (MongoDB manual, replica set members; MongoRaftReconfig).
use Rattle.std.specs.Prelude.{◌≡◌, ◌≤◌, ℕ, ◌+◌, ◌/◌, ◌==◌, Bool, false, not, ◌&&◌, nat_lt, nat_le, List, ◌∷◌, Option, filter, length, map, if◌then◌else◌}
use Rattle.std.specs.List.{list_any}
use Rattle.member_config.specs.declared.config.Member.{Member}
use Rattle.member_config.specs.declared.config.Config.{Config}
use Rattle.member_config.specs.Numbers.{is_among, has_twice, outside, first_of}

-- the numbers of the members
abbrev pub numbers : Config → List ℕ
numbers config = map (λ m. m.number) config.members

-- the numbers of those that vote
abbrev pub voters_of : List Member → List ℕ
voters_of members = map (λ m. m.number) (filter (λ m. m.votes) members)

-- the numbers of the members that vote
abbrev pub voters : Config → List ℕ
voters config = voters_of config.members

abbrev pub is_member : Config → ℕ → Bool
is_member config number = is_among number (numbers config)

abbrev pub is_voter : Config → ℕ → Bool
is_voter config number = is_among number (voters config)

-- a member whose priority is above 0
abbrev pub is_electable_in : Config → ℕ → Bool
is_electable_in config number = list_any (λ m. m.number == number && nat_lt 0 m.priority) config.members

-- the first member that isn't a node of a set with this many nodes
abbrev pub unknown_member : (nodes : ℕ) → Config → Option ℕ
unknown_member nodes config = first_of (filter (λ number. not (nat_lt number nodes)) (numbers config))

-- half of this many voters, rounded down, plus one
abbrev pub most_of : ℕ → ℕ
most_of count = count / 2 + 1

abbrev pub majority : Config → ℕ
majority config = most_of (length (voters config))

-- those who voted, plus one more if it is a voter that hasn't voted yet
abbrev pub with_vote : List ℕ → List ℕ → ℕ → List ℕ
with_vote voters voted from =
    if is_among from voters && not (is_among from voted) then from ∷ voted else voted

-- at most one number votes in just one of the two: then any two of their majorities intersect
abbrev pub is_one_voter_apart : Config → Config → Bool
is_one_voter_apart one other =
    nat_le (length (outside (voters one) (voters other)) + length (outside (voters other) (voters one))) 1

-- no two members have the same number
abbrev pub HasDistinctNumbers : Config → Type 0
HasDistinctNumbers config = has_twice (numbers config) ≡ false

-- a majority of the voters passes a test
abbrev pub HasMajority : Config → (ℕ → Bool) → Type 0
HasMajority config test = majority config ≤ length (filter test (voters config))
