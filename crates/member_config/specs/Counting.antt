-- Counting: how many of a list of voters pass a test, and when that is a majority (MongoRaftReconfig).
use Rattle.std.specs.Prelude.{◌≡◌, ◌≤◌, ℕ, ◌+◌, ◌/◌, Bool, true, false, not, List, [], ◌∷◌, length, ⊤}
use Rattle.member_config.specs.Numbers.{is_among}

abbrev pub bit : Bool → ℕ
bit true = 1
bit false = 0

abbrev pub count : (ℕ → Bool) → List ℕ → ℕ
count test [] = 0
count test (voter ∷ voters) = bit (test voter) + count test voters

-- more than half of the voters pass the test
abbrev pub Most : List ℕ → (ℕ → Bool) → Type 0
Most voters test = length voters / 2 + 1 ≤ count test voters

-- no voter is listed twice
abbrev pub NoneTwice : List ℕ → Type 0
NoneTwice [] = ⊤
NoneTwice (voter ∷ voters) = (is_among voter voters ≡ false) × NoneTwice voters

-- how many of the one list are not in the other
abbrev pub outside : List ℕ → List ℕ → ℕ
outside one two = count (λ voter. not (is_among voter two)) one

-- at most one voter is in just one of the two
abbrev pub AreApart : List ℕ → List ℕ → Type 0
AreApart one two = outside one two + outside two one ≤ 1

-- two majorities have a voter in common
abbrev pub Meets : List ℕ → List ℕ → Type 0
Meets one two = (f g : ℕ → Bool) → Most one f → Most two g → (voter : ℕ) × (f voter ≡ true) × (g voter ≡ true)
