-- The configuration that a set begins with breaks no rule.
use Rattle.std.proofs.Common.{◌≡◌, ◌≤◌, ◌<◌, ◌+◌, ◌==◌, ℕ, zero, suc, Bool, true, false, not, ◌&&◌, ◌||◌, cond, if◌then◌else◌, List, ◌∷◌, Option, None, Some, length, map, filter, nat_lt, ltb-true, ltb-false, ap, refl, arith}
use Rattle.std.proofs.lemmas.Bool.{eqb-true, le-ltb, lt-ltb}
use Rattle.std.specs.List.{list_any, list_all}
use Rattle.member_config.specs.declared.config.Member.{Member}
use Rattle.member_config.specs.Config.{first_config, first_member, members_from}
use Rattle.member_config.specs.Numbers.{is_among, has_twice}
use Rattle.member_config.specs.Rule.{rule, has_wrong_count, has_wrong_votes, has_wrong_priority, has_no_priority}
use Rattle.member_config.specs.Voters.{numbers, voters_of}
use Rattle.member_config.proofs.Majorities.{both_false}

apart : (a b : ℕ) → a < b → (b == a) ≡ false
apart a b less = go (b == a) refl
  where
    go : (test : Bool) → (b == a) ≡ test → test ≡ false
    go true same = absurd (let equal : b ≡ a = eqb-true b a same in omega (arith, less, equal))
    go false same = refl

-- ---- how many, and under which numbers

members_count : (voters first count : ℕ) → length (members_from voters first count) ≡ count
members_count voters first zero = refl
members_count voters first (suc count) = ap suc (members_count voters (first + 1) count)

-- a number below the first is none of theirs
before_all : (voters number first count : ℕ) → number < first → is_among number (map (λ m. m.number) (members_from voters first count)) ≡ false
before_all voters number first zero less = refl
before_all voters number first (suc count) less = both_false (first == number) (is_among number (map (λ m. m.number) (members_from voters (first + 1) count)))
    (apart number first less) (before_all voters number (first + 1) count (omega (arith, less)))

none_twice : (voters first count : ℕ) → has_twice (map (λ m. m.number) (members_from voters first count)) ≡ false
none_twice voters first zero = refl
none_twice voters first (suc count) = both_false (is_among first (map (λ m. m.number) (members_from voters (first + 1) count))) (has_twice (map (λ m. m.number) (members_from voters (first + 1) count)))
    (before_all voters first (first + 1) count (omega arith)) (none_twice voters (first + 1) count)

-- ---- who votes

none_here : (m : Member) (rest : List Member) (b : Bool) → b ≡ false → length (map (λ (x : Member). x.number) rest) ≡ 0 → length (map (λ (x : Member). x.number) (cond b (m ∷ rest) rest)) ≡ 0
none_here m rest true is none = absurd (cc is)
none_here m rest false is none = none

-- from the number of voters on nobody votes
silent : (most first count : ℕ) → most ≤ first → length (voters_of (members_from most first count)) ≡ 0
silent most first zero past = refl
silent most first (suc count) past = none_here (first_member most first) (filter (λ m. m.votes) (members_from most (first + 1) count)) (nat_lt first most) (le-ltb first most past)
    (silent most (first + 1) count (omega (arith, past)))

some_here : (most first : ℕ) (m : Member) (rest : List Member) (b : Bool) → nat_lt first most ≡ b → first ≤ most → (first + 1 ≤ most → length (map (λ (x : Member). x.number) rest) + (first + 1) ≡ most)
    → (most ≤ first + 1 → length (map (λ (x : Member). x.number) rest) ≡ 0) → length (map (λ (x : Member). x.number) (cond b (m ∷ rest) rest)) + first ≡ most
some_here most first m rest true below least more none =
    let less : first < most = ltb-true first most below in
    let some : length (map (λ (x : Member). x.number) rest) + (first + 1) ≡ most = more (omega (arith, less)) in
    omega (arith, some)
some_here most first m rest false past least more none =
    let last : most ≤ first = ltb-false first most past in
    let nobody : length (map (λ (x : Member). x.number) rest) ≡ 0 = none (omega (arith, last)) in
    omega (arith, nobody, last, least)

-- and the others do
voting : (most first count : ℕ) → first ≤ most → most ≤ first + count → length (voters_of (members_from most first count)) + first ≡ most
voting most first zero least within = let same : 0 + first ≡ most = omega (arith, least, within) in same
voting most first (suc count) least within = some_here most first (first_member most first) (filter (λ m. m.votes) (members_from most (first + 1) count)) (nat_lt first most) refl least
    (λ less. voting most (first + 1) count less (omega (arith, within))) (silent most (first + 1) count)

-- nobody without a vote has priority
idle : (voters first count : ℕ) → list_any (λ m. not m.votes && nat_lt 0 m.priority) (members_from voters first count) ≡ false
idle voters first zero = refl
idle voters first (suc count) = go (nat_lt first voters) (idle voters (first + 1) count)
  where
    go : (b : Bool) → list_any (λ m. not m.votes && nat_lt 0 m.priority) (members_from voters (first + 1) count) ≡ false
        → ((not b && nat_lt 0 (if b then 1 else 0)) || list_any (λ m. not m.votes && nat_lt 0 m.priority) (members_from voters (first + 1) count)) ≡ false
    go true rest = rest
    go false rest = rest

-- the first one has priority
led : (voters members : ℕ) → 1 ≤ voters → 1 ≤ members → list_all (λ m. m.priority == 0) (members_from voters 0 members) ≡ false
led voters zero one some = absurd (omega (arith, some))
led voters (suc members) one some = go (nat_lt 0 voters) (lt-ltb 0 voters (omega (arith, one)))
  where
    go : (b : Bool) → b ≡ true → (((if b then 1 else 0) == 0) && list_all (λ m. m.priority == 0) (members_from voters (0 + 1) members)) ≡ false
    go true is = refl
    go false is = absurd (cc is)

-- ---- the rules

counted : (voters members : ℕ) → 1 ≤ members → members ≤ 50 → has_wrong_count (first_config voters members) ≡ false
counted voters members some most =
    let many : length (members_from voters 0 members) ≡ members = members_count voters 0 members in
    both_false (length (members_from voters 0 members) == 0) (nat_lt 50 (length (members_from voters 0 members))) (apart 0 (length (members_from voters 0 members)) (omega (arith, many, some)))
    (le-ltb 50 (length (members_from voters 0 members)) (omega (arith, many, most)))

voted : (voting_ones members : ℕ) → 1 ≤ voting_ones → voting_ones ≤ 7 → voting_ones ≤ members → has_wrong_votes (first_config voting_ones members) ≡ false
voted voting_ones members one few within =
    let many : length (voters_of (members_from voting_ones 0 members)) + 0 ≡ voting_ones = voting voting_ones 0 members (omega arith) (omega (arith, within)) in
    both_false (length (voters_of (members_from voting_ones 0 members)) == 0) (nat_lt 7 (length (voters_of (members_from voting_ones 0 members))))
    (apart 0 (length (voters_of (members_from voting_ones 0 members))) (omega (arith, many, one))) (le-ltb 7 (length (voters_of (members_from voting_ones 0 members))) (omega (arith, many, few)))

abbrev first_broken : (a b c d e : Bool) → Option ℕ
first_broken a b c d e =
    if a then Some 1 else if b then Some 2 else if c then Some 3 else if d then Some 4 else if e then Some 5 else None

unbroken : (a b c d e : Bool) → a ≡ false → b ≡ false → c ≡ false → d ≡ false → e ≡ false → first_broken a b c d e ≡ None
unbroken true b c d e one two three four five = absurd (cc one)
unbroken false true c d e one two three four five = absurd (cc two)
unbroken false false true d e one two three four five = absurd (cc three)
unbroken false false false true e one two three four five = absurd (cc four)
unbroken false false false false true one two three four five = absurd (cc five)
unbroken false false false false false one two three four five = refl

pub first_rule : (voting_ones members : ℕ) → 1 ≤ voting_ones → voting_ones ≤ 7 → voting_ones ≤ members → members ≤ 50 → rule (first_config voting_ones members) ≡ None
first_rule voting_ones members one few within most =
    let some : 1 ≤ members = omega (arith, one, within) in
    unbroken (has_wrong_count (first_config voting_ones members)) (has_twice (numbers (first_config voting_ones members))) (has_wrong_votes (first_config voting_ones members))
    (has_wrong_priority (first_config voting_ones members)) (has_no_priority (first_config voting_ones members))
    (counted voting_ones members some most) (none_twice voting_ones 0 members) (voted voting_ones members one few within) (idle voting_ones 0 members) (led voting_ones members one some)
