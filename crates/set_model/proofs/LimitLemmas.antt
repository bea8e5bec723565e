-- What a command names is within the set.
use Rattle.std.proofs.Common.{◌≡◌, ◌<◌, ℕ, Bool, true, ◌&&◌, nat_lt, ltb-true}
use Rattle.std.proofs.lemmas.Bool.{and_parts}

-- a command that names a node names one of the set
pub named : (number size : ℕ) (others within : Bool) → ((nat_lt number size && others) && within) ≡ true → number < size
named number size others within is = ltb-true number size (and_parts (nat_lt number size) others (and_parts (nat_lt number size && others) within is).0).0
