-- What `==` says of two slices of members.
use mathlib.Core.Bool.{beq}
use Rattle.std.specs.Prelude.{◌≡◌, Bool, List, true, false, ◌==◌, ◌&&◌}
use Rattle.std.specs.Bool.{Decides}
use Rattle.std.specs.Cmp.Lexicographic.{pointwise}
use Rattle.std.proofs.Common.{rules, arith}
use Rattle.std.proofs.lemmas.Bool.Decides.{nat_tests}
use Rattle.std.proofs.lemmas.Slice.Eq.{slice_eq-Decides}
use Rattle.member_config.specs.declared.config.Member.{Member}

abbrev same_member : Member → Member → Bool
same_member a b = (a.number == b.number) && (beq a.votes b.votes && (a.priority == b.priority))

pub flags_same : (p q : Bool) → Decides (beq p q) (p ≡ q)
flags_same true true = search rules
flags_same true false = search rules
flags_same false true = search rules
flags_same false false = search rules

member_same : (a b : Member) → Decides (same_member a b) (a ≡ b)
member_same a b = let h = flags_same a.votes b.votes in grind (arith, nat_tests, h)

pub members_same : (xs ys : List Member) (r : Bool) → r ≡ pointwise same_member xs ys → Decides r (xs ≡ ys)
members_same xs ys r is = slice_eq-Decides member_same xs ys r is
