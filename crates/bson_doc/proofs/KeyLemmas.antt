-- The order of keys and that of places are total, and only equal ones tie.
use Rattle.std.proofs.Common.{◌≡◌, true, false, refl, arith, rules}
use Rattle.std.specs.declared.cmp.Ordering.{Ordering}
use Rattle.std.specs.declared.cmp.Ordering.TheVariants.{Less, Equal, Greater}
use Rattle.std.specs.Ordering.{ordering_then, nat_cmp, int_cmp}
use Rattle.std.specs.Cmp.{IsTotalOrder}
use Rattle.std.specs.Cmp.Lexicographic.{slice_cmp}
use Rattle.std.specs.Cmp.Rules.{comparing}
use Rattle.std.specs.FinMap.{IsAntisymmetric, nat_cmp-IsAntisymmetric, int_cmp-IsAntisymmetric, slice_cmp-IsAntisymmetric}
use Rattle.bson_doc.specs.declared.key.IdKey.{IdKey}
use Rattle.bson_doc.specs.declared.key.IdKey.TheVariants.{Number, Text, Binary, ObjectId, Boolean, Date}
use Rattle.bson_doc.specs.Key.{rank, number, subtype, bytes, size, key_cmp}
use Rattle.bson_doc.specs.Place.{Place, place_cmp}

pub key_cmp-total : IsTotalOrder key_cmp
key_cmp-total = search (comparing, rules) depth 12

pub place_cmp-total : IsTotalOrder place_cmp
place_cmp-total = search (comparing, rules) depth 16

then_first : (r s : Ordering) → ordering_then r s ≡ Equal → r ≡ Equal
then_first Less s e = cc e
then_first Equal s e = refl
then_first Greater s e = cc e

then_second : (r s : Ordering) → ordering_then r s ≡ Equal → s ≡ Equal
then_second Less s e = cc e
then_second Equal s e = e
then_second Greater s e = cc e

same_parts : (x y : IdKey) → rank x ≡ rank y → number x ≡ number y → subtype x ≡ subtype y → bytes x ≡ bytes y → x ≡ y
same_parts (Number m) (Number n) r same s b = cc
same_parts (Text one) (Text two) r same s b = cc
same_parts (Binary k one) (Binary l two) r same s b = cc
same_parts (ObjectId one) (ObjectId two) r same s b = cc
same_parts (Boolean true) (Boolean true) r same s b = refl
same_parts (Boolean false) (Boolean false) r same s b = refl
same_parts (Boolean true) (Boolean false) r same s b = cc
same_parts (Boolean false) (Boolean true) r same s b = cc
same_parts (Date m) (Date n) r same s b = cc
same_parts x y r same s b = absurd (omega arith)

pub key_cmp-antisymmetric : IsAntisymmetric key_cmp
key_cmp-antisymmetric x y e =
    let by_bytes = slice_cmp nat_cmp (bytes x) (bytes y) in
    let by_subtype = ordering_then (nat_cmp (subtype x) (subtype y)) by_bytes in
    let by_size = ordering_then (nat_cmp (size x) (size y)) by_subtype in
    let by_number = ordering_then (int_cmp (number x) (number y)) by_size in
    let after_rank = then_second (nat_cmp (rank x) (rank y)) by_number e in
    let after_number = then_second (int_cmp (number x) (number y)) by_size after_rank in
    let after_size = then_second (nat_cmp (size x) (size y)) by_subtype after_number in
    same_parts x y
    (nat_cmp-IsAntisymmetric _ _ (then_first (nat_cmp (rank x) (rank y)) by_number e))
    (int_cmp-IsAntisymmetric _ _ (then_first (int_cmp (number x) (number y)) by_size after_rank))
    (nat_cmp-IsAntisymmetric _ _ (then_first (nat_cmp (subtype x) (subtype y)) by_bytes after_size))
    (slice_cmp-IsAntisymmetric nat_cmp-IsAntisymmetric _ _ (then_second (nat_cmp (subtype x) (subtype y)) by_bytes after_size))

same_pair : (x y : Place) → x.0 ≡ y.0 → x.1 ≡ y.1 → x ≡ y
same_pair (a, b) (c, d) first second = cc

pub place_cmp-antisymmetric : IsAntisymmetric place_cmp
place_cmp-antisymmetric x y e =
    let by_name = slice_cmp nat_cmp x.0 y.0 in
    same_pair x y
    (slice_cmp-IsAntisymmetric nat_cmp-IsAntisymmetric _ _ (then_first by_name (key_cmp x.1 y.1) e))
    (key_cmp-antisymmetric _ _ (then_second by_name (key_cmp x.1 y.1) e))

pub ruleset key_order = (key_cmp-total, key_cmp-antisymmetric, place_cmp-total, place_cmp-antisymmetric)
