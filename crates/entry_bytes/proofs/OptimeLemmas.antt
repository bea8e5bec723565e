-- The bytes of an optime determine it.
use Rattle.std.proofs.Common.{◌≡◌, ◌∙◌, ap, arith, List, [], ◌++◌, ℕ, append_assoc}
use Rattle.rs_optime.specs.Order.{IsOptime}
use Rattle.rs_optime.specs.declared.optime.OpTime.{OpTime}
use Rattle.bson_codec.specs.Numbers.{number_bytes}
use Rattle.bson_codec.proofs.NumberLemmas.{number_once}
use Rattle.entry_bytes.specs.Optimes.{optime_bytes}

pub optime_parts : (o : OpTime) (after bytes : List ℕ) → bytes ≡ optime_bytes o ++ after
    → bytes ≡ number_bytes 8 o.term ++ (number_bytes 8 o.ts ++ after)
optime_parts o after bytes is = is ∙ append_assoc (number_bytes 8 o.term) (number_bytes 8 o.ts) after

pub optime_once : (a b : OpTime) → IsOptime a → IsOptime b → optime_bytes a ≡ optime_bytes b → a ≡ b
optime_once a b one two is =
    let first = number_once 8 a.term b.term (number_bytes 8 a.ts) (number_bytes 8 b.ts) (omega (arith, one.0)) (omega (arith, two.0)) is in
    let second = number_once 8 a.ts b.ts [] [] (omega (arith, one.1)) (omega (arith, two.1)) (ap (λ (l : List ℕ). l ++ []) first.1) in
    λ i. record { term = first.0 i; ts = second.0 i }
