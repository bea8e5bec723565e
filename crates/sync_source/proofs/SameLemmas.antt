-- What `==` says of two tables of what was heard.
use mathlib.Core.Bool.{beq}
use Rattle.std.specs.Prelude.{◌≡◌, Bool, true, ◌==◌, ◌&&◌, ℕ, nat_eq}
use Rattle.std.specs.Bool.{Decides}
use Rattle.std.specs.Cmp.{nat_eq_equiv}
use Rattle.std.specs.HashMap.{HashMap}
use Rattle.std.specs.HashMap as hash
use Rattle.std.proofs.Common.{arith}
use Rattle.std.proofs.lemmas.Bool.Decides.{nat_tests}
use Rattle.std.proofs.lemmas.Map.Lookups.{hash_map_eq-Decides}
use Rattle.rs_optime.specs.declared.optime.OpTime.{OpTime}
use Rattle.member_config.proofs.SameLemmas.{flags_same}
use Rattle.sync_source.specs.declared.source.Known.{Known}

abbrev same_optime : OpTime → OpTime → Bool
same_optime p q = (p.term == q.term) && (p.ts == q.ts)

abbrev same_known : Known → Known → Bool
same_known a b = (a.member == b.member) && (same_optime a.last b.last && beq a.primary b.primary)

known_same : (a b : Known) → Decides (same_known a b) (a ≡ b)
known_same a b = let flags = flags_same a.primary b.primary in grind (arith, nat_tests, flags)

pub tables_same : {S : Type 0} (m n : HashMap ℕ Known S) (r : Bool)
    → r ≡ hash.hash_map_eq nat_eq same_known m n → r ≡ true → (q : ℕ) → hash.get nat_eq m q ≡ hash.get nat_eq n q
tables_same m n r is = (hash_map_eq-Decides nat_eq_equiv known_same m n r is).0
