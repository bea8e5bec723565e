-- What was heard of members, by the entries of a map.
use Rattle.std.proofs.Common.{◌≡◌, ◌∙◌, ap, sym, refl, arith, Bool, true, false, cond, List, [], ◌∷◌, map, ℕ, Option, Some}
use Rattle.std.specs.Prelude.{nat_eq}
use Rattle.std.proofs.lemmas.Bool.Decides.{nat_tests}
use Rattle.std.specs.Option.{option_map}
use Rattle.std.specs.Ordering.{nat_cmp, eq_by_cmp}
use Rattle.std.specs.Cmp.{nat_cmp_total}
use Rattle.std.specs.Map.{lookup}
use Rattle.std.specs.FinMap as maps
use Rattle.sync_source.specs.Known.{heard_by}
use Rattle.sync_source.specs.declared.source.Known.{Known}
use Rattle.sync_source.specs.Table.{heard_entry, heard_in}

abbrev known_at : List (ℕ × Known) → ℕ → Option Known
known_at entries number = lookup (nat_eq number) entries

same_key : (q k : ℕ) → eq_by_cmp nat_cmp q k ≡ nat_eq q k
same_key q k = grind (arith, nat_tests)

turned_key : (q k : ℕ) → eq_by_cmp nat_cmp q k ≡ nat_eq k q
turned_key q k = grind (arith, nat_tests)

find-known : (entries : List (ℕ × Known)) (q : ℕ) → maps.find nat_cmp q (map heard_entry entries) ≡ option_map heard_by (known_at entries q)
find-known [] q = refl
find-known (entry ∷ entries) q =
    ap (λ b. cond b (Some (heard_by entry.1)) (maps.find nat_cmp q (map heard_entry entries))) (same_key q entry.0)
    ∙ go (nat_eq q entry.0) (find-known entries q)
  where
    go : (b : Bool) → maps.find nat_cmp q (map heard_entry entries) ≡ option_map heard_by (known_at entries q)
        → cond b (Some (heard_by entry.1)) (maps.find nat_cmp q (map heard_entry entries)) ≡ option_map heard_by (cond b (Some entry.1) (known_at entries q))
    go true rest = refl
    go false rest = rest

pub get-heard_in : (entries : List (ℕ × Known)) (q : ℕ) → maps.get (heard_in entries) q ≡ option_map heard_by (known_at entries q)
get-heard_in entries q = maps.get-from_entries nat_cmp_total (map heard_entry entries) q ∙ find-known entries q

-- entries that say the same of each member make the same map
pub same_heard : (old new : List (ℕ × Known)) → ((q : ℕ) → known_at new q ≡ known_at old q) → heard_in new ≡ heard_in old
same_heard old new same =
    maps.same_map nat_cmp_total maps.nat_cmp-IsAntisymmetric _ _ (λ q.
    get-heard_in new q ∙ ap (option_map heard_by) (same q) ∙ sym (get-heard_in old q))

heard_either : (b : Bool) (known : Known) (rest : Option Known) → option_map heard_by (cond b (Some known) rest) ≡ cond b (Some (heard_by known)) (option_map heard_by rest)
heard_either true known rest = refl
heard_either false known rest = refl

-- and those with one more make the map with it
pub heard_with : (old new : List (ℕ × Known)) (number : ℕ) (known : Known) → ((q : ℕ) → known_at new q ≡ cond (nat_eq number q) (Some known) (known_at old q))
    → heard_in new ≡ maps.insert (heard_in old) number (heard_by known)
heard_with old new number known differ =
    maps.same_map nat_cmp_total maps.nat_cmp-IsAntisymmetric _ _ (λ q.
    get-heard_in new q ∙ ap (option_map heard_by) (differ q) ∙ heard_either (nat_eq number q) known (known_at old q)
    ∙ ap (λ b. cond b (Some (heard_by known)) (option_map heard_by (known_at old q))) (sym (turned_key q number))
    ∙ ap (cond (eq_by_cmp nat_cmp q number) (Some (heard_by known))) (sym (get-heard_in old q))
    ∙ sym (maps.get-insert nat_cmp_total (heard_in old) number (heard_by known) q))
