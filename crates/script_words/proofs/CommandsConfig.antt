-- A configuration that is read is within its bounds.
use Rattle.std.proofs.Common.{◌≡◌, ℕ, true, ◌&&◌, List, ◌∷◌, Option, None, Some, refl, arith}
use Rattle.std.specs.Prelude.{nat_lt, nat_le, codes, option_and_then, option_map}
use Rattle.std.specs.List.{list_all}
use Rattle.serde_json.specs.Data.{Data, Items, no_items, item}
use Rattle.serde_json.specs.Find.{get, as_number, as_u64, as_array}
use Rattle.serde_json.specs.Read.{read}
use Rattle.member_config.specs.declared.config.Member.{Member}
use Rattle.member_config.specs.declared.config.Config.{Config}
use Rattle.member_config.specs.Json.{between, integer_in, or_default, integer_at, integer_or, member_of, members_of, is_plain, chaining_of, config_of, config_in}
use Rattle.set_model.specs.Limits.{is_within_member, is_within_config}
use Rattle.script_words.specs.Configs.{or_bad_config}
use Rattle.bson_doc.proofs.BindLemmas.{Gets}
use Rattle.script_words.proofs.Gets.{Has, and_then_has, map_has, if_has, both}

abbrev IsBetween : ℕ → ℕ → ℕ → Type 0
IsBetween low high number = (nat_le low number && nat_le number high) ≡ true

integer_within : (low high : ℕ) (d : Data) → Has (integer_in low high d) (IsBetween low high)
integer_within low high d =
    and_then_has (option_and_then as_u64 (as_number d)) (between low high) (λ n. Unit {0}) (IsBetween low high) (any (option_and_then as_u64 (as_number d)))
    (λ n fine. if_has (nat_le low n && nat_le n high) n (IsBetween low high) (λ passed. passed))
  where
    any : (o : Option ℕ) → Has o (λ n. Unit {0})
    any None = tt
    any (Some n) = tt

abbrev Some_data : Option Data → Type 0
Some_data o = Has o (λ d. Unit {0})

some_data : (o : Option Data) → Some_data o
some_data None = tt
some_data (Some d) = tt

at_within : (key : List ℕ) (low high : ℕ) (d : Data) → Has (integer_at key low high d) (IsBetween low high)
at_within key low high d = and_then_has (get key d) (integer_in low high) (λ e. Unit {0}) (IsBetween low high) (some_data (get key d)) (λ e fine. integer_within low high e)

default_within : (default low high : ℕ) (o : Option Data) → IsBetween low high default → Has (or_default default (integer_in low high) o) (IsBetween low high)
default_within default low high None fine = fine
default_within default low high (Some d) fine = integer_within low high d

below : (number : ℕ) → IsBetween 0 2147483647 number → nat_lt number 2147483648 ≡ true
below number fine = grind arith

upper : (number most : ℕ) → IsBetween 0 most number → nat_le number most ≡ true
upper number most fine = grind arith

member_within : (d : Data) → Has (member_of d) (λ m. is_within_member m ≡ true)
member_within d =
    and_then_has (integer_at (codes "_id") 0 2147483647 d) _ (IsBetween 0 2147483647) (λ m. is_within_member m ≡ true) (at_within (codes "_id") 0 2147483647 d) (λ number ours.
    and_then_has (integer_or 1 (codes "votes") 0 1 d) _ (IsBetween 0 1) (λ m. is_within_member m ≡ true) (default_within 1 0 1 (get (codes "votes") d) refl) (λ votes fine.
    and_then_has (integer_or 1 (codes "priority") 0 1000 d) _ (IsBetween 0 1000) (λ m. is_within_member m ≡ true) (default_within 1 0 1000 (get (codes "priority") d) refl) (λ priority low.
    if_has (is_plain d) _ (λ m. is_within_member m ≡ true) (λ plain. both (nat_lt number 2147483648) (nat_le priority 1000) (below number ours) (upper priority 1000 low)))))

members_within : (items : Items) → Has (members_of items) (λ ms. list_all is_within_member ms ≡ true)
members_within no_items = refl
members_within (item d ds) =
    let later = members_within ds in
    and_then_has (member_of d) _ (λ m. is_within_member m ≡ true) (λ ms. list_all is_within_member ms ≡ true) (member_within d) (λ m fine. by_rest m fine (members_of ds) later)
  where
    by_rest : (m : Member) → is_within_member m ≡ true → (o : Option (List Member)) → Has o (λ ms. list_all is_within_member ms ≡ true) → Has (option_map (λ ms. m ∷ ms) o) (λ ms. list_all is_within_member ms ≡ true)
    by_rest m fine None rest = tt
    by_rest m fine (Some ms) rest = both (is_within_member m) (list_all is_within_member ms) fine rest

items_within : (o : Option Items) → Has (option_and_then members_of o) (λ ms. list_all is_within_member ms ≡ true)
items_within None = tt
items_within (Some items) = members_within items

config_within : (d : Data) → Has (config_of d) (λ c. is_within_config c ≡ true)
config_within d =
    and_then_has (integer_at (codes "version") 1 2147483647 d) _ (IsBetween 1 2147483647) (λ c. is_within_config c ≡ true) (at_within (codes "version") 1 2147483647 d) (λ version fine.
    and_then_has (option_and_then members_of (option_and_then as_array (get (codes "members") d))) _ (λ ms. list_all is_within_member ms ≡ true) (λ c. is_within_config c ≡ true)
    (items_within (option_and_then as_array (get (codes "members") d))) (λ members all.
    map_has (chaining_of d) _ (λ c. is_within_config c ≡ true) (λ chaining. within_range version members fine all)))
  where
    within_range : (version : ℕ) (members : List Member) → IsBetween 1 2147483647 version → list_all is_within_member members ≡ true → (nat_le 1 version && nat_lt version 2147483648 && list_all is_within_member members) ≡ true
    within_range version members fine all = rw all (grind arith)

text_within : (o : Option Data) → Has (option_and_then config_of o) (λ c. is_within_config c ≡ true)
text_within None = tt
text_within (Some d) = config_within d

known_within : (o : Option Config) → Has o (λ c. is_within_config c ≡ true) → Gets (or_bad_config o) (λ c. is_within_config c ≡ true)
known_within None holds = tt
known_within (Some config) holds = holds

pub config_text_within : (text : List ℕ) → Gets (or_bad_config (config_in text)) (λ c. is_within_config c ≡ true)
config_text_within text = known_within (config_in text) (text_within (read text))
