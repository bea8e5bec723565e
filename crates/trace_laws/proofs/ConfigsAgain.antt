-- A configuration as it is written is read, and one that is read is in no term yet.
use Rattle.std.proofs.Common.{◌≡◌, ℕ, true, ◌&&◌, List, [], ◌∷◌, Option, None, Some, refl, ap, sym, ◌∙◌, arith}
use Rattle.std.specs.Prelude.{codes, nat_le, nat_lt, option_and_then}
use Rattle.std.specs.List.{list_all}
use Rattle.serde_json.specs.Data.{Data}
use Rattle.serde_json.specs.Find.{as_array, get}
use Rattle.serde_json.specs.Read.{read}
use Rattle.bson_doc.proofs.BindLemmas.{Gets}
use Rattle.member_config.specs.declared.config.Config.{Config}
use Rattle.member_config.specs.declared.config.Member.{Member}
use Rattle.member_config.specs.Json.{chaining_of, config_in, config_of as config_of_data, integer_at, members_of}
use Rattle.member_config.specs.JsonText.{AreInRange, IsInRange, json_text}
use Rattle.member_config.proofs.ReadBack.{read_back}
use Rattle.script_words.specs.Configs.{config_of, or_bad_config}
use Rattle.script_words.proofs.Gets.{Has, and_then_has, map_has}
use Rattle.script_laws.proofs.ChanceLines.{each_true}
use Rattle.set_model.specs.Limits.{is_within_config, is_within_member}

-- ---- written and read

members_in_range : (members : List Member) → list_all is_within_member members ≡ true → AreInRange members
members_in_range [] all = tt
members_in_range (m ∷ members) all =
    let parts = each_true (is_within_member m) (list_all is_within_member members) all in
    let own = each_true (nat_lt m.number 2147483648) (nat_le m.priority 1000) parts.0 in
    let number = own.0 in
    let priority = own.1 in
    (grind arith, grind arith, members_in_range members parts.1)

in_range : (config : Config) → is_within_config config ≡ true → IsInRange config
in_range config within =
    let parts = each_true (nat_le 1 config.version && nat_lt config.version 2147483648) (list_all is_within_member config.members) within in
    let version = each_true (nat_le 1 config.version) (nat_lt config.version 2147483648) parts.0 in
    let low = version.0 in
    let high = version.1 in
    record { positive = grind arith; version = grind arith; members = members_in_range config.members parts.1 }

pub config_again : (config : Config) → is_within_config config ≡ true → config.term ≡ 0 → config_in (json_text config) ≡ Some config
config_again config within new =
    read_back config (in_range config within)
    ∙ ap (λ (term : ℕ). Some (record { term = term; version = config.version; members = config.members; chaining = config.chaining })) (sym new)

-- ---- read

-- in no term yet
abbrev pub IsNew : Config → Type 0
IsNew config = config.term ≡ 0

any : {A : Type 0} (o : Option A) → Has o (λ x. Unit {0})
any None = tt
any (Some x) = tt

data_new : (d : Data) → Has (config_of_data d) IsNew
data_new d =
    and_then_has (integer_at (codes "version") 1 2147483647 d) _ (λ n. Unit {0}) IsNew (any (integer_at (codes "version") 1 2147483647 d)) (λ version fine.
    and_then_has (option_and_then members_of (option_and_then as_array (get (codes "members") d))) _ (λ ms. Unit {0}) IsNew (any (option_and_then members_of (option_and_then as_array (get (codes "members") d)))) (λ members all.
    map_has (chaining_of d) _ IsNew (λ chaining. refl)))

read_new : (o : Option Data) → Has (option_and_then config_of_data o) IsNew
read_new None = tt
read_new (Some d) = data_new d

known_new : (found : Option Config) → Has found IsNew → Gets (or_bad_config found) IsNew
known_new None new = tt
known_new (Some config) new = new

pub config_new : (text : List ℕ) → Gets (config_of text) IsNew
config_new text = known_new (config_in text) (read_new (read text))
