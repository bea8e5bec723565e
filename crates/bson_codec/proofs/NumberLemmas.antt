-- A number at the start of some bytes, and what follows it.
use Rattle.std.proofs.Common.{◌≡◌, ℕ, ◌^◌, ◌<◌, ◌≤◌, List, ◌++◌, length, drop, ap, sym, ◌∙◌, arith, length-append}
use Rattle.std.proofs.lemmas.List.{drop_at}
use Rattle.bson_codec.specs.Numbers.{number_bytes, number_in}
use Rattle.bson_codec.proofs.PartLemmas.{number_back}
use Rattle.bson_codec.proofs.SpellingLemmas.{length-number_bytes}

pub long : (n y : ℕ) (more bytes : List ℕ) → bytes ≡ number_bytes n y ++ more → n ≤ length bytes
long n y more bytes is = omega (arith, ap length is, length-append (number_bytes n y) more, length-number_bytes n y)

pub number_read : (n y x : ℕ) (more bytes : List ℕ) → y < 256 ^ n → bytes ≡ number_bytes n y ++ more → x ≡ number_in n bytes → x ≡ y
number_read n y x more bytes small is read = read ∙ ap (λ (l : List ℕ). number_in n l) is ∙ number_back n y more small

pub rest_read : (n y : ℕ) (more bytes rest : List ℕ) → bytes ≡ number_bytes n y ++ more → rest ≡ drop n bytes → rest ≡ more
rest_read n y more bytes rest is read =
    read ∙ ap (λ (l : List ℕ). drop n l) is ∙ drop_at (number_bytes n y) more n (length-number_bytes n y)

pub number_once : (n x y : ℕ) (more others : List ℕ) → x < 256 ^ n → y < 256 ^ n → number_bytes n x ++ more ≡ number_bytes n y ++ others → (x ≡ y) × (more ≡ others)
number_once n x y more others small short is = (
  sym (number_back n x more small) ∙ ap (λ (l : List ℕ). number_in n l) is ∙ number_back n y others short,
  sym (drop_at (number_bytes n x) more n (length-number_bytes n x)) ∙ ap (λ (l : List ℕ). drop n l) is ∙ drop_at (number_bytes n y) others n (length-number_bytes n y),
)
