-- Where a text may be cut.
use Rattle.std.proofs.Common.{◌≡◌, ℕ, zero, suc, ◌+◌, ◌-◌, ◌<◌, ◌≤◌, Bool, true, false, List, length, get_or, drop, subst, arith, inl, inr}
use Rattle.std.specs.Str.{IsUtf8, IsCharBoundary}
use Rattle.std.specs.List.{prefix_len}
use Rattle.std.specs.Char.{is_ascii_digit}
use Rattle.std.proofs.lemmas.Bool.{cases_lt}
use Rattle.std.proofs.lemmas.List.Sums.{prefix_len-le-length, prefix_len_passes, prefix_len_stops, prefix_len-drop_no, prefix_len-drop_all}
use Rattle.std.proofs.lemmas.Str.{IsCharBoundary-start, IsCharBoundary-end, IsCharBoundary-before_ascii, IsCharBoundary-after_ascii}
use Rattle.hex.specs.Hex.{is_hex_digit}
use Rattle.doc_text.specs.declared.«class».Class.{Class}
use Rattle.doc_text.specs.declared.«class».Class.TheVariants.{Space, Digit, HexDigit, Name, Plain}
use Rattle.doc_text.specs.Bytes.{is_space, is_name_byte, is_plain}
use Rattle.doc_text.specs.Class.{is_in}

space_is_ascii : (c : ℕ) → is_space c ≡ true → c < 128
space_is_ascii c h = grind arith

digit_is_ascii : (c : ℕ) → is_ascii_digit c ≡ true → c < 128
digit_is_ascii c h = grind arith

hex_digit_is_ascii : (c : ℕ) → is_hex_digit c ≡ true → c < 128
hex_digit_is_ascii c h = grind arith

name_byte_is_ascii : (c : ℕ) → is_name_byte c ≡ true → c < 128
name_byte_is_ascii c h = grind arith

pub escaped_is_ascii : (c : ℕ) → is_plain c ≡ false → c < 128
escaped_is_ascii c h = grind arith

-- after the longest prefix of ASCII bytes
after_run : (p : ℕ → Bool) → ((c : ℕ) → p c ≡ true → c < 128) → (text : List ℕ) → IsUtf8 text → IsCharBoundary text (prefix_len p text)
after_run p ascii text utf8 =
    elim (cases_lt 0 (prefix_len p text)) [
      | inl some ↦
          let within : prefix_len p text ≤ length text = prefix_len-le-length p text in
          let last : p (get_or text (prefix_len p text - 1) 0) ≡ true = prefix_len_passes p text (prefix_len p text - 1) 0 (omega arith) in
          let same : prefix_len p text - 1 + 1 ≡ prefix_len p text = omega arith in
          subst (λ (n : ℕ). IsCharBoundary text n) same (IsCharBoundary-after_ascii text (prefix_len p text - 1) utf8 (omega arith) (ascii (get_or text (prefix_len p text - 1) 0) last))
      | inr none ↦
          let start : 0 ≡ prefix_len p text = omega arith in
          subst (λ (n : ℕ). IsCharBoundary text n) start (IsCharBoundary-start text utf8)
    ]

-- before a byte that is ASCII, or at the end
before_stop : (p : ℕ → Bool) → ((c : ℕ) → p c ≡ false → c < 128) → (text : List ℕ) → IsCharBoundary text (prefix_len p text)
before_stop p ascii text =
    elim (cases_lt (prefix_len p text) (length text)) [
      | inl inside ↦
          IsCharBoundary-before_ascii text (prefix_len p text) inside (ascii (get_or text (prefix_len p text) 0) (prefix_len_stops p text 0 inside))
      | inr past ↦
          let within : prefix_len p text ≤ length text = prefix_len-le-length p text in
          let end : length text ≡ prefix_len p text = omega arith in
          subst (λ (n : ℕ). IsCharBoundary text n) end (IsCharBoundary-end text)
    ]

-- where a run has stopped
pub run_ends : (p : ℕ → Bool) (text : List ℕ) (len : ℕ) → len ≤ length text → prefix_len p text ≡ len + prefix_len p (drop len text) → (len < length text → p (get_or text len 0) ≡ false) → prefix_len p text ≡ len
run_ends p text len within so_far stop =
    elim (cases_lt len (length text)) [
      | inl inside ↦ omega (arith, prefix_len-drop_no p text len 0 inside (stop inside))
      | inr past ↦ omega (arith, prefix_len-drop_all p text len past)
    ]

-- a run ends where a text may be cut
pub run_boundary : (kind : Class) (text : List ℕ) → IsUtf8 text → IsCharBoundary text (prefix_len (is_in kind) text)
run_boundary Space text utf8 = after_run is_space space_is_ascii text utf8
run_boundary Digit text utf8 = after_run is_ascii_digit digit_is_ascii text utf8
run_boundary HexDigit text utf8 = after_run is_hex_digit hex_digit_is_ascii text utf8
run_boundary Name text utf8 = after_run is_name_byte name_byte_is_ascii text utf8
run_boundary Plain text utf8 = before_stop is_plain escaped_is_ascii text

-- a text may be cut inside a run of hexadecimal digits
pub hex_boundary : (text : List ℕ) (n : ℕ) → IsUtf8 text → n ≤ prefix_len is_hex_digit text → IsCharBoundary text n
hex_boundary text zero utf8 within = IsCharBoundary-start text utf8
hex_boundary text (suc n) utf8 within =
    let long : prefix_len is_hex_digit text ≤ length text = prefix_len-le-length is_hex_digit text in
    let next : n + 1 ≡ suc n = omega arith in
    let digit = hex_digit_is_ascii (get_or text n 0) (prefix_len_passes is_hex_digit text n 0 (omega arith)) in
    subst (λ (i : ℕ). IsCharBoundary text i) next (IsCharBoundary-after_ascii text n utf8 (omega arith) digit)
