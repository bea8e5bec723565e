-- Bytes cut at their first line feed.
use Rattle.std.proofs.Common.{◌≡◌, ℕ, ◌+◌, ◌-◌, ◌≤◌, ◌<◌, Bool, true, false, cond, List, length, take, drop, None, Some, Ok, Err, refl, ap, sym, arith}
use Rattle.std.specs.List.{position, position_or_len, list_any}
use Rattle.std.specs.Str.{is_utf8, IsUtf8}
use Rattle.std.proofs.lemmas.List.{take_rest}
use Rattle.std.proofs.lemmas.List.Elements.{All-from_get_or}
use Rattle.std.proofs.lemmas.List.Folds.{list_any_at, list_any_none}
use Rattle.std.proofs.lemmas.List.Sums.{fails_before_first, passes_at_first}
use Rattle.std.proofs.lemmas.Str.{is_utf8-from_IsUtf8, IsUtf8-from_is_utf8}
use Rattle.script_words.specs.declared.rule.ScriptRule.TheVariants.{NotUtf8}
use Rattle.run_checker.specs.Reading.{after_line, is_line_feed, text_of}

-- after a line feed
pub after_feed : (bytes : List ℕ) (end : ℕ) → Some end ≡ position is_line_feed bytes → Some (take (length bytes - (end + 1)) (drop (end + 1) bytes)) ≡ after_line bytes
after_feed bytes end found =
    let inside : position_or_len is_line_feed bytes < length bytes = grind arith in
    let at : end ≡ position_or_len is_line_feed bytes = grind arith in
    let some : list_any is_line_feed bytes ≡ true = list_any_at is_line_feed bytes (position_or_len is_line_feed bytes) 0 inside (passes_at_first is_line_feed bytes 0 inside) in
    rw (take_rest bytes (end + 1), some) (ap (λ (n : ℕ). Some (drop (n + 1) bytes)) at)

-- there is none
pub no_feed : (bytes : List ℕ) → None ≡ position is_line_feed bytes → None ≡ after_line bytes
no_feed bytes nowhere =
    let far : length bytes ≤ position_or_len is_line_feed bytes = grind arith in
    let none : list_any is_line_feed bytes ≡ false =
    list_any_none is_line_feed bytes (All-from_get_or (λ (c : ℕ). is_line_feed c ≡ false) bytes 0 (λ k below. fails_before_first is_line_feed bytes k 0 (omega (arith, far, below)))) in
    rw none refl

pub text_found : (line text : List ℕ) → text ≡ line → IsUtf8 line → text_of line ≡ Ok text
text_found line text same utf8 = rw (is_utf8-from_IsUtf8 line utf8) (ap (λ (t : List ℕ). Ok t) (sym same))

pub no_text : (line : List ℕ) → (IsUtf8 line → ⊥) → text_of line ≡ Err NotUtf8
no_text line other = by_test (is_utf8 line) refl
  where
    by_test : (b : Bool) → is_utf8 line ≡ b → cond (is_utf8 line) (Ok line) (Err NotUtf8) ≡ Err NotUtf8
    by_test true is = absurd (other (IsUtf8-from_is_utf8 line is))
    by_test false is = rw is refl
