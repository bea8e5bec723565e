use Rattle.std.proofs.Common.{◌≤◌, ◌-◌, ◌++◌, length, ap, arith, rules}
use Rattle.std.specs.Prelude.{string_bytes}
use Rattle.std.specs.List.{prefix_len}
use Rattle.std.proofs.lemmas.List.{length-drop}
use Rattle.std.proofs.lemmas.Result.{err_from_is_err_and}
use Rattle.doc_text.specs.Bytes.{is_plain}
use Rattle.doc_text.specs.Strings.{letters_at}
use Rattle.doc_text.proofs.Letters.{with_front-nil, past_run, closed, escaped, not_escaped, stuck, stop_is_special}
use Rattle.doc_text.proofs.strings.letters.Goals as goal

pub loop-string-init : goal.loop-string-init
loop-string-init c = (
  c.utf8.text,
  omega arith,
  (length c.args.text.now, omega arith, rw c.new-string.ensures.bytes (with_front-nil (letters_at c.args.in_name (length c.args.text.now) c.args.text.now))),
)

pub returns-in-Some-clause-gives : goal.returns-in-Some-clause-gives
returns-in-Some-clause-gives c =
    let most = c.loop-string.invariant.2.0 in
    let text = c.loop-string.rest.now in
    let left = past_run c.args.in_name most (string_bytes c.loop-string.string) text c.run.result.0.now c.run.result.1.now (letters_at c.args.in_name (length c.args.text.now) c.args.text.now) c.loop-string.invariant.2.1 c.run.ensures.front c.run.ensures.back c.loop-string.invariant.2.2 in
    let short : length c.run.result.1.now ≤ most - prefix_len is_plain text = omega (arith, length-drop (prefix_len is_plain text) text, ap length c.run.ensures.back, c.loop-string.invariant.2.1) in
    rw (c.in_ok-new.ensures, c.in_ok-push_str.ensures.bytes) (closed c.args.in_name (most - prefix_len is_plain text) (string_bytes c.loop-string.string ++ c.run.result.0.now) c.run.result.1.now c.in-Some.end.now (letters_at c.args.in_name (length c.args.text.now) c.args.text.now) short c.in-Some.ensures left)

pub returns-in_default-strip-clause-gives : goal.returns-in_default-strip-clause-gives
returns-in_default-strip-clause-gives c =
    let most = c.loop-string.invariant.2.0 in
    let text = c.loop-string.rest.now in
    let left = past_run c.args.in_name most (string_bytes c.loop-string.string) text c.run.result.0.now c.run.result.1.now (letters_at c.args.in_name (length c.args.text.now) c.args.text.now) c.loop-string.invariant.2.1 c.run.ensures.front c.run.ensures.back c.loop-string.invariant.2.2 in
    let short : length c.run.result.1.now ≤ most - prefix_len is_plain text = omega (arith, length-drop (prefix_len is_plain text) text, ap length c.run.ensures.back, c.loop-string.invariant.2.1) in
    rw c.at.ensures (stuck c.args.in_name (most - prefix_len is_plain text) (string_bytes c.loop-string.string ++ c.run.result.0.now) c.run.result.1.now (letters_at c.args.in_name (length c.args.text.now) c.args.text.now) short (stop_is_special text c.run.result.1.now c.run.ensures.back) c.in_default.ensures c.in_default-strip.ensures left)

pub returns-in_err-character-clause-gives : goal.returns-in_err-character-clause-gives
returns-in_err-character-clause-gives c =
    let most = c.loop-string.invariant.2.0 in
    let text = c.loop-string.rest.now in
    let left = past_run c.args.in_name most (string_bytes c.loop-string.string) text c.run.result.0.now c.run.result.1.now (letters_at c.args.in_name (length c.args.text.now) c.args.text.now) c.loop-string.invariant.2.1 c.run.ensures.front c.run.ensures.back c.loop-string.invariant.2.2 in
    let short : length c.run.result.1.now ≤ most - prefix_len is_plain text = omega (arith, length-drop (prefix_len is_plain text) text, ap length c.run.ensures.back, c.loop-string.invariant.2.1) in
    let p = err_from_is_err_and c.from_residual-in_err-character.result c.from_residual-in_err-character.ensures.1 in
    rw (p.1, p.2) (not_escaped c.args.in_name (most - prefix_len is_plain text) (string_bytes c.loop-string.string ++ c.run.result.0.now) c.run.result.1.now c.in-Some-strip.inside.now c.in_err-character.field-0.0 (letters_at c.args.in_name (length c.args.text.now) c.args.text.now) short c.in-Some-strip.ensures c.in_err-character.ensures.gives left)

pub loop-string-preserved : goal.loop-string-preserved
loop-string-preserved c =
    let most = c.loop-string.invariant.2.0 in
    let text = c.loop-string.rest.now in
    let left = past_run c.args.in_name most (string_bytes c.loop-string.string) text c.run.result.0.now c.run.result.1.now (letters_at c.args.in_name (length c.args.text.now) c.args.text.now) c.loop-string.invariant.2.1 c.run.ensures.front c.run.ensures.back c.loop-string.invariant.2.2 in
    let short : length c.run.result.1.now ≤ most - prefix_len is_plain text = omega (arith, length-drop (prefix_len is_plain text) text, ap length c.run.ensures.back, c.loop-string.invariant.2.1) in
    let inside = ap length c.in-Some-strip.ensures in
    let shorter = c.in_ok-character.ensures.shorter in (
      search rules,
      omega (arith, shorter, inside, c.run.ensures.len, c.loop-string.invariant.1),
      (most - prefix_len is_plain text - 1, omega (arith, shorter, inside, short), rw (c.in_ok-push.ensures.bytes, c.in_ok-push_str.ensures.bytes) (escaped c.args.in_name (most - prefix_len is_plain text) c.in_ok-character.character (string_bytes c.loop-string.string ++ c.run.result.0.now) c.run.result.1.now c.in-Some-strip.inside.now c.in_ok-character.after.now (letters_at c.args.in_name (length c.args.text.now) c.args.text.now) short c.in-Some-strip.ensures c.in_ok-character.ensures.gives left)),
    )
