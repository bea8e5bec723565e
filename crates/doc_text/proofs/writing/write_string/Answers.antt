use Rattle.std.proofs.Common.{◌++◌, ◌∷◌, get_or, arith}
use Rattle.std.specs.Prelude.{string_bytes}
use Rattle.std.specs.List.{flat_map}
use Rattle.std.proofs.lemmas.Grind.{common_steps}
use Rattle.doc_text.specs.Printing.{printed_byte}
use Rattle.doc_text.proofs.Cuts.{escaped_is_ascii}
use Rattle.doc_text.proofs.Letters.{stop_is_special}
use Rattle.doc_text.proofs.Quoting.{after_run, after_escape, at_end}
use Rattle.doc_text.proofs.writing.write_string.Goals as goal

pub write_escape-requires : goal.write_escape-requires
write_escape-requires c =
    rw c.as_bytes.ensures.value (stop_is_special c.loop-byte.rest.now c.run.result.1.now c.run.ensures.back (omega arith))

pub skip-rest-requires-clause-ascii : goal.skip-rest-requires-clause-ascii
skip-rest-requires-clause-ascii c =
    escaped_is_ascii (get_or c.run.result.1.now 0 0) (stop_is_special c.loop-byte.rest.now c.run.result.1.now c.run.ensures.back (omega arith))

pub loop-byte-preserved : goal.loop-byte-preserved
loop-byte-preserved c =
    let run = after_run (string_bytes c.loop-byte.out) c.loop-byte.rest.now c.run.result.0.now c.run.result.1.now (string_bytes c.args.out.now ++ 34 ∷ flat_map printed_byte c.args.string.now) c.run.ensures.front c.run.ensures.back c.loop-byte.invariant.1 in
    let escape = after_escape (string_bytes c.loop-byte.out ++ c.run.result.0.now) c.run.result.1.now (string_bytes c.args.out.now ++ 34 ∷ flat_map printed_byte c.args.string.now) (omega arith) run in
    (c.skip-rest.utf8, rw (c.in_ok-write_escape.ensures, c.as_bytes.ensures.value, c.in_ok-push_str-2.ensures.bytes, c.skip-rest.ensures) escape)

pub returns : goal.returns
returns c =
    let run = after_run (string_bytes c.loop-byte.out) c.loop-byte.rest.now c.run.result.0.now c.run.result.1.now (string_bytes c.args.out.now ++ 34 ∷ flat_map printed_byte c.args.string.now) c.run.ensures.front c.run.ensures.back c.loop-byte.invariant.1 in
    let end = at_end (string_bytes c.loop-byte.out ++ c.run.result.0.now) c.run.result.1.now (string_bytes c.args.out.now) (flat_map printed_byte c.args.string.now) (omega arith) run in
    grind (arith, common_steps)
