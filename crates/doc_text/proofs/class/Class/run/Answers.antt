use Rattle.std.proofs.Common.{◌≡◌, ℕ, ◌<◌, false, length, get_or, subst, sym, arith}
use Rattle.std.specs.Str.{IsCharBoundary}
use Rattle.doc_text.specs.Class.{is_in}
use Rattle.doc_text.proofs.Cuts.{run_boundary, run_ends}
use Rattle.doc_text.proofs.«class».Class.run.Goals as goal
use Rattle.doc_text.proofs.«class».Class.run.Goals.{then-loop-len-test+else-has, else-loop-len-test}

pub split_at-requires : goal.split_at-requires
split_at-requires c =
    let stop : c.loop-len.len < length c.args.text.now → is_in c.args.self (get_or c.args.text.now c.loop-len.len 0) ≡ false =
    elim c.loop-len-test.branch [ then-loop-len-test+else-has w ↦ λ _. sym (rw w.as_bytes.ensures.value at w.if-has.ensures) | else-loop-len-test w ↦ λ inside. absurd (omega arith) ] in
    let len = run_ends (is_in c.args.self) c.args.text.now c.loop-len.len c.loop-len.invariant.0 c.loop-len.invariant.1 stop in
    subst (λ (n : ℕ). IsCharBoundary c.args.text.now n) len (run_boundary c.args.self c.args.text.now c.utf8.text)
