use Rattle.std.proofs.Common.{◌≡◌, ◌∙◌, ◌++◌, List, ℕ, ap, rules}
use Rattle.std.specs.Prelude.{string_bytes}
use Rattle.play.specs.Script.{ended}
use Rattle.play.proofs.ScriptLemmas.{lines_written}
use Rattle.play.proofs.script.Script.write.Goals as goal

pub loop-line-preserved : goal.loop-line-preserved
loop-line-preserved c =
    let shown : c.as_str.result.now ≡ string_bytes c.line-item.result.value = search rules in
    lines_written _ c.loop-line.line-index c.line-item.result c.loop-line-test.true c.line-item.is (string_bytes c.args.out.now) (string_bytes c.loop-line.out) (string_bytes c.write_line.new.out)
    c.loop-line.invariant (c.in_ok-write_line.ensures ∙ ap (λ (s : List ℕ). string_bytes c.loop-line.out ++ ended s) shown)
