use Rattle.std.proofs.Common.{subst}
use Rattle.std.specs.Prelude.{string_bytes}
use Rattle.play_c.specs.Calls.{PlaysOne}
use Rattle.play_c.specs.Holding.{Holding}
use Rattle.play_c.proofs.CallLemmas.{played_one}
use Rattle.play_c.proofs.held.Held.step.Goals as goal

pub returns : goal.returns
returns c =
    let played = c.step-done.ensures in
    subst (λ (h : Holding). PlaysOne c.args.line.now h.play c.told.new.self c.told.result) c.self.view_is
    (played_one c.args.line.now c.self.inside.play c.step-done.new.self (string_bytes c.clear.new.self) (string_bytes c.step-done.new.out) c.step-done.result c.told.new.self c.told.result
    c.clear.ensures.bytes played.ok played.err played.set played.out c.told.ensures)
