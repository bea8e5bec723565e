use Rattle.std.proofs.Common.{subst}
use Rattle.std.specs.Prelude.{string_bytes}
use Rattle.play_c.specs.Calls.{Asks}
use Rattle.play_c.specs.Holding.{Holding}
use Rattle.play_c.proofs.CallLemmas.{asked_one}
use Rattle.play_c.proofs.held.Held.ask.Goals as goal

pub returns : goal.returns
returns c =
    let asked = c.ask-done.ensures in
    subst (λ (h : Holding). Asks c.args.line.now h.play c.told.new.self c.told.result) c.self.view_is
    (asked_one c.args.line.now c.self.inside.play c.ask-done.new.self (string_bytes c.clear.new.self) (string_bytes c.ask-done.new.out) c.ask-done.result c.told.new.self c.told.result
    c.clear.ensures.bytes asked.ok asked.err asked.set asked.out c.told.ensures)
