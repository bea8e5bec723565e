use Rattle.std.proofs.Common.{◌∙◌, arith}
use Rattle.std.specs.Prelude.{string_bytes}
use Rattle.play.proofs.SentLemmas.{all_written, one_written}
use Rattle.play.proofs.telling.write_messages.Goals as goal

pub loop-number-preserved : goal.loop-number-preserved
loop-number-preserved c =
    let message = c.index-messages-number in
    one_written c.args.messages.now c.loop-number.number message.result c.loop-number-test.true message.is (string_bytes c.loop-number.out) (string_bytes c.write_message.new.out) c.in_ok-write_message.ensures
    ∙ c.loop-number.invariant

pub returns : goal.returns
returns c = all_written c.args.messages.now c.loop-number.number (string_bytes c.loop-number.out) _ (omega arith) c.loop-number.invariant
