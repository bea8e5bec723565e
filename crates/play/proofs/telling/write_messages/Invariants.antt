use Rattle.std.proofs.Common.{◌≡◌, ◌++◌, drop}
use Rattle.std.specs.Prelude.{string_bytes}
use Rattle.play.specs.Sent.{message_lines}
use Rattle.play.proofs.telling.write_messages.Given as goal

abbrev pub invariant-loop-number : goal.invariant-loop-number
invariant-loop-number l =
    string_bytes l.out ++ message_lines l.number (drop l.number l.messages) ≡ string_bytes l.fn.out ++ message_lines l.fn.first (drop l.fn.first l.messages)
