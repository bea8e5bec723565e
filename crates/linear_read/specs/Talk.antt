-- A talk with a set: commands one after another, each of which may depend on the replies before it, and a
-- result at the end.
use Rattle.set_model.specs.declared.command.Command.{Command}
use Rattle.set_model.specs.declared.reply.Reply.{Reply}

pub data Talk (A : Type 0) : Type 0 where
  tells : (answer : A) → Talk A
  asks : (command : Command) (next : Reply → Talk A) → Talk A

-- one talk, and then another one, which depends on its result
abbrev pub and_then : {A B : Type 0} → Talk A → (A → Talk B) → Talk B
and_then (tells answer) more = more answer
and_then (asks command next) more = asks command (λ reply. and_then (next reply) more)
