use Rattle.std.proofs.Common.{◌∙◌, ◌++◌, ◌∷◌, [], List, ap, sym}
use Rattle.std.proofs.lemmas.List.{append_assoc}
use Rattle.repl_msg.specs.declared.message.Message.{Message}
use Rattle.checker_machine.proofs.pool.Pool.add.Goals as goal

pub loop-message-preserved : goal.loop-message-preserved
loop-message-preserved c =
    let list = ap (λ rest. c.loop-message.yielded ++ rest) (sym c.in-Some.ensures.steps.0) ∙ c.loop-message.invariant.1 in (
      c.in_ok-put.ensures ∙ ap (λ (ms : List Message). ms ++ c.in-Some.message ∷ []) c.loop-message.invariant.0
          ∙ append_assoc c.args.self.now c.loop-message.yielded (c.in-Some.message ∷ []),
      append_assoc c.loop-message.yielded (c.in-Some.message ∷ []) c.next.new.self.rest.items ∙ list,
    )
