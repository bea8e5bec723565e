use Rattle.std.proofs.Common.{◌≡◌, ◌∙◌, ap, sym, subst, List}
use Rattle.std.specs.Prelude.{Contains}
use Rattle.repl_msg.specs.declared.message.Message.{Message}
use Rattle.set_world.specs.Pool.{Pool}
use Rattle.set_world.proofs.pool.Pool.get.Goals as goal

pub returns-clause-sent : goal.returns-clause-sent
returns-clause-sent c =
    let all : c.deref.result.now ≡ c.args.self.now.messages = c.deref.ensures.value ∙ ap (λ (p : Pool). p.messages) c.self.view_is in
    let found = c.in_ok-message.ensures.lookup in
    subst (λ (l : List Message). Contains l c.in_ok-message.message.now) all (c.args.number, found.3.0, sym found.1)
