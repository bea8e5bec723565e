-- What a node can take.
use Rattle.std.specs.Prelude.{◌≡◌}
use Rattle.repl_msg.specs.declared.message.Body.TheVariants as bodies
use Rattle.repl_msg.specs.declared.message.FetchReply.{FetchReply}
use Rattle.repl_msg.specs.declared.message.Message.{Message}
use Rattle.checker_node.specs.Sound.{GoOn}

-- the entries of a message continue its base
abbrev pub CanHear : Message → Type 0
CanHear message = (reply : FetchReply) → message.body ≡ bodies.FetchReply reply → GoOn reply
