-- What a node does with a heartbeat, up to its answer.
use Rattle.std.specs.Prelude.{◌≡◌, ℕ, Bool, true, false, Option}
use Rattle.member_config.specs.declared.config.Config.{Config}
use Rattle.repl_msg.specs.declared.message.Beat.{Beat}
use Rattle.set_model.specs.declared.reply.Refusal.TheVariants.{DiskFailed}
use Rattle.set_model.specs.Node.{Node}
use Rattle.set_model.specs.Outcome.{Outcome, refused}
use Rattle.set_model.specs.Stores.{Plan, finished, done}
use Rattle.set_model.specs.Beats.{heard, then_installed}
use Rattle.checker_node.specs.Done.{left_of}

-- What such a part of a plan does, whatever follows: it leaves this node, and what follows is done with it,
-- unless a store failed.
pub record Goes (plan : (Node → Outcome) → Plan) (failed left : Option ℕ) (stands : Bool)
    (node : Node) : Type 0 where
  pub on : stands ≡ true → (next : Node → Outcome) → done (plan next) failed ≡ next node
  pub off : stands ≡ false → (next : Node → Outcome) → done (plan next) failed ≡ refused DiskFailed node
  pub left_is : (next : Node → Outcome) → left ≡ left_of (plan next) failed

-- the configuration is installed if it is newer
abbrev pub Installs : Node → Config → Option ℕ → Option ℕ → Bool → Node → Type 0
Installs old config failed left stands new =
    Goes (λ next. then_installed old config (λ n. finished (next n))) failed left stands new

-- the heartbeat is heard
abbrev pub Hears : Node → ℕ → Beat → Option ℕ → Option ℕ → Bool → Node → Type 0
Hears old from beat failed left stands new = Goes (heard old from beat) failed left stands new
