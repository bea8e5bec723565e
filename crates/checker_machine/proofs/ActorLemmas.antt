-- Which node a command is for.
use Rattle.std.proofs.Common.{◌≡◌, ◌<◌, ◌&&◌, ℕ, Bool, true, List, [], ◌∷◌, Option, None, Some, sym, ap, ◌∙◌, ltb-true, length, arith}
use Rattle.std.specs.Prelude.{nat_lt, slice_get}
use Rattle.std.specs.List.{list_all}
use Rattle.std.proofs.lemmas.Bool.{and_parts}
use Rattle.repl_msg.specs.declared.message.Message.{Message}
use Rattle.set_model.specs.declared.command.Command.{Command}
use Rattle.set_model.specs.declared.command.Command.TheVariants.{Heartbeat, Report, Common, Deliver, DeliverLatest}
use Rattle.set_model.specs.Limits.{is_for, is_within, nodes_of}
use Rattle.set_model.specs.World.{World, actor, acts, latest_between, task, taking}

first_named : (nodes number : ℕ) (rest : List ℕ) (within : Bool) → (list_all (λ node. nat_lt node nodes) (number ∷ rest) && within) ≡ true → number < nodes
first_named nodes number rest within named =
    ltb-true number nodes (and_parts (nat_lt number nodes) (list_all (λ node. nat_lt node nodes) rest) (and_parts (list_all (λ node. nat_lt node nodes) (number ∷ rest)) within named).0).0

none_acts : (found : Option Message) (number : ℕ) → taking found ≡ acts number → ⊥
none_acts None number is = cc is
none_acts (Some message) number is = cc is

names_first : (world : World) (command : Command) (number : ℕ) → task world command ≡ acts number → (rest : List ℕ) × (nodes_of command ≡ number ∷ rest)
names_first world (Deliver message) number is = absurd (none_acts (slice_get world.messages message) number is)
names_first world (DeliverLatest from to) number is = absurd (none_acts (latest_between world.messages from to) number is)
names_first world (Heartbeat node to) number is = (to ∷ [], ap (λ t. actor t ∷ to ∷ []) is)
names_first world (Report node to) number is = (to ∷ [], ap (λ t. actor t ∷ to ∷ []) is)
names_first world (Common node to) number is = (to ∷ [], ap (λ t. actor t ∷ to ∷ []) is)
names_first world _ number is = ([], ap (λ t. actor t ∷ []) is)

acts_within : (nodes number : ℕ) (world : World) (command : Command) → is_for nodes command ≡ true → task world command ≡ acts number → number < nodes
acts_within nodes number world command named is =
    let first = names_first world command number is in
    first_named nodes number first.0 (is_within command) (sym (ap (λ (l : List ℕ). list_all (λ node. nat_lt node nodes) l && is_within command) first.1) ∙ named)

-- it is one of the set
pub acts_there : (world here : World) (number : ℕ) (command : Command) → here ≡ world → is_for (length world.nodes) command ≡ true → task world command ≡ acts number → number < length here.nodes
acts_there world here number command same named is =
    let within : number < length world.nodes = acts_within (length world.nodes) number world command named is in
    let many : length here.nodes ≡ length world.nodes = ap (λ (w : World). length w.nodes) same in
    omega (arith, within, many)
