-- What only looks at something changes nothing.
use Rattle.std.proofs.Common.{◌≡◌, ℕ, zero, suc, Bool, true, false, cond, List, [], ◌∷◌, ◌++◌, Option, None, Some, refl, ap, sym, ◌∙◌}
use Rattle.std.specs.Prelude.{option_and_then, slice_get, slice_set}
use Rattle.std.proofs.lemmas.List.{append-nil}
use Rattle.std.proofs.lemmas.Option.{same_Some}
use Rattle.bson_doc.specs.View.{tree_of}
use Rattle.bson_doc.specs.Key.{key_of}
use Rattle.bson_doc.specs.declared.key.IdKey.{IdKey}
use Rattle.checker_machine.specs.Plain.{is_reading}
use Rattle.repl_msg.specs.declared.message.Message.{Message}
use Rattle.set_model.specs.declared.command.Command.{Command}
use Rattle.set_model.specs.declared.command.Command.TheVariants as commands
use Rattle.set_model.specs.declared.command.Event.{Event}
use Rattle.set_model.specs.declared.command.ReadLevel.{ReadLevel}
use Rattle.set_model.specs.declared.reply.Refusal.TheVariants.{NodeDown}
use Rattle.set_model.specs.Node.{Node}
use Rattle.set_model.specs.Outcome.{Outcome, refused}
use Rattle.set_model.specs.Reads.{dump, read_key, show_log, show_state}
use Rattle.set_model.specs.Rollback.{rolled}
use Rattle.set_model.specs.Stores.{done, finished}
use Rattle.set_model.specs.World.{World, by_plan, step, touched_node, with_outcome}
use Rattle.play.specs.Play.{event_at}

-- the node stays, and sends nothing
record Stays (node : Node) (outcome : Outcome) : Type 0 where
  same : outcome.node ≡ node
  quiet : outcome.sent ≡ []

same_node : (nodes : List Node) (n : ℕ) (node : Node) → slice_get nodes n ≡ Some node → slice_set nodes n node ≡ nodes
same_node [] n x there = absurd (cc there)
same_node (y ∷ xs) zero x there = ap (λ z. z ∷ xs) (sym (same_Some y x there))
same_node (y ∷ xs) (suc n) x there = ap (λ zs. y ∷ zs) (same_node xs n x there)

stays_up : (node : Node) (up : Bool) (outcome : Outcome) → Stays node outcome → Stays node (done (cond up (finished outcome) (finished (refused NodeDown node))) None)
stays_up node true outcome stays = stays
stays_up node false outcome stays = record { same = refl; quiet = refl }

world_stays : (world : World) (number : ℕ) (node : Node) (outcome : Outcome) → slice_get world.nodes number ≡ Some node → Stays node outcome → (with_outcome world number outcome).world ≡ world
world_stays world number node outcome there stays =
    let nodes : slice_set world.nodes number outcome.node ≡ world.nodes = ap (slice_set world.nodes number) stays.same ∙ same_node world.nodes number node there in
    let messages : world.messages ++ outcome.sent ≡ world.messages = ap (λ (sent : List Message). world.messages ++ sent) stays.quiet ∙ append-nil world.messages in
    ap (λ (ns : List Node). record { nodes = ns; messages = world.messages ++ outcome.sent }) nodes
    ∙ ap (λ (ms : List Message). record { nodes = world.nodes; messages = ms }) messages

key_stays : (node : Node) (level : ReadLevel) (collection : List ℕ) (key : Option IdKey) → Stays node (read_key node level collection key)
key_stays node level collection None = record { same = refl; quiet = refl }
key_stays node level collection (Some key) = record { same = refl; quiet = refl }

-- what a node that is up comes to, at the node that an event touches
at_node : (world : World) (event : Event) (outcome : Node → Outcome) → event.failed ≡ None → ((node : Node) → Stays node (outcome node)) → (found : Option Node)
    → slice_get world.nodes (touched_node world event.command) ≡ found
    → (by_plan world event (option_and_then (λ (node : Node). Some (cond node.up (finished (outcome node)) (finished (refused NodeDown node)))) found)).world ≡ world
at_node world event outcome none stay None there = refl
at_node world event outcome none stay (Some node) there =
    rw none (world_stays world (touched_node world event.command) node (done (cond node.up (finished (outcome node)) (finished (refused NodeDown node))) None) there
    (stays_up node node.up (outcome node) (stay node)))

pub looks : (world : World) (line : ℕ) (command : Command) → is_reading command ≡ true → (step world (event_at line command)).world ≡ world
looks world line (commands.Campaign node) reading = absurd (cc reading)
looks world line (commands.Drain node) reading = absurd (cc reading)
looks world line (commands.Insert node collection document) reading = absurd (cc reading)
looks world line (commands.Replace node collection id document) reading = absurd (cc reading)
looks world line (commands.Update node collection id operators) reading = absurd (cc reading)
looks world line (commands.Delete node collection id) reading = absurd (cc reading)
looks world line (commands.Retry node session op) reading = absurd (cc reading)
looks world line (commands.Note node) reading = absurd (cc reading)
looks world line (commands.Begin node writer op) reading = absurd (cc reading)
looks world line (commands.Commit node writer) reading = absurd (cc reading)
looks world line (commands.Abort node writer) reading = absurd (cc reading)
looks world line (commands.Ack node target concern) reading = absurd (cc reading)
looks world line (commands.Read node level collection id) reading = at_node world (event_at line (commands.Read node level collection id)) (λ n. read_key n level collection (key_of (tree_of id))) refl (λ n. key_stays n level collection (key_of (tree_of id))) (slice_get world.nodes node) refl
looks world line (commands.Dump node level) reading = at_node world (event_at line (commands.Dump node level)) (λ n. dump n level) refl (λ n. record { same = refl; quiet = refl }) (slice_get world.nodes node) refl
looks world line (commands.Log node) reading = at_node world (event_at line (commands.Log node)) show_log refl (λ n. record { same = refl; quiet = refl }) (slice_get world.nodes node) refl
looks world line (commands.State node) reading = at_node world (event_at line (commands.State node)) show_state refl (λ n. record { same = refl; quiet = refl }) (slice_get world.nodes node) refl
looks world line (commands.Rolled node) reading = at_node world (event_at line (commands.Rolled node)) rolled refl (λ n. record { same = refl; quiet = refl }) (slice_get world.nodes node) refl
looks world line (commands.DryRun node) reading = absurd (cc reading)
looks world line (commands.StepDown node) reading = absurd (cc reading)
looks world line (commands.Heartbeat node to) reading = absurd (cc reading)
looks world line (commands.Report node to) reading = absurd (cc reading)
looks world line (commands.Common node to) reading = absurd (cc reading)
looks world line (commands.Fetch node) reading = absurd (cc reading)
looks world line (commands.Deliver message) reading = absurd (cc reading)
looks world line (commands.DeliverLatest from to) reading = absurd (cc reading)
looks world line (commands.Apply node workers) reading = absurd (cc reading)
looks world line (commands.Flush node) reading = absurd (cc reading)
looks world line (commands.Checkpoint node) reading = absurd (cc reading)
looks world line (commands.Reconfig node config) reading = absurd (cc reading)
looks world line (commands.Crash node pick) reading = absurd (cc reading)
looks world line (commands.Restart node) reading = absurd (cc reading)
looks world line (commands.DiskFail node disk call pick) reading = absurd (cc reading)
looks world line (commands.Clock node seconds) reading = absurd (cc reading)
