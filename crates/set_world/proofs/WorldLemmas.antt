-- One more event, and what the laws of every run say of the current set.
use Rattle.std.proofs.Common.{◌≡◌, ◌∙◌, ◌<◌, ◌≤◌, ◌+◌, ◌*◌, ap, sym, subst, refl, arith, length-append, ℕ, zero, suc, true, None, Some, length, fold, List, [], ◌∷◌, ◌++◌, slice_get}
use Rattle.std.proofs.Math.Seq.{take-length, take-append_seam}
use Rattle.std.specs.Prelude.{All, Contains, IfSome, slice_index_or}
use Rattle.repl_msg.specs.declared.message.Message.{Message}
use Rattle.set_model.specs.declared.command.Command.{Command}
use Rattle.set_model.specs.declared.command.Event.{Event}
use Rattle.set_model.specs.Limits.{Fits, AllFit, IsSoundWrite, write_of, is_for}
use Rattle.set_model.specs.Node.{Node}
use Rattle.set_model.specs.Run.{Run, Sizes, opening, after, run, world_at}
use Rattle.set_model.specs.World.{World, Step, Task, step}
use Rattle.set_model.proofs.RunLemmas.{run-append}
use Rattle.safety_laws.specs.Bounds.{NumbersStaySmall, IsSmallNode, IsSmallMessage}
use Rattle.safety_laws.specs.Laws.{InEveryRun}
use Rattle.safety_laws.specs.Taking.{MessagesCanBeTaken}
use Rattle.node_core.specs.declared.done.Done.{Done}
use Rattle.node_state.specs.Bounds.{IsBounded, IsNumbered}
use Rattle.set_model.specs.Taking.{CanTake}
use Rattle.rs_disk.specs.State.{State}
use Rattle.set_world.specs.Acting.{MayAct, ChangesAt, NodeUnchanged}
use Rattle.set_world.specs.Disks.{AtTouchedNode}
use Rattle.set_world.specs.Pool.{Pool, IsBetweenNodes}
use Rattle.set_world.specs.World.{IsReached, IsStanding, Acts, event_of, nodes_in}
use Rattle.set_world.proofs.ActingLemmas.{nodes_still}
use Rattle.set_world.proofs.NodesLemmas.{node_at, nodes_long}

-- a run goes on by an event that fits
AllFit-more : (so_far : Run) (front : List Event) (event : Event) → AllFit so_far.world front → Fits (fold after so_far front).world event → AllFit so_far.world (front ++ event ∷ [])
AllFit-more so_far [] event fit fits = (fits, tt)
AllFit-more so_far (first ∷ front) event fit fits = (fit.0, AllFit-more (after so_far first) front event fit.1 fits)

-- the last world of the history
last_world : (sizes : Sizes) (history : List Event) (nodes : List Node) (messages : List Message) → IsReached sizes history nodes messages
    → world_at sizes history (length history) ≡ record { nodes = nodes; messages = messages }
last_world sizes history nodes messages reached = ap (λ l. (run sizes l).world) (take-length history) ∙ reached.world

module _ (sizes : Sizes) (history : List Event) (nodes : List Node) (messages : List Message) (reached : IsReached sizes history nodes messages) (law : InEveryRun NumbersStaySmall) where
  numbers : NumbersStaySmall sizes history
  numbers = law sizes history reached.sizes_are reached.defined

  pub as_many : length nodes ≡ sizes.nodes
  as_many = sym (ap (λ (w : World). length w.nodes) (last_world sizes history nodes messages reached)) ∙ numbers.count (length history)

  pub few_nodes : length nodes ≤ 50
  few_nodes = let most : sizes.nodes ≤ 50 = reached.sizes_are.most in let same : length nodes ≡ sizes.nodes = as_many in omega (arith, most, same)

  pub bounded : (number : ℕ) (node : Node) → slice_get nodes number ≡ Some node → IsBounded node
  bounded number node there =
      let small : IsSmallNode sizes.nodes (length history) number node =
      numbers.nodes (length history) number node (ap (λ (w : World). slice_get w.nodes number) (last_world sizes history nodes messages reached) ∙ there) in
      let short : length history ≤ 4294967295 = reached.short in
      let term : node.term ≤ length history = small.term in
      let seen : node.seen ≤ 9223372032559808513 + length history = small.seen in
      let rollback : node.rollback ≤ length history = small.rollback in
      record { term = omega (arith, short, term); seen = omega (arith, short, seen); rollback = omega (arith, short, rollback) }

  pub numbered : IsNumbered (length messages)
  numbered =
      let few : length (world_at sizes history (length history)).messages ≤ 7 * length history = numbers.sent (length history) in
      let same : length (world_at sizes history (length history)).messages ≡ length messages = ap (λ (w : World). length w.messages) (last_world sizes history nodes messages reached) in
      let short : length history ≤ 4294967295 = reached.short in
      omega (arith, few, same, short)

  small_message : (message : Message) → Contains messages message → IsSmallMessage sizes.nodes (length history) message
  small_message message sent = numbers.messages (length history) message (subst (λ (w : World). Contains w.messages message) (sym (last_world sizes history nodes messages reached)) sent)

  pub between : (message : Message) → Contains messages message → message.to < length nodes
  between message sent = let less : message.to < sizes.nodes = (small_message message sent).receiver in let same : length nodes ≡ sizes.nodes = as_many in omega (arith, less, same)

  pub all_between : All (IsBetweenNodes sizes.nodes) messages
  all_between k d within =
      let small : IsSmallMessage sizes.nodes (length history) (slice_index_or messages k d) = small_message (slice_index_or messages k d) (k, within, refl_at messages k d (slice_index_or messages k d) within) in
      record { sender = small.sender; receiver = small.receiver }
    where
      refl_at : (items : List Message) (k : ℕ) (d e : Message) → k < length items → slice_index_or items k e ≡ slice_index_or items k d
      refl_at [] k d e within = absurd (omega (arith, within))
      refl_at (first ∷ items) zero d e within = refl
      refl_at (first ∷ items) (suc k) d e within = refl_at items k d e (omega (arith, within))

  pub takeable : InEveryRun MessagesCanBeTaken → (message : Message) (node : Node) → Contains messages message → slice_get nodes message.to ≡ Some node → node.up ≡ true → CanTake node message
  takeable taking message node sent there up =
      taking sizes history reached.sizes_are reached.defined message node reached.short (subst (λ (w : World). Contains w.messages message) (sym reached.world) sent)
      (record { there = ap (λ (w : World). slice_get w.nodes message.to) (last_world sizes history nodes messages reached) ∙ there; up = up })

  -- ---- one event more

  module _ (new : List Node) (line : ℕ) (command : Command) (came : Done) (acts : Acts (record { nodes = nodes; messages = messages }) command new came) where
    next_world : (step (run sizes history).world (event_of line command came)) ≡ record { reply = came.reply; world = record { nodes = new; messages = messages ++ came.sent.items } }
    next_world = ap (λ w. step w (event_of line command came)) reached.world ∙ acts.stepped line

    fits : is_for sizes.nodes command ≡ true → IfSome (write_of command) IsSoundWrite → Fits (run sizes history).world (event_of line command came)
    fits named sound = subst (λ w. Fits w (event_of line command came)) (sym reached.world) (record {
      command = subst (λ size. is_for size command ≡ true) (sym as_many) named;
      documents = sound;
      failed = acts.reached line;
      there = acts.settled line;
    })

    pub reached_more : length history < 4294967295 → is_for sizes.nodes command ≡ true → IfSome (write_of command) IsSoundWrite
        → IsReached sizes (history ++ event_of line command came ∷ []) new (messages ++ came.sent.items)
    reached_more short named sound = record {
      sizes_are = reached.sizes_are;
      defined = AllFit-more (opening sizes) history (event_of line command came) reached.defined (fits named sound);
      world = ap (λ (r : Run). r.world) (run-append sizes history (event_of line command came)) ∙ ap (λ (s : Step). s.world) next_world;
      short = let long : length (history ++ event_of line command came ∷ []) ≡ length history + 1 = length-append history (event_of line command came ∷ []) in omega (arith, long, short);
    }

    pub replied : came.reply ≡ (step (run sizes history).world (event_of line command came)).reply
    replied = sym (ap (λ (s : Step). s.reply) next_world)

-- ---- what the calls of a step owe

index_past : (front rest : List Message) (k : ℕ) (d : Message) → slice_index_or (front ++ rest) (length front + k) d ≡ slice_index_or rest k d
index_past [] rest k d = ap (λ n. slice_index_or rest n d) (let same : length {A = Message} [] + k ≡ k = omega arith in same)
index_past (first ∷ front) rest k d = ap (λ n. slice_index_or (first ∷ front ++ rest) n d) (let same : length (first ∷ front) + k ≡ suc (length front + k) = omega arith in same) ∙ index_past front rest k d

-- an event sends few messages, between nodes of the set
module _ (sizes : Sizes) (history : List Event) (nodes new : List Node) (messages sent : List Message) (event : Event) (reached : IsReached sizes history nodes messages)
    (more : IsReached sizes (history ++ event ∷ []) new (messages ++ sent)) (law : InEveryRun NumbersStaySmall) where
  few_sent : length sent ≤ 7
  few_sent =
      let numbers : NumbersStaySmall sizes (history ++ event ∷ []) = law sizes (history ++ event ∷ []) more.sizes_are more.defined in
      let before : length (world_at sizes (history ++ event ∷ []) (length history)).messages ≡ length messages =
      ap (λ l. length (run sizes l).world.messages) (take-append_seam history (event ∷ [])) ∙ ap (λ (w : World). length w.messages) reached.world in
      let long : length (history ++ event ∷ []) ≡ suc (length history) = length-append history (event ∷ []) ∙ (omega arith) in
      let now : length (world_at sizes (history ++ event ∷ []) (suc (length history))).messages ≡ length (messages ++ sent) =
      ap (λ n. length (world_at sizes (history ++ event ∷ []) n).messages) (sym long)
      ∙ ap (λ (w : World). length w.messages) (last_world sizes (history ++ event ∷ []) new (messages ++ sent) more) in
      let both : length (messages ++ sent) ≡ length messages + length sent = length-append messages sent in
      let each : length (world_at sizes (history ++ event ∷ []) (suc (length history))).messages ≤ length (world_at sizes (history ++ event ∷ []) (length history)).messages + 7 = numbers.each (length history) in
      omega (arith, before, now, both, each)

  sent_between : All (IsBetweenNodes sizes.nodes) sent
  sent_between k d within = subst (λ m. IsBetweenNodes sizes.nodes m) (index_past messages sent k d)
      (all_between sizes (history ++ event ∷ []) new (messages ++ sent) more law (length messages + k) d
      (let both : length (messages ++ sent) ≡ length messages + length sent = length-append messages sent in omega (arith, both, within)))

module _ {D : Type 0} (sizes : Sizes) (history : List Event) (nodes : List (Node × D × D)) (old pool : Pool) (stands : IsStanding sizes history (nodes_in nodes) old) (size : pool.nodes ≡ old.nodes)
    (messages : pool.messages ≡ old.messages) (law : InEveryRun NumbersStaySmall) where
  reached_now : IsReached sizes history (nodes_in nodes) pool.messages
  reached_now = subst (λ l. IsReached sizes history (nodes_in nodes) l) (sym messages) stands.reached

  count : length nodes ≡ sizes.nodes
  count = sym (nodes_long nodes) ∙ as_many sizes history (nodes_in nodes) pool.messages reached_now law

  pub may_act : InEveryRun MessagesCanBeTaken → MayAct nodes pool
  may_act taking = record {
    size = size ∙ stands.size ∙ sym count;
    some =
        let one : 1 ≤ sizes.voters = stands.reached.sizes_are.one in
        let voting : sizes.voters ≤ sizes.members = stands.reached.sizes_are.voting in
        let within : sizes.members ≤ sizes.nodes = stands.reached.sizes_are.within in
        let same : length nodes ≡ sizes.nodes = count in
        omega (arith, one, voting, within, same);
    few =
        let few : length (nodes_in nodes) ≤ 50 = few_nodes sizes history (nodes_in nodes) pool.messages reached_now law in
        let same : length (nodes_in nodes) ≡ length nodes = nodes_long nodes in
        omega (arith, few, same);
    bounds = bounded sizes history (nodes_in nodes) pool.messages reached_now law;
    next = numbered sizes history (nodes_in nodes) pool.messages reached_now law;
    messages = takeable sizes history (nodes_in nodes) pool.messages reached_now law taking;
    between = λ message sent.
        let less : message.to < length (nodes_in nodes) = between sizes history (nodes_in nodes) pool.messages reached_now law message sent in
        let same : length (nodes_in nodes) ≡ length nodes = nodes_long nodes in
        omega (arith, less, same);
  }

  -- ---- and what it came to

  module _ (new : List Node) (line : ℕ) (command : Command) (came : Done) (acts : Acts (record { nodes = nodes_in nodes; messages = pool.messages }) command new came) (short : length history < 4294967295)
      (named : is_for sizes.nodes command ≡ true) (sound : IfSome (write_of command) IsSoundWrite) where
    reached_then : IsReached sizes (history ++ event_of line command came ∷ []) new (pool.messages ++ came.sent.items)
    reached_then = reached_more sizes history (nodes_in nodes) pool.messages reached_now law new line command came acts short named sound

    pub room_for : length came.sent.items ≤ 7
    room_for = few_sent sizes history (nodes_in nodes) new pool.messages came.sent.items (event_of line command came) reached_now reached_then law

    pub between_then : All (IsBetweenNodes pool.nodes) came.sent.items
    between_then = subst (λ n. All (IsBetweenNodes n) came.sent.items) (sym (size ∙ stands.size))
        (sent_between sizes history (nodes_in nodes) new pool.messages came.sent.items (event_of line command came) reached_now reached_then law)

    pub stands_then : (after : Pool) → after.nodes ≡ pool.nodes → after.messages ≡ pool.messages ++ came.sent.items → IsStanding sizes (history ++ event_of line command came ∷ []) new after
    stands_then after size_is messages_are = record {
      reached = subst (λ l. IsReached sizes (history ++ event_of line command came ∷ []) new l) (sym messages_are) reached_then;
      size = size_is ∙ size ∙ stands.size;
    }

    pub reply_then : came.reply ≡ (step (run sizes history).world (event_of line command came)).reply
    reply_then = replied sizes history (nodes_in nodes) pool.messages reached_now law new line command came acts

-- what a step may do once its command came to something
pub record GoesOn (sizes : Sizes) (history : List Event) (pool : Pool) (new : List Node) (line : ℕ) (command : Command) (came : Done) : Type 0 where
  pub room : length came.sent.items ≤ 7
  pub between : All (IsBetweenNodes pool.nodes) came.sent.items
  pub stands : (after : Pool) (later : List Event) → later ≡ history ++ event_of line command came ∷ [] → after.nodes ≡ pool.nodes → after.messages ≡ pool.messages ++ came.sent.items
      → IsStanding sizes later new after
  pub reply : came.reply ≡ (step (run sizes history).world (event_of line command came)).reply

pub goes_on : {D : Type 0} (sizes : Sizes) (history : List Event) (items nodes : List (Node × D × D)) (old pool : Pool) → IsStanding sizes history (nodes_in items) old → nodes ≡ items
    → pool.nodes ≡ old.nodes → pool.messages ≡ old.messages → InEveryRun NumbersStaySmall → (new : List Node) (line : ℕ) (command : Command) (came : Done)
    → Acts (record { nodes = nodes_in nodes; messages = pool.messages }) command new came → length history < 4294967295 → is_for sizes.nodes command ≡ true → IfSome (write_of command) IsSoundWrite
    → GoesOn sizes history pool new line command came
goes_on sizes history items nodes old pool stands same size messages law new line command came acts short named sound = record {
  room = room_for sizes history nodes old pool now_stands size messages law new line command came acts short named sound;
  between = between_then sizes history nodes old pool now_stands size messages law new line command came acts short named sound;
  stands = λ after later is size_is messages_are. subst (λ l. IsStanding sizes l new after) (sym is)
      (stands_then sizes history nodes old pool now_stands size messages law new line command came acts short named sound after size_is messages_are);
  reply = reply_then sizes history nodes old pool now_stands size messages law new line command came acts short named sound;
}
  where
    now_stands : IsStanding sizes history (nodes_in nodes) old
    now_stands = subst (λ l. IsStanding sizes history (nodes_in l) old) (sym same) stands

pub acts_now : {D : Type 0} (sizes : Sizes) (history : List Event) (items nodes : List (Node × D × D)) (old pool : Pool) → IsStanding sizes history (nodes_in items) old → nodes ≡ items
    → pool.nodes ≡ old.nodes → pool.messages ≡ old.messages → InEveryRun NumbersStaySmall → InEveryRun MessagesCanBeTaken → MayAct nodes pool
acts_now sizes history items nodes old pool stands same size messages law taking =
    may_act sizes history nodes old pool (subst (λ l. IsStanding sizes history (nodes_in l) old) (sym same) stands) size messages law taking

-- ---- a node that is lent

pub known_place : {D : Type 0} (sizes : Sizes) (history : List Event) (items : List (Node × D × D)) (pool : Pool) → IsStanding sizes history (nodes_in items) pool → InEveryRun NumbersStaySmall
    → (number : ℕ) → number < sizes.nodes → number < length items
known_place sizes history items pool stands law number known =
    let same : length (nodes_in items) ≡ sizes.nodes = as_many sizes history (nodes_in items) pool.messages stands.reached law in
    let long : length (nodes_in items) ≡ length items = nodes_long items in
    omega (arith, same, long, known)

pub lent_node : {D : Type 0} (sizes : Sizes) (history : List Event) (items : List (Node × D × D)) (pool : Pool) → IsStanding sizes history (nodes_in items) pool
    → (number : ℕ) (d : Node × D × D) → number < length items → slice_get (run sizes history).world.nodes number ≡ Some (slice_index_or items number d).0
lent_node sizes history items pool stands number d within = ap (λ (w : World). slice_get w.nodes number) stands.reached.world ∙ node_at items number d within

-- ---- a step for which memory ran out

pub stands_still : {D : Type 0} (state : D → State) (Disks : State → State → State → State → Type 0) (sizes : Sizes) (history later : List Event) (items nodes new : List (Node × D × D)) (old pool : Pool) (what : Task)
    → IsStanding sizes history (nodes_in items) old → nodes ≡ items → pool.nodes ≡ old.nodes → pool.messages ≡ old.messages → later ≡ history
    → AtTouchedNode what None nodes new (λ n. ChangesAt n (NodeUnchanged state Disks) nodes new) → IsStanding sizes later (nodes_in new) pool
stands_still state Disks sizes history later items nodes new old pool what stands same size messages still undone = record {
  reached = subst (λ l. IsReached sizes l (nodes_in new) pool.messages) (sym still)
      (subst (λ l. IsReached sizes history l pool.messages) (sym here) (subst (λ l. IsReached sizes history (nodes_in items) l) (sym messages) stands.reached));
  size = size ∙ stands.size;
}
  where
    here : nodes_in new ≡ nodes_in items
    here = nodes_still state Disks what nodes new undone ∙ ap nodes_in same

-- ---- the node that a command touches

-- each receiver is a node of the set, and there is one
pub receivers : {D : Type 0} (sizes : Sizes) (history : List Event) (items : List (Node × D × D)) (pool : Pool) → IsStanding sizes history (nodes_in items) pool → InEveryRun NumbersStaySmall
    → (0 < pool.nodes) × ((message : Message) → Contains pool.messages message → message.to < pool.nodes)
receivers sizes history items pool stands law = (
  (let one : 1 ≤ sizes.voters = stands.reached.sizes_are.one in let voting : sizes.voters ≤ sizes.members = stands.reached.sizes_are.voting in let within : sizes.members ≤ sizes.nodes = stands.reached.sizes_are.within in let size = stands.size in omega (arith, one, voting, within, size)),
  λ message sent.
      let less : message.to < length (nodes_in items) = between sizes history (nodes_in items) pool.messages stands.reached law message sent in
      let same : length (nodes_in items) ≡ sizes.nodes = as_many sizes history (nodes_in items) pool.messages stands.reached law in
      let size = stands.size in
      omega (arith, less, same, size),
)

-- ---- the command of a step

-- it is for the nodes of the last world
pub named_there : {D : Type 0} (sizes : Sizes) (history : List Event) (items : List (Node × D × D)) (pool : Pool) → IsStanding sizes history (nodes_in items) pool → InEveryRun NumbersStaySmall
    → (command : Command) → is_for sizes.nodes command ≡ true → is_for (length (run sizes history).world.nodes) command ≡ true
named_there sizes history items pool stands law command named =
    subst (λ n. is_for n command ≡ true) (sym (ap (λ (w : World). length w.nodes) stands.reached.world ∙ as_many sizes history (nodes_in items) pool.messages stands.reached law)) named
