use Rattle.std.proofs.Common.{◌≡◌, ◌∙◌, ◌<◌, ◌≤◌, ◌+◌, ◌++◌, append-nil, ◌∷◌, [], ℕ, Global, List, Option, Vec, ap, false, filter, get_or, if◌then◌else◌, length, not, rules, subst, sym, take, true}
use Rattle.std.proofs.lemmas.List.{take_all}
use Rattle.std.specs.Option.{option_map_or}
use Rattle.repl_msg.specs.declared.message.Message.{Message}
use Rattle.explore_laws.specs.Dead.{is_dead}
use Rattle.explore_steps.proofs.Numbers.{Numbers, each_there, filter_next, get_or_there}
use Rattle.explore_steps.proofs.Reading.{dead_number, still_numbers}
use Rattle.explore_steps.proofs.steps.Steps.still_live.Goals as goal
use Rattle.explore_steps.proofs.steps.Steps.still_live.Goals.{then-not-is_dead+in_ok-push, else-not-is_dead}

pub get-requires : goal.get-requires
get-requires c =
    let within : c.loop-message.message-index < length c.live-message-items.result.now = search rules in
    each_there c.args.self.now.messages c.live-message-items.result.now c.requires.1 (c.live-message-items.ensures c.requires.0 c.requires.1 c.requires.2) c.loop-message.message-index _
    (get_or_there c.live-message-items.result.now c.loop-message.message-index 0 within)

pub loop-message-preserved : goal.loop-message-preserved
loop-message-preserved c =
    let items = c.live-message-items.result.now in
    let index = c.loop-message.message-index in
    let kept = c.args.self.now.messages in
    let node = c.args.node.now in
    let number : ℕ = get_or items index 0 in
    let within : index < length items = search rules in
    let front : List ℕ = filter (λ n. not (dead_number kept node n)) (take index items) in
    let next : filter (λ n. not (dead_number kept node n)) (take (index + 1) items) ≡ front ++ (if not (dead_number kept node number) then number ∷ [] else []) =
    filter_next (λ n. not (dead_number kept node n)) items index number (get_or_there items index 0 within) in
    let dead_is : dead_number kept node number ≡ c.is_dead.result =
    ap (λ (found : Option Message). option_map_or (λ (m : Message). is_dead node m) found true) c.get.ensures ∙ sym c.is_dead.ensures in
    elim c.if-not-is_dead.branch [
      | then-not-is_dead+in_ok-push w ↦
          let alive : c.is_dead.result ≡ false = search rules in
          ap (λ (v : Vec ℕ Global). v.items) w.live-is ∙ w.in_ok-push.ensures.items ∙ ap (λ (l : List ℕ). l ++ number ∷ []) c.loop-message.invariant
          ∙ sym (next ∙ ap (λ b. front ++ (if not b then number ∷ [] else [])) (dead_is ∙ alive))
      | else-not-is_dead w ↦
          let dead : c.is_dead.result ≡ true = search rules in
          ap (λ (v : Vec ℕ Global). v.items) w.live-is ∙ c.loop-message.invariant ∙ sym (append-nil front)
          ∙ sym (next ∙ ap (λ b. front ++ (if not b then number ∷ [] else [])) (dead_is ∙ dead))
    ]

pub returns : goal.returns
returns c own messages is =
    let items = c.live-message-items.result.now in
    let kept = c.args.self.now.messages in
    let node = c.args.node.now in
    let past : length items ≤ c.loop-message.message-index = search rules in
    subst (λ (l : List ℕ). Numbers kept l (filter (λ message. not (is_dead node message)) messages))
    (sym (c.loop-message.invariant ∙ ap (filter (λ n. not (dead_number kept node n))) (take_all c.loop-message.message-index items past)))
    (still_numbers kept node items messages (c.live-message-items.ensures own messages is))
