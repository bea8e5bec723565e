use Rattle.std.proofs.Common.{◌≡◌, ◌<◌, ◌≤◌, ◌∙◌, List, ap, arith, length, refl, subst, sym}
use Rattle.std.specs.List.{list_any}
use Rattle.std.specs.Prelude.{slice_index_or}
use Rattle.std.proofs.lemmas.List.{take_all}
use Rattle.repl_msg.specs.declared.message.Message.{Message}
use Rattle.explore_laws.specs.Dead.{is_dead_in}
use Rattle.explorer.proofs.Replays.{any_more, found_there}
use Rattle.explorer.proofs.replay.Run.earliest_dead.Goals as goal

pub loop-number-preserved : goal.loop-number-preserved
loop-number-preserved c =
    let messages = c.args.self.now.machine.messages in
    let number = c.loop-number.number in
    let sent = c.message-item.result in
    let same : c.messages-message-items.result.now ≡ messages = c.messages-message-items.ensures in
    let within : number < length messages = subst (λ (l : List Message). number < length l) same c.loop-number-test.true in
    let is : sent ≡ slice_index_or messages number sent = subst (λ (l : List Message). sent ≡ slice_index_or l number sent) same c.message-item.is in
    any_more (is_dead_in c.args.self.now.machine) messages number sent within is (sym c.is_dead_in.ensures ∙ c.if-is_dead_in.false) c.loop-number.invariant

pub returns-then-is_dead_in-clause-some : goal.returns-then-is_dead_in-clause-some
returns-then-is_dead_in-clause-some c =
    let messages = c.args.self.now.machine.messages in
    let number = c.loop-number.number in
    let sent = c.message-item.result in
    let same : c.messages-message-items.result.now ≡ messages = c.messages-message-items.ensures in
    let within : number < length messages = subst (λ (l : List Message). number < length l) same c.loop-number-test.true in
    let is : sent ≡ slice_index_or messages number sent = subst (λ (l : List Message). sent ≡ slice_index_or l number sent) same c.message-item.is in
    (sent, found_there messages number sent sent within is refl, sym c.is_dead_in.ensures ∙ c.if-is_dead_in.true)

pub returns-clause-none : goal.returns-clause-none
returns-clause-none c = λ none.
    let messages = c.args.self.now.machine.messages in
    let past : length messages ≤ c.loop-number.number = omega (arith, ap length c.messages-message-items.ensures, c.loop-number-test.false) in
    ap (list_any (is_dead_in c.args.self.now.machine)) (sym (take_all c.loop-number.number messages past)) ∙ c.loop-number.invariant
