use Rattle.std.proofs.Common.{◌≡◌, ◌<◌, ◌≤◌, ◌∙◌, List, arith, ap, length, subst, sym}
use Rattle.std.specs.Prelude.{slice_index_or}
use Rattle.std.proofs.lemmas.Bool.{false≢true}
use Rattle.std.proofs.lemmas.Option.{slice_get_within}
use Rattle.repl_msg.specs.declared.message.Message.{Message}
use Rattle.question_laws.proofs.Acts.{place_of}
use Rattle.explorer.proofs.Replays.{found_there, none_more}
use Rattle.explorer.proofs.replay.Run.earliest.Goals as goal

pub loop-number-preserved : goal.loop-number-preserved
loop-number-preserved c =
    let messages = c.args.self.now.machine.messages in
    let number = c.loop-number.number in
    let sent = c.message-item.result in
    let same : c.messages-message-items.result.now ≡ messages = c.messages-message-items.ensures in
    let within : number < length messages = subst (λ (l : List Message). number < length l) same c.loop-number-test.true in
    let is : sent ≡ slice_index_or messages number sent = subst (λ (l : List Message). sent ≡ slice_index_or l number sent) same c.message-item.is in
    none_more messages number c.args.wanted.now sent within is (λ equal. false≢true (sym c.if-same_message.false ∙ c.same_message.ensures.1 equal)) c.loop-number.invariant

pub returns-then-same_message-clause-some : goal.returns-then-same_message-clause-some
returns-then-same_message-clause-some c =
    let messages = c.args.self.now.machine.messages in
    let number = c.loop-number.number in
    let sent = c.message-item.result in
    let same : c.messages-message-items.result.now ≡ messages = c.messages-message-items.ensures in
    let within : number < length messages = subst (λ (l : List Message). number < length l) same c.loop-number-test.true in
    let is : sent ≡ slice_index_or messages number sent = subst (λ (l : List Message). sent ≡ slice_index_or l number sent) same c.message-item.is in
    found_there messages number c.args.wanted.now sent within is (c.same_message.ensures.0 c.if-same_message.true)

pub returns-clause-none : goal.returns-clause-none
returns-clause-none c = λ none sent.
    let messages = c.args.self.now.machine.messages in
    let found = place_of c.args.wanted.now messages sent in
    let past : length messages ≤ c.loop-number.number = omega (arith, ap length c.messages-message-items.ensures, c.loop-number-test.false) in
    let within = slice_get_within messages found.0 c.args.wanted.now found.1 in
    c.loop-number.invariant found.0 (omega (arith, within, past)) found.1
