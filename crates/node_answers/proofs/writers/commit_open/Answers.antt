use Rattle.std.proofs.Common.{◌≡◌, ◌∙◌, ap, sym, subst}
use Rattle.oplog_store.specs.Unjournaled.{Optimes, with_optime}
use Rattle.node_state.specs.Coherent.{IsState}
use Rattle.node_state.proofs.Inside.{rest_in}
use Rattle.node_state.proofs.WrittenLemmas.{state-settled}
use Rattle.node_answers.proofs.writers.commit_open.Goals as goal

pub invariant_of-state-2 : goal.invariant_of-state-2
invariant_of-state-2 c =
    let s = c.state.inside in
    let settled = c.in_ok-at.ensures.ok in
    let optimes : c.add.new.self.optimes ≡ with_optime s.unjournaled.optimes c.in_ok-at.at =
    ap (λ (u : Optimes). u.optimes) c.add.ensures ∙ ap (λ list. with_optime list c.in_ok-at.at) c.reserve.ensures.optimes in
    subst (λ list. IsState c.settle.new.self.node (rest_in s) list) (sym optimes)
    (state-settled s.node_data.node c.settle.new.self.node (rest_in s) c.args.writer c.in_ok-at.at settled.0 s.unjournaled.optimes settled.2 settled.1 c.recall_sound.ensures.node c.recall_sound.ensures.writers c.recall_sound-2.ensures.node c.state.invariant)
