use Rattle.std.proofs.Common.{◌<◌, ◌≡◌, subst}
use Rattle.std.specs.Prelude.{None}
use Rattle.member_config.specs.Rule.{rule}
use Rattle.node_data.specs.Sound.{IsSound}
use Rattle.node_state.specs.Coherent.{IsOfTerm}
use Rattle.node_state.specs.StateView.{StateView}
use Rattle.node_state.proofs.Inside.{rest_in}
use Rattle.node_state.proofs.StoredLemmas.{sound_seen}
use Rattle.node_state.proofs.state.State.recall_sound.Goals as goal

pub returns-clause-sound : goal.returns-clause-sound
returns-clause-sound c =
    subst (λ (s : StateView). IsSound s.node) c.self.view_is (sound_seen c.self.inside.node_data.node (rest_in c.self.inside) c.self.invariant.writable c.recall_sound.ensures.node)

pub returns-clause-term : goal.returns-clause-term
returns-clause-term c = subst (λ (s : StateView). IsOfTerm s.node.term s.node.log s.node.slots) c.self.view_is c.self.invariant.of_term

pub returns-clause-number : goal.returns-clause-number
returns-clause-number c = subst (λ (s : StateView). s.node.number < 50) c.self.view_is c.self.invariant.coherent.number

pub returns-clause-first : goal.returns-clause-first
returns-clause-first c = subst (λ (s : StateView). rule s.node.first ≡ None) c.self.view_is c.self.invariant.coherent.first
