use Rattle.std.proofs.Common.{◌∙◌, ap, sym, subst}
use Rattle.set_model.specs.declared.records.Records.{Records}
use Rattle.set_model.specs.Roles.{is_primary}
use Rattle.set_model.specs.Stores.{records_after}
use Rattle.node_state.specs.Ready.{IsCut}
use Rattle.node_state.specs.StateView.{StateView}
use Rattle.node_messages.proofs.CutLemmas.{state-rolled}
use Rattle.node_state.proofs.Inside.{rest_in}
use Rattle.node_state.proofs.StateLemmas.{primary_seen}
use Rattle.node_messages.proofs.rollback.cut_log.Goals as goal

pub cut-requires-clause-role : goal.cut-requires-clause-role
cut-requires-clause-role c =
    primary_seen c.state.inside.node_data.node.role c.state.inside.role c.state.invariant.writable
    ∙ ap (λ (s : StateView). is_primary s.node.role) c.state.view_is ∙ ap is_primary c.requires.ready.role

pub invariant_of-state : goal.invariant_of-state
invariant_of-state c =
    state-rolled c.state.inside.node_data.node c.cut.new.self.node (rest_in c.state.inside) c.with-state-inside.result.list c.args.point c.earlier-state-inside.result c.args.lost c.state.inside.unjournaled.optimes c.cut-2.new.self.optimes
    c.cut.ensures.node (ap (λ (r : Records). r.list) c.with-state-inside.ensures ∙ ap (records_after c.state.inside.records.list) c.requires.item) c.earlier-state-inside.ensures c.cut-2.ensures.optimes
    c.recall_sound.ensures.node (subst (λ (s : StateView). IsCut c.args.point s.node) (sym c.state.view_is) c.requires.ready) c.state.invariant
