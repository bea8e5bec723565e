use Rattle.std.proofs.Common.{ap, sym, subst}
use Rattle.set_model.specs.Safety.{AtMost}
use Rattle.set_model.specs.declared.records.Records.{Records}
use Rattle.node_data.specs.NodeData.{NodeData}
use Rattle.node_state.specs.Coherent.{IsCoherent, IsState}
use Rattle.node_state.specs.Seen.{seen_node}
use Rattle.node_state.specs.StateView.{StateView}
use Rattle.node_state.proofs.StoredLemmas.{sound_seen}
use Rattle.node_state.proofs.Inside.{rest_in}
use Rattle.node_commands.proofs.KeepLemmas.{checkpoint-coherent, checkpoint-later, checkpoint-applied}
use Rattle.node_state.proofs.StateLemmas.{applied_seen}
use Rattle.node_commands.proofs.disk.keep_documents.Goals as goal

pub prune-requires : goal.prune-requires
prune-requires c =
    let s = c.state.inside in
    let old = c.state.invariant in
    let same = ap (λ (x : StateView). x.node) c.state.view_is in
    let sound = sound_seen s.node_data.node (rest_in s) old.writable c.recall_sound.ensures.node in
    record {
      later = checkpoint-later (seen_node s.node_data.node (rest_in s)) c.args.state.now.node c.args.item.now c.args.at same c.requires.ready old.coherent.points.stable sound.stable;
      applied =
          subst (λ o. AtMost c.args.at o) (sym (applied_seen s.node_data.node (rest_in s) old.writable))
          (checkpoint-applied (seen_node s.node_data.node (rest_in s)) c.args.state.now.node c.args.item.now c.args.at same c.requires.ready);
    }

pub invariant_of-state : goal.invariant_of-state
invariant_of-state c =
    let s = c.state.inside in
    let old = c.state.invariant in
    subst (λ (l : NodeData). IsState l.node (record (rest_in s) { records = c.with-state-inside.result.list }) s.unjournaled.optimes) (sym c.prune.ensures) (record {
      writable = old.writable;
      of_term = old.of_term;
      coherent =
          subst (λ (r : Records). IsCoherent (record (seen_node s.node_data.node (rest_in s)) { records = r.list; stable = c.args.at }) s.tally s.unjournaled.optimes) (sym c.with-state-inside.ensures)
          (checkpoint-coherent (seen_node s.node_data.node (rest_in s)) c.args.state.now.node c.args.item.now c.args.at s.tally s.unjournaled.optimes (ap (λ (x : StateView). x.node) c.state.view_is) c.requires.ready old.coherent);
    })
