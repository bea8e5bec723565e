use Rattle.std.proofs.Common.{ap, sym, subst}
use Rattle.set_model.specs.declared.records.Records.{Records}
use Rattle.node_state.specs.Coherent.{IsCoherent}
use Rattle.node_state.specs.Seen.{seen_node}
use Rattle.node_state.specs.StateView.{StateView}
use Rattle.node_state.proofs.Inside.{rest_in}
use Rattle.node_commands.proofs.KeepLemmas.{flush-coherent, flush-count}
use Rattle.node_commands.proofs.disk.flush.Goals as goal

pub drop_first-requires : goal.drop_first-requires
drop_first-requires c =
    let s = c.state.inside in
    flush-count (seen_node s.node_data.node (rest_in s)) c.args.state.now.node c.args.item.now c.args.count c.args.point s.tally s.unjournaled.optimes
    (ap (λ (x : StateView). x.node) c.state.view_is) c.requires.ready c.state.invariant.coherent

pub invariant_of-state : goal.invariant_of-state
invariant_of-state c =
    let s = c.state.inside in
    let old = c.state.invariant in
    record {
      writable = old.writable;
      of_term = old.of_term;
      coherent =
          subst (λ (r : Records). IsCoherent (seen_node s.node_data.node (record (rest_in s) { records = r.list; durable = c.args.point })) s.tally c.drop_first.new.self.optimes) (sym c.with-state-inside.ensures)
          (flush-coherent (seen_node s.node_data.node (rest_in s)) c.args.state.now.node c.args.item.now c.args.count c.args.point s.tally s.unjournaled.optimes c.drop_first.new.self.optimes
          (ap (λ (x : StateView). x.node) c.state.view_is) c.requires.ready c.recall_sound.ensures.node.oplog c.drop_first.ensures.optimes old.coherent);
    }
