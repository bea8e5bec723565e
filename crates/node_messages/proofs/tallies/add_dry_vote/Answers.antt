use Rattle.std.proofs.Common.{sym, subst, Some}
use Rattle.node_state.specs.Coherent.{IsState}
use Rattle.node_state.specs.declared.state.State.TheInside.{Inside}
use Rattle.node_state.proofs.Inside.{rest_in}
use Rattle.node_state.proofs.TermLemmas.{coherent-dry}
use Rattle.node_messages.proofs.tallies.add_dry_vote.Goals.{in-None, in-Some}
use Rattle.node_messages.proofs.tallies.add_dry_vote.Goals as goal

pub invariant_of-state : goal.invariant_of-state
invariant_of-state c = elim c.match-state.branch [
  | in-None w ↦ subst (λ (s : Inside). IsState s.node_data.node (rest_in s) s.unjournaled.optimes) (sym w.state-inside-is) c.state.invariant
  | in-Some w ↦ subst (λ (s : Inside). IsState s.node_data.node (rest_in s) s.unjournaled.optimes) (sym w.state-inside-is)
      (record {
        writable = c.state.invariant.writable;
        of_term = c.state.invariant.of_term;
        coherent = coherent-dry c.state.inside.node_data.node (rest_in c.state.inside) (Some w.add.new.self) c.state.inside.unjournaled.optimes c.state.invariant.coherent;
      })
]
