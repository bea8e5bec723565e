use Rattle.std.proofs.Common.{sym, subst}
use Rattle.node_state.specs.Coherent.{IsState}
use Rattle.node_state.specs.declared.state.State.TheInside.{Inside}
use Rattle.node_state.proofs.Inside.{rest_in}
use Rattle.node_state.proofs.TermLemmas.{coherent-counted}
use Rattle.node_messages.proofs.VoteLemmas.{same_voters}
use Rattle.node_messages.proofs.tallies.add_vote.Goals.{in-None, in-Some}
use Rattle.node_messages.proofs.tallies.add_vote.Goals as goal

pub invariant_of-state : goal.invariant_of-state
invariant_of-state c = elim c.match-state.branch [
  | in-None w ↦ subst (λ (s : Inside). IsState s.node_data.node (rest_in s) s.unjournaled.optimes) (sym w.state-inside-is) c.state.invariant
  | in-Some w ↦ subst (λ (s : Inside). IsState s.node_data.node (rest_in s) s.unjournaled.optimes) (sym w.state-inside-is)
      (record {
        writable = c.state.invariant.writable;
        of_term = c.state.invariant.of_term;
        coherent = coherent-counted c.state.inside.node_data.node (rest_in c.state.inside) w.in-Some.tally w.add.new.self c.state.inside.unjournaled.optimes w.in-Some.is
            (same_voters w.add.result w.in-Some.tally w.add.new.self c.args.from w.add.ensures.ok w.add.ensures.err) c.state.invariant.coherent;
      })
]
