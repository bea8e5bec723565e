-- What is heard of other members keeps a node coherent.
use Rattle.std.proofs.Common.{◌≡◌, ◌∙◌, ap, sym, subst, Bool, true, false, cond, not, ◌&&◌, Option, None, Some, List, []}
use Rattle.std.specs.Prelude.{◌==◌}
use Rattle.std.specs.Ordering.{nat_cmp}
use Rattle.std.specs.FinMap as maps
use Rattle.rs_optime.specs.declared.optime.OpTime.{OpTime}
use Rattle.rs_optime.proofs.Optimes.{at_most_refl}
use Rattle.election_core.specs.Counting.{Tallied}
use Rattle.repl_msg.specs.Points.{commit_after}
use Rattle.set_model.specs.declared.role.Role.TheVariants.{Secondary}
use Rattle.set_model.specs.Node.{Node, Report, Heard}
use Rattle.set_model.specs.Points.{last_point, visible_point}
use Rattle.set_model.specs.Roles.{is_primary}
use Rattle.node_data.specs.NodeData.{data_role}
use Rattle.node_state.specs.Coherent.{IsCoherent, IsState}
use Rattle.node_messages.specs.HeardBeats.{commit_learnt}
use Rattle.node_state.specs.Seen.{BesideData, seen_node}
use Rattle.node_state.proofs.CommitLemmas.{IsBetween, coherent-commit, counted_between}
use Rattle.node_state.proofs.TermLemmas.{coherent-turned}

-- other tables of what members reported, and of what was heard of them
pub coherent-tables : (node : Node) (progress : maps.FinMap nat_cmp Report) (known : maps.FinMap nat_cmp Heard) (tally : Option Tallied) (optimes : List OpTime)
    → IsCoherent node tally optimes → IsCoherent (record node { progress = progress; known = known }) tally optimes
coherent-tables node progress known tally optimes old = record {
  number = old.number;
  vote = old.vote;
  config = old.config;
  first = old.first;
  points = record { stable = old.points.stable; commit = old.points.commit; durable = old.points.durable; there = old.points.there };
  recorded = record { vote = old.recorded.vote; config = old.recorded.config; entries = old.recorded.entries; early = old.recorded.early; point = old.recorded.point };
  unjournaled = old.unjournaled;
  counts = old.counts;
}

learnt_between : (test : Bool) (stable durable commit heard : OpTime) → IsBetween stable durable commit → IsBetween stable durable (cond test (commit_after commit heard durable) commit)
learnt_between true stable durable commit heard old = counted_between stable durable commit (Some heard) old
learnt_between false stable durable commit heard old = old

-- a commit point is learnt of a node that is known
pub coherent-learnt : (n : Node) (rest : BesideData) (commit heard : OpTime) (known : maps.FinMap nat_cmp Heard) (tally : Option Tallied) (optimes : List OpTime)
    → commit ≡ commit_learnt (seen_node n rest) heard
    → IsCoherent (seen_node n rest) tally optimes → IsCoherent (seen_node n (record rest { commit = commit; known = known })) tally optimes
coherent-learnt n rest commit heard known tally optimes is old =
    coherent-tables (seen_node n (record rest { commit = commit })) rest.progress known tally optimes
    (coherent-commit (seen_node n rest) commit tally optimes
    (subst (IsBetween n.stable rest.durable) (sym is)
    (learnt_between (not (is_primary rest.role) && heard.term == (last_point n).term) n.stable rest.durable rest.commit heard (old.points.stable, old.points.commit)))
    old)

-- a candidate that is a secondary counts nothing
pub state-given_way : (n : Node) (rest : BesideData) (optimes : List OpTime) → is_primary rest.role ≡ false → IsState n rest optimes
    → IsState n (record rest { role = Secondary; tally = None }) optimes
state-given_way n rest optimes other old = record {
  writable = old.writable ∙ ap data_role other;
  of_term = old.of_term;
  coherent = coherent-turned (seen_node n rest) Secondary n.slots n.writers n.applied rest.progress [] rest.dry_tally rest.tally None optimes
      (at_most_refl (visible_point n)) (λ role. absurd (cc role)) old.coherent;
}
