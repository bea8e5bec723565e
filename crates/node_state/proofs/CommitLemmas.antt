-- A commit point that moves on keeps a node coherent.
use Rattle.std.proofs.Common.{◌≡◌, sym, subst, refl, arith, inl, inr, ℕ, Bool, true, false, cond, Option, None, Some, List}
use Rattle.rs_optime.specs.Later.{earlier_of, later_of}
use Rattle.rs_optime.specs.Order.{is_before}
use Rattle.rs_optime.specs.declared.optime.OpTime.{OpTime}
use Rattle.rs_optime.proofs.Optimes.{at_most_trans, before_parts, later_term, later_time, earlier_right}
use Rattle.election_core.specs.Counting.{Tallied}
use Rattle.repl_msg.specs.Points.{advanced, commit_counted, counted_point, voted_points}
use Rattle.set_model.specs.Node.{Node}
use Rattle.set_model.specs.Safety.{AtMost}
use Rattle.node_state.specs.Coherent.{IsCoherent}
use Rattle.node_state.specs.Seen.{BesideData, seen_node}

-- a point from one optime to another
abbrev pub IsBetween : OpTime → OpTime → OpTime → Type 0
IsBetween low high at = AtMost low at × AtMost at high

before_most : (a b : OpTime) → is_before a b ≡ true → AtMost a b
before_most a b before = elim (before_parts a b before) [ inl less ↦ later_term b a less | inr same ↦ later_time b a (sym same.0) (omega (arith, same.1)) ]

later_between : (stable durable commit reached : OpTime) → IsBetween stable durable commit → AtMost reached durable → IsBetween stable durable (later_of commit reached)
later_between stable durable commit reached old within = go (is_before commit reached) refl
  where
    go : (b : Bool) → is_before commit reached ≡ b → IsBetween stable durable (cond b reached commit)
    go true is = (at_most_trans stable commit reached old.0 (before_most commit reached is), within)
    go false is = old

pub counted_between : (stable durable commit : OpTime) (found : Option OpTime) → IsBetween stable durable commit → IsBetween stable durable (commit_counted commit durable found)
counted_between stable durable commit None old = old
counted_between stable durable commit (Some point) old = later_between stable durable commit (earlier_of point durable) old (earlier_right point durable)

pub coherent-commit : (node : Node) (commit : OpTime) (tally : Option Tallied) (optimes : List OpTime) → IsBetween node.stable node.durable commit
    → IsCoherent node tally optimes → IsCoherent (record node { commit = commit }) tally optimes
coherent-commit node commit tally optimes between old = record {
  number = old.number;
  vote = old.vote;
  config = old.config;
  first = old.first;
  points = record { stable = between.0; commit = between.1; durable = old.points.durable; there = old.points.there };
  recorded = record { vote = old.recorded.vote; config = old.recorded.config; entries = old.recorded.entries; early = old.recorded.early; point = old.recorded.point };
  unjournaled = old.unjournaled;
  counts = old.counts;
}

-- a primary's commit point, as far as a majority and the node itself have come
pub coherent-advanced : (n : Node) (rest : BesideData) (commit : OpTime) (term : ℕ) (tally : Option Tallied) (optimes : List OpTime)
    → commit ≡ advanced rest.progress rest.config term rest.number rest.durable rest.commit
    → IsCoherent (seen_node n rest) tally optimes → IsCoherent (seen_node n (record rest { commit = commit })) tally optimes
coherent-advanced n rest commit term tally optimes is old =
    coherent-commit (seen_node n rest) commit tally optimes
    (subst (IsBetween n.stable rest.durable) (sym is)
    (counted_between n.stable rest.durable rest.commit (counted_point rest.config (voted_points rest.progress rest.config term rest.number rest.durable)) (old.points.stable, old.points.commit)))
    old
