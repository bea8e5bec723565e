use Rattle.std.proofs.Common.{◌∙◌, ap, sym}
use denote.Enum.Bare.{same_true}
use Rattle.set_model.specs.contracts.role.Role.{the_type}
use Rattle.set_model.specs.declared.role.Role.TheVariants.{Candidate}
use Rattle.set_model.specs.Roles.{is_primary}
use Rattle.node_messages.proofs.HearLemmas.{state-given_way}
use Rattle.node_state.proofs.Inside.{rest_in}
use Rattle.node_messages.proofs.beats.give_way.Goals as goal

pub invariant_of-state : goal.invariant_of-state
invariant_of-state c =
    state-given_way c.state.inside.node_data.node (rest_in c.state.inside) c.state.inside.unjournaled.optimes
    (ap is_primary (same_true the_type tt c.state.inside.role Candidate (sym c.eq.ensures ∙ c.if-eq.true))) c.state.invariant
