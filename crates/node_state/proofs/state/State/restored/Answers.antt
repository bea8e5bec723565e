use Rattle.std.proofs.Common.{◌∙◌, ap, ◌+◌, None}
use Rattle.set_model.specs.declared.role.Role.TheVariants.{Secondary}
use Rattle.node_data.specs.NodeData.{restored}
use Rattle.node_state.proofs.RestartLemmas.{restorable, restored-state}
use Rattle.node_state.proofs.state.State.restored.Goals as goal

pub restore-requires-clause-within : goal.restore-requires-clause-within
restore-requires-clause-within g c κs shared =
    (restorable c.args.found c.args.coming_up.records.list c.args.stable c.entries_up_to-entries.result c.requires.kept c.requires.read c.entries_up_to-entries.ensures).within

pub restore-requires-clause-small : goal.restore-requires-clause-small
restore-requires-clause-small g c κs shared =
    (restorable c.args.found c.args.coming_up.records.list c.args.stable c.entries_up_to-entries.result c.requires.kept c.requires.read c.entries_up_to-entries.ensures).small

pub restore-requires-clause-reached : goal.restore-requires-clause-reached
restore-requires-clause-reached g c κs shared =
    (restorable c.args.found c.args.coming_up.records.list c.args.stable c.entries_up_to-entries.result c.requires.kept c.requires.read c.entries_up_to-entries.ensures).reached

pub invariant_of-result : goal.invariant_of-result
invariant_of-result g c =
    restored-state c.args.coming_up.first.now c.args.coming_up.number c.args.coming_up.records.list c.args.stable c.args.coming_up.rollback c.args.coming_up.clock c.args.found
    _ _ _ c.requires.number c.requires.first c.requires.kept c.requires.read
    (c.in_ok-node_data.ensures
    ∙ ap (λ entries. restored entries c.args.stable) c.entries_up_to-entries.ensures)
    (λ i. record {
      number = c.args.coming_up.number;
      first = c.in_ok-copy.ensures i;
      role = Secondary;
      term = c.args.found.vote.term;
      clock = c.args.coming_up.clock;
      vote = c.args.found.vote.candidate;
      records = c.args.coming_up.records.list;
      durable = c.args.found.point;
      commit = c.args.stable;
      config = c.in_ok-config.ensures i;
      progress = c.new.ensures i;
      known = c.new-2.ensures i;
      tally = None;
      dry_tally = None;
      lost = c.new-3.ensures i;
      rollback = c.args.coming_up.rollback + 1;
    })
    c.new-4.ensures
