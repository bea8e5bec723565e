use Rattle.std.proofs.Common.{◌≡◌, ◌≤◌, ◌∙◌, ◌++◌, ap, arith, length, rules, subst, sym, true}
use Rattle.member_config.specs.Config.{first_config}
use Rattle.member_config.specs.Rule.{rule}
use Rattle.member_config.specs.declared.config.Config.{Config}
use Rattle.set_model.specs.World.{nodes_from}
use Rattle.set_world.specs.Disks.{AllBegin}
use Rattle.set_world.specs.Points.{ArePointed}
use Rattle.set_world.specs.World.{IsStanding, disks_in, nodes_in}
use Rattle.set_world.proofs.BeginLemmas.{all_empty}
use Rattle.set_world.proofs.DisksOpenLemmas.{opens_nothing}
use Rattle.set_world.proofs.OpenLemmas.{begins, first_rule}
use Rattle.set_world.proofs.PointedLemmas.{pointed_first}
use Rattle.set_world.proofs.WentLemmas.{went_first}
use Rattle.set_world.proofs.world.World.open.Goals as goal

pub open_nodes-requires-clause-config : goal.open_nodes-requires-clause-config
open_nodes-requires-clause-config g c =
    ap rule c.in-Ok.ensures ∙ first_rule c.configs_are_lawful.ensures (record { nodes = c.args.nodes; voters = c.args.voters; members = c.args.members }) c.requires.sizes

pub returns-in-Err-clause-refused : goal.returns-in-Err-clause-refused
returns-in-Err-clause-refused g c = opens_nothing g.D.Disk.state c.args.nodes c.args.disks.items

pub returns-in-Err-clause-handed_back : goal.returns-in-Err-clause-handed_back
returns-in-Err-clause-handed_back g c =
    let many : length c.args.disks.items ≡ 100 = search rules in
    let most : c.args.nodes ≤ 50 = c.requires.sizes.most in
    all_empty g.D.Disk.state (first_config c.args.voters c.args.members) c.args.nodes c.args.disks.items c.requires.empty (omega (arith, many, most))

pub returns-in-Err-new-clause-handed_back : goal.returns-in-Err-new-clause-handed_back
returns-in-Err-new-clause-handed_back g c =
    let many : length c.args.disks.items ≡ 100 = search rules in
    let most : c.args.nodes ≤ 50 = c.requires.sizes.most in
    all_empty g.D.Disk.state (first_config c.args.voters c.args.members) c.args.nodes c.args.disks.items c.requires.empty (omega (arith, many, most))

pub returns-in-Err-open_nodes-clause-handed_back : goal.returns-in-Err-open_nodes-clause-handed_back
returns-in-Err-open_nodes-clause-handed_back g c =
    subst (λ (config : Config). AllBegin g.D.Disk.state config c.args.nodes c.open_nodes.new.disks.items) c.in-Ok.ensures c.in-Err-open_nodes.ensures.handed_back

pub invariant_of-result : goal.invariant_of-result
invariant_of-result g c =
    let nodes = c.in-Ok-open_nodes.ensures.nodes ∙ ap (λ config. nodes_from config 0 c.args.nodes) c.in-Ok.ensures in (
      subst (λ h. IsStanding (record { nodes = c.args.nodes; voters = c.args.voters; members = c.args.members }) h (nodes_in c.in-Ok-open_nodes.opened.items) c.new-pool.result) (sym c.new-in-Ok-open_nodes.ensures.items)
          (begins (record { nodes = c.args.nodes; voters = c.args.voters; members = c.args.members }) (nodes_in c.in-Ok-open_nodes.opened.items) c.new-pool.result c.requires.sizes nodes c.new-pool.ensures.nodes c.new-pool.ensures.messages),
      search rules,
      search rules,
      subst (λ h. ArePointed (record { nodes = c.args.nodes; voters = c.args.voters; members = c.args.members }) h c.in-Ok-new.points) (sym c.new-in-Ok-open_nodes.ensures.items)
          (pointed_first (record { nodes = c.args.nodes; voters = c.args.voters; members = c.args.members }) c.in-Ok-new.points c.in-Ok-new.ensures.size c.in-Ok-new.ensures.zeros),
      went_first g.D.Disk.state (record { nodes = c.args.nodes; voters = c.args.voters; members = c.args.members }) _ (disks_in c.in-Ok-open_nodes.opened.items ++ c.open_nodes.new.disks.items)
          (disks_in c.of-first_nodes.result.value.items ++ c.of-first_idle.result.value.items) true c.new-in-Ok-open_nodes.ensures.items
          (λ i. disks_in (c.of-first_nodes.ensures i).items ++ (c.of-first_idle.ensures i).items),
    )
