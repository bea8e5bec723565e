use Rattle.std.proofs.Common.{◌≡◌, ◌∙◌, ◌≤◌, ◌+◌, ◌*◌, ◌++◌, [], Err, List, Ok, ap, arith, length, refl, rules, subst, sym, vec_len, vec_capacity}
use Rattle.std.proofs.lemmas.Result.{err_from_is_err_and}
use Rattle.record_file.specs.declared.error.FileError.TheVariants.{Memory}
use Rattle.rs_disk.specs.File.{IsEmpty}
use Rattle.set_model.specs.World.{nodes_from}
use Rattle.set_world.specs.World.{disks_in, nodes_in}
use Rattle.set_model.specs.Node.{Node}
use Rattle.node_core.specs.Opening.{unopened_node}
use Rattle.set_world.specs.Acting.{EachNodeStands}
use Rattle.set_world.specs.Disks.{Opens}
use Rattle.set_world.proofs.BeginLemmas.{all_back, all_empty}
use Rattle.set_world.proofs.DisksOpenLemmas.{more_stand, none_stand, opens_more, opens_none, opens_nothing, opens_refused}
use Rattle.set_world.proofs.OpenLemmas.{nodes_more, all_after}
use Rattle.set_world.proofs.opening.open_nodes.Goals as goal

pub loop-number-init : goal.loop-number-init
loop-number-init g c =
    let D : Type 0 = g.row.D.Denot in
    let none : c.in_ok-nodes.nodes.items ≡ [] = search rules in
    let zero : vec_len c.in_ok-nodes.nodes ≡ 0 = search rules in
    let room : c.args.count ≤ vec_capacity c.in_ok-nodes.nodes = search rules in (
      ap (λ (nodes : List (Node × D × D)). nodes_in nodes) none,
      zero,
      room,
      omega arith,
      refl,
      c.requires.empty,
      subst (λ (nodes : List (Node × D × D)). EachNodeStands g.D.Disk.state nodes) (sym none) (none_stand g.D.Disk.state),
      subst (λ (nodes : List (Node × D × D)). Opens g.D.Disk.state 0 (Ok tt) c.args.disks.now.items (disks_in nodes ++ c.args.disks.now.items)) (sym none)
          (opens_none g.D.Disk.state c.args.disks.now.items),
    )

pub loop-number-preserved : goal.loop-number-preserved
loop-number-preserved g c =
    let so_far = c.loop-number.invariant in
    let len : vec_len c.keep.new.nodes ≡ vec_len c.loop-number.nodes + 1 = c.keep.ensures.len in
    let was : vec_len c.loop-number.nodes ≡ c.loop-number.number = so_far.1 in
    let many : length c.loop-number.nodes.items ≡ vec_len c.loop-number.nodes = search rules in
    let wide : vec_capacity c.loop-number.nodes ≤ vec_capacity c.keep.new.nodes = c.keep.ensures.capacity in
    let room : c.args.count ≤ vec_capacity c.loop-number.nodes = so_far.2 in
    let left : vec_len c.loop-number.disks + 2 * c.loop-number.number ≡ vec_len c.args.disks.now = so_far.3 in
    let fewer : vec_len c.open_next.new.disks + 2 ≡ vec_len c.loop-number.disks = c.in-Ok.ensures.fewer in (
      nodes_more c.args.config.now c.loop-number.number c.loop-number.nodes.items c.keep.new.nodes.items c.in-Ok.node so_far.0 c.keep.ensures.items c.in-Ok.ensures.node,
      omega (arith, len, was),
      omega (arith, wide, room),
      omega (arith, left, fewer),
      c.open_next.ensures.capacity ∙ so_far.4,
      all_after (λ disk. IsEmpty (g.D.Disk.state disk).file) c.loop-number.disks.items c.open_next.new.disks.items c.in-Ok.ensures.two.journal c.in-Ok.ensures.two.checkpoints c.in-Ok.ensures.two.first so_far.5,
      more_stand g.D.Disk.state c.loop-number.nodes.items c.keep.new.nodes.items c.in-Ok.node so_far.6 c.in-Ok.ensures.stands c.keep.ensures.items,
      opens_more g.D.Disk.state c.loop-number.number c.args.disks.now.items c.loop-number.nodes.items c.keep.new.nodes.items c.in-Ok.node c.loop-number.disks.items c.open_next.new.disks.items so_far.7
          (many ∙ was) c.in-Ok.ensures.two c.keep.ensures.items,
    )

pub returns-in-Err-clause-refused : goal.returns-in-Err-clause-refused
returns-in-Err-clause-refused g c =
    let many : length c.loop-number.nodes.items ≡ vec_len c.loop-number.nodes = search rules in
    opens_refused g.D.Disk.state c.loop-number.number c.args.count c.in-Err.error c.args.disks.now.items c.loop-number.nodes.items c.loop-number.disks.items c.open_next.new.disks.items c.give_back.new.disks.items
    c.loop-number.invariant.7 (many ∙ c.loop-number.invariant.1) c.loop-number-test.true (unopened_node c.args.config.now c.loop-number.number) c.in-Err.ensures.back c.give_back.ensures.items

pub returns-in_err-nodes-clause-refused : goal.returns-in_err-nodes-clause-refused
returns-in_err-nodes-clause-refused g c =
    let is : c.from_residual.result ≡ Err Memory = search rules in
    rw is (opens_nothing g.D.Disk.state c.args.count c.args.disks.now.items)

pub returns-in_err-nodes-clause-handed_back : goal.returns-in_err-nodes-clause-handed_back
returns-in_err-nodes-clause-handed_back g c =
    let many : length c.args.disks.now.items ≡ vec_len c.args.disks.now = search rules in
    let p = err_from_is_err_and c.from_residual.result c.from_residual.ensures.1 in
    rw p.1 (all_empty g.D.Disk.state c.args.config.now c.args.count c.args.disks.now.items c.requires.empty (omega (arith, c.requires.enough, many)))

pub returns-in-Err-clause-handed_back : goal.returns-in-Err-clause-handed_back
returns-in-Err-clause-handed_back g c =
    let so_far = c.loop-number.invariant in
    let many : length c.loop-number.nodes.items ≡ vec_len c.loop-number.nodes = search rules in
    let long : length c.loop-number.disks.items ≡ vec_len c.loop-number.disks = search rules in
    let left : vec_len c.loop-number.disks + 2 * c.loop-number.number ≡ vec_len c.args.disks.now = so_far.3 in
    all_back g.D.Disk.state c.args.config.now c.loop-number.number (Err c.in-Err.error) c.loop-number.nodes.items c.loop-number.disks.items c.open_next.new.disks.items
    so_far.0 (many ∙ so_far.1) so_far.6 c.in-Err.ensures.back so_far.5 c.args.count c.give_back.new.disks.items c.give_back.ensures.items (omega (arith, c.requires.enough, left, long))

pub returns-clause-nodes : goal.returns-clause-nodes
returns-clause-nodes g c =
    let least : c.args.count ≤ c.loop-number.number = c.loop-number-test.false in
    let most : c.loop-number.number ≤ c.args.count = c.loop-number.auto.number-end in
    let all : c.loop-number.number ≡ c.args.count = omega (arith, least, most) in
    subst (λ n. nodes_in c.loop-number.nodes.items ≡ nodes_from c.args.config.now 0 n) all c.loop-number.invariant.0

pub returns-clause-opened : goal.returns-clause-opened
returns-clause-opened g c =
    let least : c.args.count ≤ c.loop-number.number = c.loop-number-test.false in
    let most : c.loop-number.number ≤ c.args.count = c.loop-number.auto.number-end in
    let all : c.loop-number.number ≡ c.args.count = omega (arith, least, most) in
    subst (λ n. Opens g.D.Disk.state n (Ok tt) c.args.disks.now.items (disks_in c.loop-number.nodes.items ++ c.loop-number.disks.items)) all c.loop-number.invariant.7
