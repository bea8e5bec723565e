use Rattle.std.proofs.Common.{◌≡◌, ◌∙◌, Bool, ap, subst}
use Rattle.std.specs.Ordering.{nat_cmp}
use Rattle.std.specs.FinMap as maps
use Rattle.set_model.specs.Changes.{heard_of}
use Rattle.set_model.specs.Node.{Heard, Node}
use Rattle.checker_node.specs.Hearing.{Installs}
use Rattle.checker_node.specs.contracts.node.Node.{the_view}
use Rattle.checker_node.proofs.BeatLemmas.{hears_not, hears_on}
use Rattle.checker_node.proofs.node.Node.hear.Goals as goal

pub returns-then-not-branch : goal.returns-then-not-branch
returns-then-not-branch c =
    hears_not c.args.self.now c.give_way.new.self c.args.from c.args.beat.now c.args.failed.now c.install.new.failed c.install.new.self c.give_way.ensures
    (subst (λ (b : Bool). Installs c.give_way.new.self c.args.beat.now.config c.args.failed.now c.install.new.failed b c.install.new.self) c.if-not-branch.true c.in_ok-install.ensures)

pub returns : goal.returns
returns c =
    let from = c.args.from in
    let beat = c.args.beat.now in
    let heard : c.set.new.self.heard ≡ maps.insert c.self.inside.known.heard from (record { last = beat.visible; primary = beat.primary }) =
    c.set.ensures ∙ ap (λ (known : maps.FinMap nat_cmp Heard). maps.insert known from (record { last = beat.visible; primary = beat.primary })) c.make_room.ensures.heard in
    hears_on c.args.self.now c.give_way.new.self from beat c.args.failed.now c.install.new.failed c.install.new.self (record (the_view c.self.inside) { known = c.set.new.self.heard })
    c.hear_commit.new.self c.give_way.ensures
    (subst (λ (b : Bool). Installs c.give_way.new.self beat.config c.args.failed.now c.install.new.failed b c.install.new.self) c.if-not-branch.false c.in_ok-install.ensures)
    (ap (λ (known : maps.FinMap nat_cmp Heard). record (the_view c.self.inside) { known = known }) heard ∙ ap (λ (n : Node). heard_of n from beat.visible beat.primary) c.self.view_is)
    c.hear_commit.ensures
