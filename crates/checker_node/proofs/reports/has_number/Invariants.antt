use Rattle.std.proofs.Common.{◌≡◌, drop}
use Rattle.std.specs.Prelude.{map}
use Rattle.member_config.specs.Numbers.{is_among}
use Rattle.checker_node.proofs.reports.has_number.Given as goal

abbrev pub invariant-loop-member : goal.invariant-loop-member
invariant-loop-member l =
    is_among l.number (map (λ m. m.number) (drop l.member-index l.members)) ≡ is_among l.number (map (λ m. m.number) l.members)
