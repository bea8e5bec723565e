use Rattle.std.proofs.Common.{◌∙◌, sym}
use Rattle.explore_steps.proofs.SightLemmas.{shown_within}
use Rattle.explore_steps.proofs.looking.is_look_met.Goals as goal

pub is_shown-requires-clause-within : goal.is_shown-requires-clause-within
is_shown-requires-clause-within c =
    shown_within 0 c.args.node.now c.args.look.now.sight c.in-Some.command c.requires.within (sym c.in-Some.is ∙ c.in_ok-command.ensures c.args.node.now (sym c.entries.ensures))
