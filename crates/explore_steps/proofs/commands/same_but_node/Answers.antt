use Rattle.std.proofs.Common.{◌∙◌, sym}
use Rattle.explore_steps.proofs.WordLemmas.{said_decides}
use Rattle.explore_steps.proofs.commands.same_but_node.Goals as goal

pub returns : goal.returns
returns c =
    let decides = said_decides c.args.one.now c.args.other.now in
    (λ same. decides.0 (sym c.say_the_same.ensures ∙ same), λ same. c.say_the_same.ensures ∙ decides.1 same)
