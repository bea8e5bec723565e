use Rattle.explore_laws.proofs.Untaken.{are_untaken, change_nothing}
use Rattle.explore_laws.proofs.laws.dead_messages_change_nothing.Goals as goal

pub returns-clause-stays : goal.returns-clause-stays
returns-clause-stays c = change_nothing c.nothing_changes.ensures.quiet c.nothing_changes.ensures.ignored

pub returns-clause-untaken : goal.returns-clause-untaken
returns-clause-untaken c = are_untaken
