use Rattle.question_laws.proofs.Search.{followers_led, searches_tell, searches_whole}
use Rattle.question_laws.proofs.laws.searches_are_whole.Goals as goal

pub returns-clause-whole : goal.returns-clause-whole
returns-clause-whole c = searches_whole c.acts_are_covered.ensures

pub returns-clause-led : goal.returns-clause-led
returns-clause-led c = followers_led

pub returns-clause-tell : goal.returns-clause-tell
returns-clause-tell c = searches_tell c.acts_are_covered.ensures
