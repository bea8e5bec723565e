use Rattle.explore_words.proofs.TextsCut.{cut_result}
use Rattle.explore_words.proofs.texts.cut_at_last.Goals as goal

pub returns : goal.returns
returns c = cut_result c.args.mark.now c.args.text.now c.rsplit_once.result c.requires c.rsplit_once.ensures.cases
