use Rattle.std.proofs.Common.{None, lit<}
use Rattle.std.proofs.lemmas.Str.Pattern.{strip_prefix_char}
use Rattle.script_words.proofs.WordsTexts.{after_space_other}
use Rattle.script_words.proofs.values.after_space.Goals as goal

pub returns-in-None : goal.returns-in-None
returns-in-None c =
    after_space_other c.args.text.now (strip_prefix_char 32 c.args.text.now None c.in-None.ensures.cases (lit< tt))
