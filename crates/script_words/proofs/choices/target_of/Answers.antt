use Rattle.std.proofs.Common.{None, lit<, ◌∙◌}
use Rattle.std.proofs.lemmas.Str.Pattern.{strip_prefix_char}
use Rattle.script_words.proofs.WordsTexts.{target_other}
use Rattle.script_words.proofs.choices.target_of.Goals as goal

pub returns-in-None : goal.returns-in-None
returns-in-None c =
    c.optime_target.ensures ∙ target_other c.args.word.now (strip_prefix_char 119 c.args.word.now None c.in-None.ensures.cases (lit< tt))
