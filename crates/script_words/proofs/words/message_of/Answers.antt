use Rattle.std.proofs.Common.{None, lit<, sym}
use Rattle.std.proofs.lemmas.Str.Pattern.{strip_prefix_char}
use Rattle.script_words.specs.declared.rule.ScriptRule.TheVariants.{BadWord}
use Rattle.script_words.proofs.WordsTexts.{numbered_other}
use Rattle.script_words.proofs.words.message_of.Goals as goal

pub returns-in-None : goal.returns-in-None
returns-in-None c =
    sym (numbered_other BadWord 109 18446744073709551615 c.args.word.now (strip_prefix_char 109 c.args.word.now None c.in-None.ensures.cases (lit< tt)))
