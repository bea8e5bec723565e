use Rattle.std.proofs.Common.{None, sym}
use Rattle.std.proofs.lemmas.Str.Pattern.{strip_prefix_char}
use Rattle.script_words.proofs.WordsTexts.{numbered_other}
use Rattle.script_words.proofs.words.numbered.Goals as goal

pub returns-in-None : goal.returns-in-None
returns-in-None c =
    sym (numbered_other c.args.rule c.args.letter c.args.most c.args.word.now (strip_prefix_char c.args.letter c.args.word.now None c.in-None.ensures.cases c.requires))
