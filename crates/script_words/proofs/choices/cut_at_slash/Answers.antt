use Rattle.std.proofs.Common.{lit<}
use Rattle.script_words.proofs.WordsTexts.{no_slash}
use Rattle.script_words.proofs.choices.cut_at_slash.Goals as goal

pub returns-in-None : goal.returns-in-None
returns-in-None c = no_slash c.args.text.now (c.in-None.ensures.byte (lit< tt) (λ w o found. found))
