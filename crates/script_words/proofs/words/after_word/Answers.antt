use Rattle.std.specs.Option.{option_copied}
use Rattle.script_words.proofs.WordsTexts.{after_read, after_none}
use Rattle.script_words.proofs.words.after_word.Goals as goal

pub returns-in-Ok : goal.returns-in-Ok
returns-in-Ok c = after_read (option_copied c.args.left) c.in-Ok.field-0-0.now (option_copied c.in-Ok.rest) c.in-Ok.ensures

pub returns-in-Err : goal.returns-in-Err
returns-in-Err c = after_none (option_copied c.args.left) c.in-Err.field-0 c.in-Err.ensures
