use Rattle.std.proofs.lemmas.Str.{IsCharBoundary-start}
use Rattle.linear_words.proofs.asked.read_whole.Goals as goal

pub read_value-requires : goal.read_value-requires
read_value-requires c = IsCharBoundary-start c.args.word.now c.utf8.word
