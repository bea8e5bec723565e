use Rattle.std.proofs.lemmas.Str.{IsCharBoundary-start}
use Rattle.bson_doc.specs.View.{tree_of}
use Rattle.script_words.proofs.ValuesEnd.{cut_after_value}
use Rattle.script_words.proofs.values.value.Goals as goal

pub read_value-requires : goal.read_value-requires
read_value-requires c = IsCharBoundary-start c.args.text.now c.utf8.text

pub range_from-requires : goal.range_from-requires
range_from-requires c = λ _. cut_after_value c.args.text.now (tree_of c.in_ok-value.value) c.in_ok-value.end c.in_ok-value.ensures.found c.utf8.text
