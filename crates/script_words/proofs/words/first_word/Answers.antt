use Rattle.std.proofs.lemmas.Str.{IsCharBoundary-before_ascii, IsCharBoundary-after_ascii}
use Rattle.script_words.proofs.WordsTexts.{one_word, word_before}
use Rattle.script_words.proofs.words.first_word.Goals as goal

pub range-requires-clause-end_boundary : goal.range-requires-clause-end_boundary
range-requires-clause-end_boundary c =
    let found = word_before c.args.text.now c.in-Some.end c.in-Some.ensures in
    IsCharBoundary-before_ascii c.args.text.now c.in-Some.end found.0 found.1

pub range_from-requires : goal.range_from-requires
range_from-requires c =
    let found = word_before c.args.text.now c.in-Some.end c.in-Some.ensures in
    λ _. IsCharBoundary-after_ascii c.args.text.now c.in-Some.end c.utf8.text found.0 found.1

pub returns-in-Some : goal.returns-in-Some
returns-in-Some c =
    let found = word_before c.args.text.now c.in-Some.end c.in-Some.ensures in
    rw (c.range.ensures.value, c.range_from.ensures.value) found.2

pub returns-in-None : goal.returns-in-None
returns-in-None c = one_word c.args.text.now c.in-None.ensures
