use Rattle.std.proofs.Common.{◌≡◌, length, Ok, arith}
use Rattle.explore_words.specs.Question.{question}
use Rattle.explore_words.proofs.FitsLines.{question_fits}
use Rattle.explore_words.proofs.QuestionRead.{read_start, read_whole}
use Rattle.explore_words.proofs.whole.parse_question.Goals as goal

pub loop-rest-init : goal.loop-rest-init
loop-rest-init c = read_start c.args.bytes.now c.new-reading.result c.new-reading.ensures

pub returns-clause-ok : goal.returns-clause-ok
returns-clause-ok c =
    let none : length c.loop-rest.rest.now ≡ 0 = grind arith in
    read_whole c.args.bytes.now c.loop-rest.rest.now c.loop-rest.reading c.loop-rest.number c.in_ok-question.question c.loop-rest.invariant none c.in_ok-question.ensures

pub returns-clause-sizes : goal.returns-clause-sizes
returns-clause-sizes c =
    let none : length c.loop-rest.rest.now ≡ 0 = grind arith in
    let read : question c.args.bytes.now ≡ Ok c.in_ok-question.question =
    read_whole c.args.bytes.now c.loop-rest.rest.now c.loop-rest.reading c.loop-rest.number c.in_ok-question.question c.loop-rest.invariant none c.in_ok-question.ensures in
    (question_fits c.args.bytes.now c.in_ok-question.question read).0

pub returns-clause-fits : goal.returns-clause-fits
returns-clause-fits c =
    let none : length c.loop-rest.rest.now ≡ 0 = grind arith in
    let read : question c.args.bytes.now ≡ Ok c.in_ok-question.question =
    read_whole c.args.bytes.now c.loop-rest.rest.now c.loop-rest.reading c.loop-rest.number c.in_ok-question.question c.loop-rest.invariant none c.in_ok-question.ensures in
    (question_fits c.args.bytes.now c.in_ok-question.question read).1
