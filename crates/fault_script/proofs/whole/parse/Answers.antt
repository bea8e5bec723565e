use Rattle.std.proofs.Common.{◌≡◌, length, Ok, sym, ◌∙◌, arith}
use Rattle.fault_script.specs.Script.{script}
use Rattle.fault_script.proofs.WholeCounts.{script_few}
use Rattle.fault_script.proofs.WholeFits.{script_fits}
use Rattle.fault_script.proofs.WholeRead.{read_start, read_whole}
use Rattle.fault_script.proofs.whole.parse.Goals as goal

pub loop-rest-init : goal.loop-rest-init
loop-rest-init c = read_start c.args.bytes.now c.new-reading.result c.new-reading.ensures

pub returns-clause-sizes : goal.returns-clause-sizes
returns-clause-sizes c =
    let none : length c.loop-rest.rest.now ≡ 0 = grind arith in
    let read : script c.args.bytes.now ≡ Ok c.in_ok-finish.field-0 =
    read_whole c.args.bytes.now c.loop-rest.rest.now c.loop-rest.reading c.loop-rest.number c.loop-rest.invariant none ∙ sym c.finish.ensures ∙ c.in_ok-finish.was in
    (script_fits c.args.bytes.now c.in_ok-finish.field-0 read).0

pub returns-clause-fits : goal.returns-clause-fits
returns-clause-fits c =
    let none : length c.loop-rest.rest.now ≡ 0 = grind arith in
    let read : script c.args.bytes.now ≡ Ok c.in_ok-finish.field-0 =
    read_whole c.args.bytes.now c.loop-rest.rest.now c.loop-rest.reading c.loop-rest.number c.loop-rest.invariant none ∙ sym c.finish.ensures ∙ c.in_ok-finish.was in
    (script_fits c.args.bytes.now c.in_ok-finish.field-0 read).1

pub returns-clause-few : goal.returns-clause-few
returns-clause-few c =
    let none : length c.loop-rest.rest.now ≡ 0 = grind arith in
    let read : script c.args.bytes.now ≡ Ok c.in_ok-finish.field-0 =
    read_whole c.args.bytes.now c.loop-rest.rest.now c.loop-rest.reading c.loop-rest.number c.loop-rest.invariant none ∙ sym c.finish.ensures ∙ c.in_ok-finish.was in
    script_few c.args.bytes.now c.in_ok-finish.field-0 read
