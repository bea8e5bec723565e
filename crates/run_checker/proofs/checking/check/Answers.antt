use Rattle.run_checker.proofs.CheckedLemmas.{count_shows, error_rules_out, is_said, no_header}
use Rattle.run_checker.proofs.HeaderLemmas.{header_sizes}
use Rattle.run_checker.proofs.checking.check.Goals as goal

pub returns-in_default-clause-err : goal.returns-in_default-clause-err
returns-in_default-clause-err c = no_header c.args.bytes.now c.in_default.ensures

pub told-requires : goal.told-requires
told-requires c = header_sizes c.args.bytes.now c.in-Some.rest.now c.in-Some.sizes c.in-Some.ensures

pub returns-clause-ok : goal.returns-clause-ok
returns-clause-ok c = count_shows c.safe.ensures c.args.bytes.now c.in-Some.rest.now c.in-Some.sizes c.in-Some.ensures c.told.result c.told.ensures.tells

pub returns-clause-err : goal.returns-clause-err
returns-clause-err c = error_rules_out c.safe.ensures c.args.bytes.now c.in-Some.rest.now c.in-Some.sizes c.in-Some.ensures c.told.result c.told.ensures.says

pub returns-clause-says : goal.returns-clause-says
returns-clause-says c = is_said c.safe.ensures c.args.bytes.now c.in-Some.rest.now c.in-Some.sizes c.in-Some.ensures c.told.result c.told.ensures.says
