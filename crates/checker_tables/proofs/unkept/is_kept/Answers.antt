use Rattle.std.proofs.Common.{◌≡◌, ◌∙◌, rules, sym}
use Rattle.std.specs.Prelude.{is_some}
use Rattle.repl_msg.proofs.HasLemmas.{has_found}
use Rattle.checker_tables.proofs.unkept.is_kept.Goals as goal

pub returns : goal.returns
returns c =
    let some : c.is_some.result ≡ is_some c.find_near-found.result = search rules in
    some ∙ sym (has_found c.args.kept.now.entries c.args.at c.find_near-found.result c.find_near-found.ensures.found c.find_near-found.ensures.none)
