use Rattle.std.proofs.Common.{◌≡◌, ◌∙◌, List, ap, rules, sym}
use Rattle.std.specs.Prelude.{is_some}
use Rattle.oplog_entry.specs.declared.entry.Entry.{Entry}
use Rattle.repl_msg.specs.Logs.{has_entry}
use Rattle.repl_msg.proofs.HasLemmas.{has_found}
use Rattle.set_model.specs.Node.{Node}
use Rattle.checker_node.proofs.node.Node.has.Goals as goal

pub returns : goal.returns
returns c =
    let some : c.is_some.result ≡ is_some c.find.result = search rules in
    some ∙ sym (has_found c.log.result.now.entries c.args.at c.find.result c.find.ensures.found c.find.ensures.none)
    ∙ ap (λ (l : List Entry). has_entry l c.args.at) c.log.ensures ∙ ap (λ (n : Node). has_entry n.log c.args.at) c.self.view_is
