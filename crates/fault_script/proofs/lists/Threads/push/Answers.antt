use Rattle.std.proofs.Common.{◌≡◌, [], ◌∷◌, ◌++◌, sym, ◌∙◌}
use Rattle.fault_script.proofs.ListsLast.{with_line_of}
use Rattle.fault_script.proofs.lists.Threads.push.Goals as goal

pub returns : goal.returns
returns c =
    let taken : c.args.self.now ≡ c.pop.new.self.items ++ c.in-Some.last ∷ [] = sym c.self.view_is ∙ c.in-Some.ensures.items in
    with_line_of c.args.self.now c.pop.new.self.items c.push-2.new.self.items c.in-Some.last c.push.new.self c.args.line taken c.in_ok-push.ensures c.in_ok-push-2.ensures.items
