use Rattle.std.proofs.Common.{◌∙◌, ◌++◌, List, ap}
use Rattle.oplog_entry.specs.declared.entry.Entry.{Entry}
use Rattle.checker_node.proofs.DiskLemmas.{comes_back}
use Rattle.checker_node.proofs.node.Node.come_back.Goals as goal

pub returns : goal.returns
returns c =
    comes_back c.args.self.now _ c.vote-vote.result c.append.new.self c.last_point-last.result c.point-self-inside.result c.in_ok-self-inside.field-0 c.replies.result c.requires.settled
    (c.self.view_is ∙ c.in_ok-forget.ensures) c.vote-vote.ensures
    (c.in_ok-append.ensures.ok ∙ ap (λ (l : List Entry). c.self.inside.log ++ l) (c.as_slice.ensures.entries ∙ c.entries.ensures))
    c.last_point-last.ensures c.point-self-inside.ensures c.in_ok-self-inside.ensures c.replies.ensures
