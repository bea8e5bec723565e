use Rattle.std.proofs.Common.{◌≡◌, filter, not, take}
use Rattle.explore_steps.proofs.Reading.{dead_number}
use Rattle.explore_steps.proofs.steps.Steps.still_live.Given as goal

abbrev pub invariant-loop-message : goal.invariant-loop-message
invariant-loop-message l = l.live.items ≡ filter (λ number. not (dead_number l.self.messages l.node number)) (take l.message-index l.message-items)
