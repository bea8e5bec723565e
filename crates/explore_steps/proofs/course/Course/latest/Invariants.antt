use Rattle.std.proofs.Common.{◌≡◌, List, take}
use Rattle.repl_msg.specs.declared.message.Message.{Message}
use Rattle.set_model.specs.World.{latest_between}
use Rattle.explore_steps.specs.Tables.{AreNumbers, tables_of}
use Rattle.explore_steps.proofs.course.Course.latest.Given as goal

abbrev pub invariant-loop-place : goal.invariant-loop-place
invariant-loop-place l = (messages : List Message) → AreNumbers (tables_of l.steps) l.self.sent.items messages
    → latest_between messages l.from l.to ≡ latest_between (take l.place messages) l.from l.to
