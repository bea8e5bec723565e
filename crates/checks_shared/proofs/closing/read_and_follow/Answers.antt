use denote.Param.Send.{sendable}
use Rattle.std.proofs.Crossing as heap
use Rattle.set_program.proofs.Crosses.{pass_send, set_sync}
use Rattle.checks_shared.proofs.Sends.{disk_send}
use Rattle.checks_shared.proofs.closing.read_and_follow.Goals as goal

pub join-read-requires-send-A : goal.join-read-requires-send-A
join-read-requires-send-A g c κs within = search (disk_send, pass_send, heap.crosses, sendable) depth 60 fits 20000

pub join-read-requires-send-F : goal.join-read-requires-send-F
join-read-requires-send-F g c κs within = search (disk_send, set_sync, pass_send, heap.sync, heap.crosses, sendable) depth 60 fits 20000
