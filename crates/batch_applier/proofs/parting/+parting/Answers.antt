use denote.Param.Send.{sendable}
use Rattle.std.proofs.Crossing as heap
use Rattle.batch_applier.proofs.Crosses.{piece_send, touches_send}
use Rattle.batch_applier.proofs.parting.+parting.Goals as goal

pub join-last-requires-send-F : goal.join-last-requires-send-F
join-last-requires-send-F g t c κs within = search (piece_send, heap.crosses, sendable) depth 40 fits 20000

pub join-last-requires-send-A : goal.join-last-requires-send-A
join-last-requires-send-A g t c κs within = search (touches_send, heap.crosses, sendable) depth 40 fits 20000
