-- What may go to another thread.
use denote.Param.Send.{IsSend, sendable}
use Rattle.std.proofs.Crossing as heap
use Rattle.rs_disk.specs.contracts.memory.MemDisk as memory
use Rattle.rs_disk.proofs.past.Past.TheSendSync.{the_send as past_send}

pub disk_send : IsSend memory.the_row
disk_send = search (heap.crosses, past_send, sendable) depth 60 fits 20000
