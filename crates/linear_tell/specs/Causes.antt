-- Why a linear read stops when the sink fails.
use Rattle.rs_io.specs.declared.sink.SinkError.{SinkError}
use Rattle.rs_io.specs.declared.sink.SinkError.TheVariants.{Failed, Memory as NoRoom}
use Rattle.linear_tell.specs.declared.stop.LinearStop.{LinearStop}
use Rattle.linear_tell.specs.declared.stop.LinearStop.TheVariants.{WriteFault, Memory}

abbrev pub of_sink : SinkError → LinearStop
of_sink Failed = WriteFault
of_sink NoRoom = Memory
