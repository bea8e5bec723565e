-- Why no member is made when the sink fails.
use Rattle.rs_io.specs.declared.sink.SinkError.{SinkError}
use Rattle.rs_io.specs.declared.sink.SinkError.TheVariants.{Failed, Memory as NoRoom}
use Rattle.sync_words.specs.declared.stop.SyncStop.{SyncStop}
use Rattle.sync_words.specs.declared.stop.SyncStop.TheVariants.{WriteFault, Memory}

abbrev pub of_sink : SinkError → SyncStop
of_sink Failed = WriteFault
of_sink NoRoom = Memory
