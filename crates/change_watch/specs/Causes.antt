-- Why a watch stops when a lower layer refuses.
use Rattle.rs_io.specs.declared.sink.SinkError.{SinkError}
use Rattle.rs_io.specs.declared.sink.SinkError.TheVariants.{Failed, Memory as NoRoom}
use Rattle.change_stream.specs.declared.error.WatchError.{WatchError}
use Rattle.change_stream.specs.declared.error.WatchError.TheVariants as errors
use Rattle.change_words.specs.declared.refusal.WatchRefusal.TheVariants.{NodeDown, UnknownToken}
use Rattle.change_watch.specs.declared.stop.WatchStop.{WatchStop}
use Rattle.change_watch.specs.declared.stop.WatchStop.TheVariants.{Refused, WriteFault, Memory}

abbrev pub of_sink : SinkError → WatchStop
of_sink Failed = WriteFault
of_sink NoRoom = Memory

abbrev pub of_stream : WatchError → WatchStop
of_stream errors.NodeDown = Refused NodeDown
of_stream errors.UnknownToken = Refused UnknownToken
of_stream errors.HistoryFull = Memory
of_stream errors.Memory = Memory
