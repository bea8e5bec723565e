-- Why a check stops when the source or the sink fails.
use Rattle.rs_io.specs.declared.reading.ReadAllError.{ReadAllError}
use Rattle.rs_io.specs.declared.reading.ReadAllError.TheVariants as reads
use Rattle.rs_io.specs.declared.sink.SinkError.{SinkError}
use Rattle.rs_io.specs.declared.sink.SinkError.TheVariants as sinks
use Rattle.trace_check.specs.declared.stop.CheckStop.{CheckStop}
use Rattle.trace_check.specs.declared.stop.CheckStop.TheVariants.{ReadFault, TooLong, WriteFault, Memory}

abbrev pub of_read : ReadAllError → CheckStop
of_read reads.ReadFault = ReadFault
of_read reads.TooLong = TooLong
of_read reads.Memory = Memory

abbrev pub of_sink : SinkError → CheckStop
of_sink sinks.Failed = WriteFault
of_sink sinks.Memory = Memory
