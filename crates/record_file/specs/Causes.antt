-- The error of a record file for each error of its disk.
use Rattle.rs_disk.specs.declared.disk.DiskError.{DiskError}
use Rattle.rs_disk.specs.declared.disk.DiskError.TheVariants.{Failed, Memory}
use Rattle.record_file.specs.declared.error.FileError.{FileError}
use Rattle.record_file.specs.declared.error.FileError.TheVariants.{Disk, Memory as NoMemory}

-- what a record file answers for this error of its disk
abbrev pub file_error : DiskError → FileError
file_error Failed = Disk
file_error Memory = NoMemory
