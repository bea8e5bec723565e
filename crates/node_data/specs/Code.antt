-- How a proof distinguishes the tables of a node.
use Rattle.std.specs.Coded.{Coded, coded_ℕ}
use Rattle.std.specs.Ordering.{nat_cmp}
use Rattle.std.specs.FinMap as maps
use Rattle.std.specs.FinSet as sets
use Rattle.rs_optime.specs.Order.{optime_cmp, optime_code}
use Rattle.repl_msg.specs.contracts.message.Report.{the_row as report_row}
use Rattle.set_model.specs.Node.{Report}
pub use Rattle.repl_msg.specs.Code.{known_code, tally_code}
pub use Rattle.node_data.specs.Writers.{writers_code}

abbrev pub slots_code : Coded (sets.FinSet optime_cmp)
slots_code = sets.code optime_code

abbrev pub progress_code : Coded (maps.FinMap nat_cmp Report)
progress_code = maps.code coded_ℕ report_row.coded
