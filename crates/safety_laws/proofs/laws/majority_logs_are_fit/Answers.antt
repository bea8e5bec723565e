use Rattle.safety_laws.proofs.Ever.{majority_logs_fit_ever}
use Rattle.safety_laws.proofs.laws.majority_logs_are_fit.Goals as goal

pub returns : goal.returns
returns c = majority_logs_fit_ever
