use Rattle.safety_laws.proofs.Ever.{committed_logs_chain_ever, majority_reads_chain_ever}
use Rattle.safety_laws.proofs.laws.committed_logs_chain.Goals as goal

pub returns-clause-logs : goal.returns-clause-logs
returns-clause-logs c = committed_logs_chain_ever

pub returns-clause-reads : goal.returns-clause-reads
returns-clause-reads c = majority_reads_chain_ever
