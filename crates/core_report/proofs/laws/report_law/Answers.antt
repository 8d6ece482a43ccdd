use Rattle.core_report.proofs.Fixed.{one-report, one-fault, report-or-fault}
use Rattle.core_report.proofs.laws.report_law.Goals as goal

pub returns-clause-one : goal.returns-clause-one
returns-clause-one c = one-report

pub returns-clause-fault : goal.returns-clause-fault
returns-clause-fault c = one-fault

pub returns-clause-apart : goal.returns-clause-apart
returns-clause-apart c = report-or-fault
