-- The fault of a report where a replay has one.
use Rattle.core_replay.specs.declared.fault.ReplayFault.{ReplayFault}
use Rattle.core_replay.specs.declared.fault.ReplayFault.TheVariants as Replay
use Rattle.core_report.specs.declared.fault.ReportFault.{ReportFault}
use Rattle.core_report.specs.declared.fault.ReportFault.TheVariants.{TooWide, NoMemory}

abbrev pub fault_of : ReplayFault → ReportFault
fault_of (Replay.TooWide scenario day) = TooWide scenario day
fault_of Replay.NoMemory = NoMemory
