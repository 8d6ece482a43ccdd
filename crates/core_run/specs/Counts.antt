-- How many pivots an answer names.
use Rattle.std.specs.Prelude.{ℕ, Result, Ok, Err}
use Rattle.core_run.specs.declared.end.End.{End}
use Rattle.core_run.specs.declared.end.End.TheVariants as end
use Rattle.core_run.specs.declared.end.RunFault.{RunFault}
use Rattle.core_run.specs.declared.end.RunFault.TheVariants as fault

-- the number of pivots that an answer names, and 0 for want of memory
abbrev pub pivots_named : Result End RunFault → ℕ
pivots_named (Ok (end.Optimal k)) = k
pivots_named (Ok (end.Cannot r k)) = k
pivots_named (Err (fault.TooWide k)) = k
pivots_named (Err (fault.Spent k)) = k
pivots_named (Err fault.NoMemory) = 0
