-- The numbers of the faults.
use Rattle.std.specs.Prelude.{ℕ}
use Rattle.aud_know.specs.declared.fault.KnowFault.{KnowFault}
use Rattle.aud_know.specs.declared.fault.KnowFault.TheVariants.{PlanMismatch, OutOfMemory}

-- by the order in which they are looked for
abbrev pub know_fault_number : KnowFault → ℕ
know_fault_number PlanMismatch = 1
know_fault_number OutOfMemory = 2
