-- The numbers of the faults.
use Rattle.std.specs.Prelude.{ℕ}
use Rattle.aud_gossip.specs.declared.fault.SinceFault.{SinceFault}
use Rattle.aud_gossip.specs.declared.fault.SinceFault.TheVariants.{PlanMismatch, OutOfMemory}

-- by the order in which they are looked for
abbrev pub since_fault_number : SinceFault → ℕ
since_fault_number PlanMismatch = 1
since_fault_number OutOfMemory = 2
