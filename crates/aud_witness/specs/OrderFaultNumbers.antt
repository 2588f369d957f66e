-- The numbers of order faults, and the transactions that they are about.
use Rattle.std.specs.Prelude.{ℕ}
use Rattle.aud_witness.specs.declared.fault.OrderFault.{OrderFault}
use Rattle.aud_witness.specs.declared.fault.OrderFault.TheVariants.{UnknownTx, Twice, FateNotAllowed, RealTime, Illegal, Missing}

abbrev pub order_fault_number : OrderFault → ℕ
order_fault_number (UnknownTx _) = 1
order_fault_number (Twice _) = 2
order_fault_number (FateNotAllowed _) = 3
order_fault_number (RealTime _) = 4
order_fault_number (Illegal _) = 5
order_fault_number (Missing _) = 6

abbrev pub order_fault_transaction : OrderFault → ℕ
order_fault_transaction (UnknownTx t) = t
order_fault_transaction (Twice t) = t
order_fault_transaction (FateNotAllowed t) = t
order_fault_transaction (RealTime t) = t
order_fault_transaction (Illegal t) = t
order_fault_transaction (Missing t) = t
