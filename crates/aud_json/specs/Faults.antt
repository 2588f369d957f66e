-- The numbers under which faults are reported.
use Rattle.std.specs.Prelude.{ℕ, Option, Some, None}
use Rattle.aud_event.specs.Facts.{fact_fault_number}
use Rattle.aud_event.specs.Plans.{plan_fault_number}
use Rattle.aud_json.specs.declared.fault.TextFault.{TextFault}
use Rattle.aud_json.specs.declared.fault.TextFault.TheVariants as fault

-- the number of a text's fault
abbrev pub fault_number : TextFault → ℕ
fault_number fault.TooLong = 1
fault_number fault.NotJson = 2
fault_number fault.NotObject = 3
fault_number fault.KeyMissing = 4
fault_number fault.KeyUnknown = 5
fault_number fault.TypeOrRange = 6
fault_number fault.UnknownWord = 7
fault_number (fault.Fact _) = 8
fault_number fault.OutOfMemory = 9
fault_number (fault.Plan _) = 10

-- the number that is reported after 8 and after 10
abbrev pub inner_number : TextFault → Option ℕ
inner_number (fault.Fact e) = Some (fact_fault_number e)
inner_number (fault.Plan e) = Some (plan_fault_number e)
inner_number _ = None
