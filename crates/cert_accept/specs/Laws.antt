-- Laws of the definitions, each the contract of a function of src/laws.rt.
use Rattle.std.specs.Prelude.{List, []}
use Rattle.aud_event.specs.Meanings.{PlanOf}
use Rattle.aud_history.specs.Histories.{History}
use Rattle.aud_history.specs.WellFormed.{IsWellFormed}
use Rattle.aud_history.specs.FirstFault.{IsWithinLimits}
use Rattle.aud_witness.specs.Orders.{Refuted}
use Rattle.cert_accept.specs.declared.cert.CertLine.{CertLine}
use Rattle.cert_accept.specs.Acceptance.{IsAccepted}

-- what is accepted refutes the empty prefix
abbrev pub AcceptedIsRefuted : (X : Type 0) → Type 0
AcceptedIsRefuted X = (plan : PlanOf) (h : History) (lines : List (CertLine X)) → IsWellFormed h → IsWithinLimits plan h →
    IsAccepted plan.objects h lines → Refuted plan.objects h []
