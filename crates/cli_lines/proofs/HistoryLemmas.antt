-- What is said of a well-formed history is what is said of its facts.
use Rattle.std.proofs.Common.{◌≡◌, ℕ, Bool, true, false, List, [], Option, Some, None, Result, Ok, Err, IfOk, subst}
use Rattle.aud_event.specs.Meanings.{Declared, PlanOf}
use Rattle.aud_history.specs.Histories.{History}
use Rattle.aud_history.specs.WellFormed.{IsWellFormed}
use Rattle.aud_facts.specs.Sets.{FactsOf, SealedOf, IsSealedWith}
use Rattle.aud_facts.specs.Status.{hist}
use Rattle.aud_witness.specs.Orders.{Opaque, Refuted}
use Rattle.aud_know.proofs.Judging.{answered}
use Rattle.aud_report.specs.declared.said.Said.{Said}
use Rattle.aud_report.specs.declared.said.Said.TheVariants as said
use Rattle.aud_know.specs.declared.verdict.Verdict.TheVariants as verdict
use Rattle.cli_lines.specs.Line.{Answers, SetSays, NoneSays, DecideSays}

pub says_of_facts : (A : Answers) (facts : FactsOf) (v : SealedOf) → v.facts ≡ facts → IsSealedWith facts v.history → IsWellFormed v.history →
    (s : Said) → A v.facts.plan v.history s → SetSays A facts.plan facts.facts s
says_of_facts A facts v is sealed well s says =
    let answer : A facts.plan (hist facts.facts) s =
    subst (λ h. A facts.plan h s) sealed.events (subst (λ (f : FactsOf). A f.plan v.history s) is says) in
    answered said.Verdict facts.plan.logs facts.facts (A facts.plan (hist facts.facts)) s sealed.sealed (subst IsWellFormed sealed.events well) answer

pub if_ok : {X E : Type 0} (P Q : X → Type 0) (r : Result X E) → ((x : X) → P x → Q x) → IfOk r P → IfOk r Q
if_ok P Q (Ok x) on is = on x is
if_ok P Q (Err e) on is = is

pub none-from_refuted : (objects : List Declared) (h : History) → Refuted objects h [] → Opaque objects h → ⊥
none-from_refuted objects h refuted opaque = refuted opaque.0 opaque.1

-- what is said where no order shows is said by decide
pub none-decides : (budget : Option ℕ) (certifying : Bool) (plan : PlanOf) (h : History) (s : Said) → NoneSays certifying plan h s → DecideSays budget certifying plan h s
none-decides budget true plan h (said.Verdict (verdict.Opaque p)) says = absurd says
none-decides budget false plan h (said.Verdict (verdict.Opaque p)) says = absurd says
none-decides budget true plan h (said.Verdict verdict.Unfinished) says = absurd says
none-decides budget false plan h (said.Verdict verdict.Unfinished) says = absurd says
none-decides budget certifying plan h (said.Verdict verdict.NotOpaque) says = says
none-decides budget certifying plan h (said.Verdict (verdict.Conflict kind log at)) says = says
none-decides budget certifying plan h (said.Verdict (verdict.Waiting log)) says = says
none-decides budget certifying plan h (said.Verdict (verdict.Gap stamp)) says = says
none-decides budget certifying plan h (said.Verdict (verdict.IllFormed stamp rule)) says = says
none-decides budget certifying plan h (said.OrderRefused e) says = says
none-decides budget certifying plan h (said.OrderTextRefused e) says = says
none-decides budget certifying plan h (said.PlanRefused e) says = says
none-decides budget certifying plan h (said.RecordRefused line e) says = says
none-decides budget certifying plan h (said.CertificateLineRefused line e) says = says
none-decides budget certifying plan h said.CertificateRefused says = says
none-decides budget certifying plan h (said.Certified c) says = says
none-decides budget certifying plan h (said.Refuted lines) says = says
none-decides budget certifying plan h (said.RefutationLineRefused line) says = says
