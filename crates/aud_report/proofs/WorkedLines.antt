-- The lines of worked answers.
use Rattle.std.proofs.Common.{◌≡◌, [], ◌∷◌, refl}
use Rattle.std.specs.Prelude.{codes}
use Rattle.std.specs.Fmt.{digits}
use Rattle.aud_event.specs.declared.fact.FactFault.TheVariants.{TxRange}
use Rattle.aud_event.specs.declared.plan.PlanFault.TheVariants.{TooManyLogs}
use Rattle.aud_facts.specs.declared.status.Kind.TheVariants.{TwoRecords, StampOrder}
use Rattle.aud_history.specs.declared.rule.Rule.TheVariants.{AbortWithoutCause}
use Rattle.aud_json.specs.declared.fault.TextFault.TheVariants as fault
use Rattle.aud_witness.specs.declared.decision.Fate.TheVariants.{C, A}
use Rattle.aud_witness.specs.declared.fault.OrderFault.TheVariants.{RealTime}
use Rattle.aud_know.specs.declared.verdict.Verdict.TheVariants.{Opaque, NotOpaque, Unfinished, Conflict, Waiting, Gap, IllFormed}
use Rattle.aud_report.specs.Lines.{line_of}
use Rattle.aud_report.specs.declared.said.Said.TheVariants.{Verdict, OrderRefused, OrderTextRefused, PlanRefused, RecordRefused}

opaque_none : line_of (Verdict (Opaque [])) ≡ codes "opaque none\n"
opaque_none = refl

opaque_two : line_of (Verdict (Opaque (record { tx = 1; fate = C } ∷ record { tx = 2; fate = A } ∷ []))) ≡ codes "opaque 1c 2a\n"
unfolding digits
opaque_two = refl

not_opaque : line_of (Verdict NotOpaque) ≡ codes "not opaque\n"
not_opaque = refl

unfinished : line_of (Verdict Unfinished) ≡ codes "unfinished\n"
unfinished = refl

two_records : line_of (Verdict (Conflict TwoRecords 0 0)) ≡ codes "conflict 1 at log 0 place 0\n"
unfolding digits
two_records = refl

stamp_order : line_of (Verdict (Conflict StampOrder 63 4095)) ≡ codes "conflict 5 at log 63 place 4095\n"
unfolding digits
stamp_order = refl

waiting : line_of (Verdict (Waiting 1)) ≡ codes "waiting for log 1\n"
unfolding digits
waiting = refl

gap : line_of (Verdict (Gap 0)) ≡ codes "gap at stamp 0\n"
unfolding digits
gap = refl

ill_formed : line_of (Verdict (IllFormed 2 AbortWithoutCause)) ≡ codes "ill-formed rule 8 at stamp 2\n"
unfolding digits
ill_formed = refl

order_refused : line_of (OrderRefused (RealTime 2)) ≡ codes "order refused 4 tx 2\n"
unfolding digits
order_refused = refl

order_text_refused : line_of (OrderTextRefused fault.UnknownWord) ≡ codes "order text refused 7\n"
unfolding digits
order_text_refused = refl

plan_refused : line_of (PlanRefused (record { line = 1; fault = fault.Plan TooManyLogs })) ≡ codes "plan line 1 refused 10 2\n"
unfolding digits
plan_refused = refl

record_refused : line_of (RecordRefused 3 (fault.Fact TxRange)) ≡ codes "record line 3 refused 8 4\n"
unfolding digits
record_refused = refl
