use Rattle.std.proofs.Common.{ℕ, List, IfSome, subst}
use Rattle.aud_witness.specs.declared.decision.Decision.{Decision}
use Rattle.aud_order.specs.Shapes.{ShapeOf}
use Rattle.cli_findings.specs.Searches.{KnowsEnd}
use Rattle.cli_audit.specs.Searches.{HaveEnded}
use Rattle.cli_audit.proofs.Ending.{was_searched}
use Rattle.cli_audit.proofs.run.findings_of.Goals as goal

pub returns : goal.returns
returns g c =
    let knows = subst (λ o. IfSome o (λ k. (s : ShapeOf) (budget : ℕ) (t : List Decision) → HaveEnded s budget c.search_tasks.new.mesh.crews.items t → KnowsEnd s budget k t)) c.in-Some.is c.in_ok-known.ensures.ends in
    was_searched c.args.facts.now c.args.job.now.budget c.in-Some.known c.in_ok-search.search c.search_tasks.new.mesh.crews.items c.in_ok-search.ensures.search c.in_ok-search.ensures.ended knows
