use Rattle.std.proofs.Common.{subst}
use Rattle.aud_know.specs.declared.verdict.Verdict.{Verdict}
use Rattle.aud_know.specs.Verdicts.{IsVerdict}
use Rattle.aud_know.proofs.Judging.{opaque_shown, not_opaque_refuted}
use Rattle.aud_know.proofs.knowledge.Knowledge.verdict.Goals as goal

pub returns-clause-opaque : goal.returns-clause-opaque
returns-clause-opaque g c p is =
    opaque_shown c.quiet_is_no_conflict.ensures g.row.A.Denot c.args.self.now p c.facts-facts.ensures.is_true
    (subst (λ (v : Verdict g.row.A.Denot). IsVerdict c.args.self.now v) is c.in_ok-verdict.ensures)

pub returns-clause-not_opaque : goal.returns-clause-not_opaque
returns-clause-not_opaque g c is =
    not_opaque_refuted c.quiet_is_no_conflict.ensures c.closed_is_refuted.ensures g.row.A.Denot c.args.self.now c.facts-facts.ensures.is_true
    (subst (λ (v : Verdict g.row.A.Denot). IsVerdict c.args.self.now v) is c.in_ok-verdict.ensures)
