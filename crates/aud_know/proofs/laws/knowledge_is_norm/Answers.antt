use Rattle.aud_event.specs.Exactness.{fact_exact}
use Rattle.aud_witness.specs.DecisionOrder.{decisions_total, decision_exact}
use Rattle.std.proofs.Common.{sym}
use Rattle.aud_know.proofs.Keeping.{fact_total}
use Rattle.aud_know.proofs.Norming.{norm_atoms}
use Rattle.aud_know.proofs.laws.knowledge_is_norm.Goals as goal

pub returns : goal.returns
returns c = λ k truth i. record { plan = k.plan; held = sym (norm_atoms fact_total fact_exact decisions_total decision_exact k.held truth.normal) i }
