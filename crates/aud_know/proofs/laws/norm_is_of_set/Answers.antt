use Rattle.aud_event.specs.Exactness.{fact_exact}
use Rattle.aud_witness.specs.DecisionOrder.{decisions_total, decision_exact}
use Rattle.aud_know.proofs.Keeping.{fact_total}
use Rattle.aud_know.proofs.Norming.{norm_same}
use Rattle.aud_know.proofs.laws.norm_is_of_set.Goals as goal

pub returns : goal.returns
returns c = norm_same fact_total fact_exact decisions_total decision_exact
