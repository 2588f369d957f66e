use Rattle.aud_world.proofs.Making.{made}
use Rattle.aud_world.proofs.laws.quiet_is_made.Goals as goal

-- from the laws that were called
pub returns : goal.returns
returns g c = λ plan held k quiet. made _ c.norm_is_of_set.ensures c.knowledge_is_norm.ensures plan held k quiet
