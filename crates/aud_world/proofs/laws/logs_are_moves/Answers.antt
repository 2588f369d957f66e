use Rattle.aud_world.proofs.Logging.{held_by}
use Rattle.aud_world.proofs.laws.logs_are_moves.Goals as goal

-- from the laws that were called
pub returns : goal.returns
returns g c = λ plan count n moves log lt h. held_by c.norm_is_of_set.ensures c.norm_absorbs.ensures plan count n moves log lt h
