use Rattle.aud_world.proofs.Tracing.{atoms_taken}
use Rattle.aud_world.proofs.laws.atoms_are_taken.Goals as goal

-- at the end of the moves
pub returns : goal.returns
returns g c = atoms_taken
