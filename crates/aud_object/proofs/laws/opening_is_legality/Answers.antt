use Rattle.aud_object.proofs.Legality as law
use Rattle.aud_object.proofs.laws.opening_is_legality.Goals as goal

pub returns : goal.returns
returns c = law.opening_is_legality
