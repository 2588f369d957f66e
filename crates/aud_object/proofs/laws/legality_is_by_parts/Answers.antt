use Rattle.aud_object.proofs.Legality as law
use Rattle.aud_object.proofs.laws.legality_is_by_parts.Goals as goal

pub returns : goal.returns
returns c = law.legality_is_by_parts
