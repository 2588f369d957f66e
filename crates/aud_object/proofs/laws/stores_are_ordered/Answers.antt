use Rattle.aud_object.proofs.Orders as law
use Rattle.aud_object.proofs.laws.stores_are_ordered.Goals as goal

pub returns : goal.returns
returns c = law.stores_are_ordered
