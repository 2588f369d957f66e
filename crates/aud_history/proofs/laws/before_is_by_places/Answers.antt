use Rattle.aud_history.proofs.ByPlaces.{IsBefore-from_test, test-from_IsBefore}
use Rattle.aud_history.proofs.laws.before_is_by_places.Goals as goal

pub returns : goal.returns
returns c = λ h t u. (IsBefore-from_test h t u, test-from_IsBefore h t u)
