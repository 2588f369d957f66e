use Rattle.aud_world.proofs.Saying.{headline}
use Rattle.aud_world.proofs.laws.headline_holds.Goals as goal

-- from the laws that were called
pub returns : goal.returns
returns g c = λ count moves w truth s.
    headline c.norm_is_of_set.ensures c.verdict_is_one.ensures c.opaque_is_shown.ensures c.not_opaque_is_refuted.ensures c.parts_are_quiet.ensures c.sealed_is_all.ensures count moves w truth s
