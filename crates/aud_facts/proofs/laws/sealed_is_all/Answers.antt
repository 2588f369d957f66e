use Rattle.aud_facts.proofs.Quiet.{sealed_is_all}
use Rattle.aud_facts.proofs.laws.sealed_is_all.Goals as goal

pub returns : goal.returns
returns c = sealed_is_all
