use Rattle.aud_facts.proofs.Grown.{sealed_is_full}
use Rattle.aud_facts.proofs.laws.sealed_is_full.Goals as goal

pub returns : goal.returns
returns c = sealed_is_full
