use Rattle.aud_facts.proofs.Quiet.{parts_are_quiet}
use Rattle.aud_facts.proofs.laws.parts_are_quiet.Goals as goal

pub returns : goal.returns
returns c = parts_are_quiet
