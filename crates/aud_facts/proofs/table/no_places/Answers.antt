use Rattle.std.proofs.lemmas.List.{get_or-replicate}
use Rattle.aud_event.specs.declared.limits.TheConstants.{LOGS_MAX}
use Rattle.aud_facts.proofs.table.no_places.Goals as goal

pub returns : goal.returns
returns c = λ log lt. get_or-replicate LOGS_MAX log 0 0 lt
