use Rattle.std.proofs.Common.{◌∙◌, ap}
use Rattle.std.specs.Prelude.{not}
use Rattle.std.specs.List.{list_any}
use Rattle.aud_facts.specs.Status.{is_mark_within}
use Rattle.aud_facts.proofs.conflict.is_short.Goals as goal

pub returns : goal.returns
returns g c = ap not (c.is_past_bound.ensures ∙ ap (λ n. list_any (is_mark_within c.args.log n) c.args.set.now) (c.requires.survey.counts c.args.log c.requires.log))
