use Rattle.std.proofs.Common.{◌∙◌}
use Rattle.serde_json.specs.View.{view}
use Rattle.aud_json.specs.Keys.{has}
use Rattle.aud_json.proofs.Keys.{all_of_map}
use Rattle.aud_json.proofs.value.has_required.Goals as goal

pub returns : goal.returns
returns c = c.has_each.ensures ∙ all_of_map (λ k. has k (view c.args.value.now)) c.args.keys.now
