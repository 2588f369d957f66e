use Rattle.std.proofs.Common.{◌∙◌}
use Rattle.aud_json.proofs.Keys.{only_of_entries}
use Rattle.aud_json.proofs.value.has_only_allowed.Goals as goal

pub returns : goal.returns
returns c = c.has_no_other.ensures ∙ only_of_entries c.args.keys.now c.args.members.now.entries
