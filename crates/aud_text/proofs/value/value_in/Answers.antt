use Rattle.std.proofs.Common.{◌∙◌, ap, inr, refl, sym}
use Rattle.serde_json.specs.Read.{read}
use Rattle.aud_text.proofs.JsonText.{json_of-text, json_of-other}
use Rattle.aud_text.proofs.value.value_in.Goals as goal

pub returns-in_default-clause-refused : goal.returns-in_default-clause-refused
returns-in_default-clause-refused c = inr (refl, json_of-other c.args.line.now c.in_default.ensures.cases.0)

pub returns-in-Ok-from_str-clause-ok : goal.returns-in-Ok-from_str-clause-ok
returns-in-Ok-from_str-clause-ok c =
    json_of-text c.args.line.now c.in-Ok.ensures.cases.1 ∙ (ap read (sym c.in-Ok.ensures.cases.0) ∙ c.in-Ok-from_str.ensures.ok)
