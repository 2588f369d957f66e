use Rattle.std.proofs.Common.{◌≡◌, ◌↔◌, ◌∙◌, [], true, sym}
use Rattle.aud_know.specs.Known.{linked}
use Rattle.aud_know.proofs.Beyonds.{list_found, none_linked}
use Rattle.aud_know.proofs.parts.has_finding.Goals as goal

pub returns-else-is_some : goal.returns-else-is_some
returns-else-is_some g c =
    let bare : (c.is_empty.result ≡ true) ↔ (c.args.cover.now.value ≡ []) = rw c.deref.ensures at c.is_empty.ensures in
    list_found c.args.cover.now.value (linked c.args.witness.now) c.is_empty.result (none_linked c.args.witness.now (sym c.is_some.ensures ∙ c.if-is_some.false)) bare
