use Rattle.std.specs.Prelude.{◌↔◌, IsTrue, List}
use Rattle.std.specs.List.{Contains}
use Rattle.std.proofs.Common.{sym, subst}
use Rattle.std.proofs.lemmas.List.{nil_from_length}
use Rattle.aud_witness.specs.declared.decision.Decision.{Decision}
use Rattle.cert_earlier.proofs.Beginnings.{member-empty}
use Rattle.cert_earlier.specs.Beginnings.{EarlierOf, prefixes_of}
use Rattle.cert_earlier.proofs.earlier.Earlier.has.Goals as goal

pub returns-in-None : goal.returns-in-None
returns-in-None g c =
    subst (λ (e : EarlierOf). IsTrue c.self.inside.has_empty ↔ Contains e.prefixes c.args.prefix.now) c.self.view_is
    (subst (λ (p : List Decision). IsTrue c.self.inside.has_empty ↔ Contains (prefixes_of c.self.inside.has_empty c.self.inside.beginnings) p) (sym (nil_from_length c.args.prefix.now c.in-None.ensures.cases))
    (member-empty c.self.inside.has_empty c.self.inside.beginnings))
