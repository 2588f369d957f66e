use Rattle.std.specs.Prelude.{◌↔◌, ◌++◌, ◌∷◌, [], List}
use Rattle.std.specs.List.{Contains}
use Rattle.std.proofs.Common.{sym, ◌∙◌, subst}
use Rattle.cert_earlier.proofs.Beginnings.{member, found, not-found}
use Rattle.cert_earlier.specs.Beginnings.{EarlierOf, decisions_of, prefixes_of}
use Rattle.cert_earlier.specs.declared.earlier.Noted.{Noted}
use Rattle.cert_earlier.proofs.earlier.Earlier.after.Goals as goal

pub returns-in-Some : goal.returns-in-Some
returns-in-Some g c d =
    subst (λ (e : EarlierOf). Contains (decisions_of c.as_slice.result.now) d ↔ Contains e.prefixes (c.args.list.now ++ d ∷ [])) c.self.view_is
    (subst (λ (ns : List Noted). Contains (decisions_of ns) d ↔ Contains (prefixes_of c.self.inside.has_empty c.self.inside.beginnings) (c.args.list.now ++ d ∷ []))
    (found c.self.inside.beginnings c.args.list.now c.of.result c.in-Some.noted.now c.of.ensures c.in-Some.ensures.value ∙ sym c.as_slice.ensures.value)
    (member c.self.inside.has_empty c.self.inside.beginnings c.args.list.now d))

pub returns-in-None : goal.returns-in-None
returns-in-None g c d =
    subst (λ (e : EarlierOf). Contains (decisions_of []) d ↔ Contains e.prefixes (c.args.list.now ++ d ∷ [])) c.self.view_is
    (subst (λ (ns : List Noted). Contains (decisions_of ns) d ↔ Contains (prefixes_of c.self.inside.has_empty c.self.inside.beginnings) (c.args.list.now ++ d ∷ []))
    (not-found c.self.inside.beginnings c.args.list.now c.of.result c.of.ensures c.in-None.ensures.value)
    (member c.self.inside.has_empty c.self.inside.beginnings c.args.list.now d))
