use Rattle.std.specs.Prelude.{◌≡◌, ◌↔◌, ◌⊎◌, true, List}
use Rattle.std.specs.List.{Contains}
use Rattle.std.proofs.Common.{sym, ap, subst}
use Rattle.std.proofs.lemmas.List.{nil_from_length}
use Rattle.aud_witness.specs.declared.decision.Decision.{Decision}
use Rattle.cert_earlier.proofs.Beginnings.{grown-ok, with-empty, landed-stay, landed-more, own-landing}
use Rattle.cert_earlier.specs.Beginnings.{EarlierOf, prefixes_of}
use Rattle.cert_earlier.proofs.earlier.Earlier.add.Goals as goal

pub returns-in_default-clause-prefixes : goal.returns-in_default-clause-prefixes
returns-in_default-clause-prefixes g c p =
    subst (λ (e : EarlierOf). Contains (prefixes_of true c.self.inside.beginnings) p ↔ (Contains e.prefixes p ⊎ (p ≡ c.args.prefix.now))) c.self.view_is
    (subst (λ (q : List Decision). Contains (prefixes_of true c.self.inside.beginnings) p ↔ (Contains (prefixes_of c.self.inside.has_empty c.self.inside.beginnings) p ⊎ (p ≡ q)))
    (sym (nil_from_length c.args.prefix.now c.in_default.ensures.cases))
    (with-empty c.self.inside.has_empty c.self.inside.beginnings p))

pub invariant_of-self-in_err-landing : goal.invariant_of-self-in_err-landing
invariant_of-self-in_err-landing g c =
    landed-stay c.self.inside.shape.now c.self.inside.landings.items c.keep.new.landings.items c.self.inside.beginnings c.self.invariant c.keep.ensures.stays

pub invariant_of-self-2 : goal.invariant_of-self-2
invariant_of-self-2 g c =
    landed-more c.self.inside.shape.now c.self.inside.landings.items c.keep.new.landings.items c.self.inside.beginnings c.note.new.beginnings c.in-Some.list.now _
    c.self.invariant c.keep.ensures.stays c.note.ensures.alone
    (own-landing c.self.inside.shape.now c.args.self.now c.keep.new.landings.items c.args.prefix.now c.in-Some.list.now c.in-Some.last.now c.args.landing c.in_ok-landing.landing
    (ap (λ (e : EarlierOf). e.shape) c.self.view_is) c.in-Some.ensures.cases.0 c.requires c.in_ok-landing.ensures.kept)

pub returns-clause-prefixes : goal.returns-clause-prefixes
returns-clause-prefixes g c =
    grown-ok c.note.result c.self.inside.has_empty c.self.inside.beginnings c.note.new.beginnings c.self.inside.shape.now c.args.self.now c.args.prefix.now c.in-Some.list.now c.in-Some.last.now
    c.self.view_is c.in-Some.ensures.cases.0 c.note.ensures.noted
