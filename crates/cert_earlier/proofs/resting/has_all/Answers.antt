use Rattle.std.specs.Prelude.{◌++◌, ◌∷◌, [], refl}
use Rattle.std.proofs.Common.{get_or}
use Rattle.cert_earlier.proofs.Reported.{all-not, all-more}
use Rattle.cert_earlier.proofs.Placing.{no_decision}
use Rattle.cert_earlier.proofs.resting.has_all.Goals as goal

pub returns-then-not-is_among : goal.returns-then-not-is_among
returns-then-not-is_among g c =
    let p = c.args.prefix.now in
    let ks = c.args.kids.now in
    let n = c.loop-kid.kid-index in
    let kid = get_or ks n no_decision in
    let noted = c.after-noted.ensures kid in
    all-not c.args.earlier.now.prefixes p ks n (p ++ kid ∷ []) c.is_among.result c.loop-kid-test.true refl
    ((λ holds. noted.0 (c.is_among.ensures.0 holds)), λ there. c.is_among.ensures.1 (noted.1 there)) c.if-not-is_among.true

pub loop-kid-preserved : goal.loop-kid-preserved
loop-kid-preserved g c =
    let p = c.args.prefix.now in
    let ks = c.args.kids.now in
    let n = c.loop-kid.kid-index in
    let kid = get_or ks n no_decision in
    let noted = c.after-noted.ensures kid in
    all-more c.args.earlier.now.prefixes p ks n (p ++ kid ∷ []) c.is_among.result c.loop-kid-test.true refl
    ((λ holds. noted.0 (c.is_among.ensures.0 holds)), λ there. c.is_among.ensures.1 (noted.1 there)) c.if-not-is_among.false c.loop-kid.invariant
