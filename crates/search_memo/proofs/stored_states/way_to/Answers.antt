use Rattle.std.specs.Prelude.{◌≡◌, ◌<◌, ◌++◌, ◌∷◌, [], true, not, nat_lt, length}
use Rattle.std.specs.Result.{is_ok}
use Rattle.std.proofs.Common.{◌∙◌, ap, arith}
use Rattle.std.proofs.lemmas.Bool.Decides.{nat_tests}
use Rattle.search_memo.proofs.Keeping.{way-start, way-back}
use Rattle.search_memo.proofs.stored_states.way_to.Goals as goal

pub loop-number-init : goal.loop-number-init
loop-number-init g c = λ h. way-start h c.args.kept.now c.args.number c.clear.new.self.items c.clear.ensures.items

pub returns-in-Whole : goal.returns-in-Whole
returns-in-Whole g c =
    let test : true ≡ nat_lt c.loop-number.at (length c.args.kept.now) = c.in_ok-step.ensures.lookup.0 in
    let inside : c.loop-number.at < length c.args.kept.now = grind (arith, nat_tests) in
    λ h. c.loop-number.invariant h inside

pub loop-number-preserved : goal.loop-number-preserved
loop-number-preserved g c =
    let test : true ≡ nat_lt c.loop-number.at (length c.args.kept.now) = c.in_ok-step.ensures.lookup.0 in
    let inside : c.loop-number.at < length c.args.kept.now = grind (arith, nat_tests) in
    let pushed : is_ok c.push.result ≡ true = c.is_err.ensures.negation ∙ ap not c.if-is_err.false in
    let grown : c.push.new.self.items ≡ c.loop-number.way.items ++ c.in-After.step.tx ∷ [] = rw pushed at c.push.ensures.items in
    λ h. way-back h c.args.kept.now c.loop-number.at c.args.number c.in_ok-step.field-0.now c.in_ok-step.field-0.now c.in-After.step c.in-After.field-1 c.loop-number.way.items c.push.new.self.items inside c.in_ok-step.ensures.lookup.1 c.in-After.is c.if-step-at.false grown
    (c.loop-number.invariant h)
