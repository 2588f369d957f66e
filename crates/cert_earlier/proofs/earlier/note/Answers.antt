use Rattle.std.specs.Prelude.{◌≡◌, List, [], ◌∷◌, ◌++◌}
use Rattle.std.proofs.Common.{◌∙◌, ap, subst, inl}
use Rattle.std.specs.List.{Contains}
use Rattle.cert_earlier.specs.Beginnings.{decisions_of}
use Rattle.cert_earlier.specs.declared.earlier.Noted.{Noted}
use Rattle.cert_earlier.proofs.Beginnings.{found, not-found, written, entered, updated, updated-alone, pushed, pushed-decision, there-before}
use Rattle.cert_earlier.proofs.earlier.note.Goals as goal

pub returns-in_ok-push-clause-noted : goal.returns-in_ok-push-clause-noted
returns-in_ok-push-clause-noted g c =
    let old = c.args.beginnings.now in
    let p = c.args.beginning.now in
    let was = c.in-Some.noted.now in
    let new = c.push.new.self in
    updated old (c.get_mut.follows.lender new) p new was.items c.args.one.decision
    (written old (c.get_mut.follows.lender new) p c.of-key.result was new c.of-key.ensures c.in-Some.ensures.value (c.get_mut.follows.holds new).3)
    (found old p c.of-key.result was c.of-key.ensures c.in-Some.ensures.value)
    (pushed-decision was.items new.items c.args.one c.in_ok-push.ensures.items)

pub returns-else-not-is_among-clause-noted : goal.returns-else-not-is_among-clause-noted
returns-else-not-is_among-clause-noted g c =
    let old = c.args.beginnings.now in
    let p = c.args.beginning.now in
    let was = c.in-Some.noted.now in
    updated old (c.get_mut.follows.lender was) p was was.items c.args.one.decision
    (written old (c.get_mut.follows.lender was) p c.of-key.result was was c.of-key.ensures c.in-Some.ensures.value (c.get_mut.follows.holds was).3)
    (found old p c.of-key.result was c.of-key.ensures c.in-Some.ensures.value)
    (there-before (decisions_of was.items) c.args.one.decision
    (subst (λ (l : List Noted). Contains (decisions_of l) c.args.one.decision) c.deref.ensures.value (c.is_among.ensures.0 c.if-not-is_among.false)))

pub returns-clause-noted : goal.returns-clause-noted
returns-clause-noted g c =
    let old = c.args.beginnings.now in
    let p = c.args.beginning.now in
    let now = c.push-2.new.self in
    let one : now.items ≡ [] ++ c.args.one ∷ [] = c.in_ok-push-2.ensures.items ∙ ap (λ (l : List Noted). l ++ c.args.one ∷ []) c.new-noted.ensures.items in
    updated old c.insert.new.self p now [] c.args.one.decision
    (entered old c.get_mut.follows.lender-at-none c.insert.new.self p c.of.result now (c.of.ensures ∙ c.in_ok-own.ensures) c.get_mut.follows.holds-at-none c.in_ok-insert.ensures.updates)
    (not-found old p c.of-key.result c.of-key.ensures c.in_default.ensures.value) (pushed-decision [] now.items c.args.one one)

pub returns-in_err-push-clause-alone : goal.returns-in_err-push-clause-alone
returns-in_err-push-clause-alone g c =
    let old = c.args.beginnings.now in
    let p = c.args.beginning.now in
    let was = c.in-Some.noted.now in
    let new = c.push.new.self in
    updated-alone old (c.get_mut.follows.lender new) p new was.items c.args.one
    (written old (c.get_mut.follows.lender new) p c.of-key.result was new c.of-key.ensures c.in-Some.ensures.value (c.get_mut.follows.holds new).3)
    (found old p c.of-key.result was c.of-key.ensures c.in-Some.ensures.value) (λ m there. inl (subst (λ (l : List Noted). Contains l m) c.in_err-push.ensures.items there))

pub returns-in_ok-push-clause-alone : goal.returns-in_ok-push-clause-alone
returns-in_ok-push-clause-alone g c =
    let old = c.args.beginnings.now in
    let p = c.args.beginning.now in
    let was = c.in-Some.noted.now in
    let new = c.push.new.self in
    updated-alone old (c.get_mut.follows.lender new) p new was.items c.args.one
    (written old (c.get_mut.follows.lender new) p c.of-key.result was new c.of-key.ensures c.in-Some.ensures.value (c.get_mut.follows.holds new).3)
    (found old p c.of-key.result was c.of-key.ensures c.in-Some.ensures.value) (pushed was.items new.items c.args.one c.in_ok-push.ensures.items)

pub returns-else-not-is_among-clause-alone : goal.returns-else-not-is_among-clause-alone
returns-else-not-is_among-clause-alone g c =
    let old = c.args.beginnings.now in
    let p = c.args.beginning.now in
    let was = c.in-Some.noted.now in
    updated-alone old (c.get_mut.follows.lender was) p was was.items c.args.one
    (written old (c.get_mut.follows.lender was) p c.of-key.result was was c.of-key.ensures c.in-Some.ensures.value (c.get_mut.follows.holds was).3)
    (found old p c.of-key.result was c.of-key.ensures c.in-Some.ensures.value) (λ m there. inl there)

pub returns-clause-alone : goal.returns-clause-alone
returns-clause-alone g c =
    let old = c.args.beginnings.now in
    let p = c.args.beginning.now in
    let now = c.push-2.new.self in
    let one : now.items ≡ [] ++ c.args.one ∷ [] = c.in_ok-push-2.ensures.items ∙ ap (λ (l : List Noted). l ++ c.args.one ∷ []) c.new-noted.ensures.items in
    updated-alone old c.insert.new.self p now [] c.args.one
    (entered old c.get_mut.follows.lender-at-none c.insert.new.self p c.of.result now (c.of.ensures ∙ c.in_ok-own.ensures) c.get_mut.follows.holds-at-none c.in_ok-insert.ensures.updates)
    (not-found old p c.of-key.result c.of-key.ensures c.in_default.ensures.value) (pushed [] now.items c.args.one one)
