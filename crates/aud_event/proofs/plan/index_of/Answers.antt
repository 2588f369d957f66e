use Rattle.std.specs.Prelude.{◌≡◌, suc, ◌+◌, [], ◌∷◌, ◌++◌, length, Some, None, true, false, string_bytes}
use Rattle.std.specs.BTreeMap.{get_by_text}
use Rattle.std.proofs.Common.{sym, ◌∙◌, ap, subst, arith, take, drop}
use Rattle.std.proofs.lemmas.List.{take_more, take-append-drop, length-take-le}
use Rattle.std.proofs.lemmas.Map.Text.{btree_map_updates_text}
use Rattle.std.proofs.Math.Seq.{drop-cons}
use Rattle.aud_event.specs.Plans.{names_differ, number_of, IsIndex}
use Rattle.aud_event.proofs.Names.{index-step, names_differ-push, names_differ-twice, none_from, some_from}
use Rattle.aud_event.proofs.plan.index_of.Goals as goal

-- the name stood among the objects before
pub returns-then-is_some : goal.returns-then-is_some
returns-then-is_some g c =
    let objects = c.args.objects.now in
    let i = c.loop-number.number in
    let d = c.index-objects-number.result in
    let bs = string_bytes c.in_ok-name.name in
    let named : bs ≡ d.name = c.in_ok-name.ensures.cases ∙ ap (λ o. o.name) c.decl.view_is in
    let old : get_by_text c.loop-number.numbers bs ≡ c.in_ok-insert.field-0 = sym c.in_ok-insert.ensures.old in
    let found = some_from c.in_ok-insert.field-0 (sym c.is_some.ensures ∙ c.if-is_some.true) in
    let there : number_of d.name (take i objects) ≡ Some found.0 = subst (λ n. number_of n (take i objects) ≡ Some found.0) named (sym (c.loop-number.invariant.1 bs) ∙ old ∙ found.1) in
    let rest : drop i objects ≡ d ∷ drop (suc i) objects = drop-cons objects i d (omega arith) ∙ ap (λ x. x ∷ drop (suc i) objects) (sym c.index-objects-number.is) in
    let whole : take i objects ++ d ∷ drop (suc i) objects ≡ objects = ap (λ ys. take i objects ++ ys) (sym rest) ∙ take-append-drop i objects in
    subst (λ xs. names_differ xs ≡ false) whole (names_differ-twice (take i objects) d (drop (suc i) objects) found.0 there)

pub loop-number-preserved : goal.loop-number-preserved
loop-number-preserved g c =
    let objects = c.args.objects.now in
    let i = c.loop-number.number in
    let d = c.index-objects-number.result in
    let bs = string_bytes c.in_ok-name.name in
    let named : bs ≡ d.name = c.in_ok-name.ensures.cases ∙ ap (λ o. o.name) c.decl.view_is in
    let fresh : get_by_text c.loop-number.numbers bs ≡ None = sym c.in_ok-insert.ensures.old ∙ none_from c.in_ok-insert.field-0 (sym c.is_some.ensures ∙ c.if-is_some.false) in
    let absent : number_of d.name (take i objects) ≡ None = subst (λ n. number_of n (take i objects) ≡ None) named (sym (c.loop-number.invariant.1 bs) ∙ fresh) in
    let more : take (i + 1) objects ≡ take i objects ++ d ∷ [] = take_more objects i d (omega arith) ∙ ap (λ x. take i objects ++ x ∷ []) (sym c.index-objects-number.is) in
    let differ : names_differ (take (i + 1) objects) ≡ true = subst (λ xs. names_differ xs ≡ true) (sym more) (names_differ-push (take i objects) d c.loop-number.invariant.0 absent) in
    let count : length (take i objects) ≡ i = length-take-le i objects (omega arith) in
    let step = btree_map_updates_text bs c.loop-number.numbers c.insert.new.self (Some i) c.in_ok-insert.ensures.updates in
    let index : IsIndex c.insert.new.self (take i objects ++ d ∷ []) =
    index-step (get_by_text c.loop-number.numbers) (get_by_text c.insert.new.self) bs (take i objects) d i named count c.loop-number.invariant.1 fresh step in
    (differ, subst (λ xs. IsIndex c.insert.new.self xs) (sym more) index)
