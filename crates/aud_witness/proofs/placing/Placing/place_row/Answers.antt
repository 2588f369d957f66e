use Rattle.std.specs.Prelude.{◌≡◌, ◌<◌, ◌≤◌, ◌+◌, Some, true, false, ◌∷◌, ◌++◌, [], length, reverse, slice_index_or, slice_set}
use Rattle.std.proofs.Common.{sym, ◌∙◌, ap, subst, length-set, length-append}
use Rattle.aud_object.specs.Replayed.{replayed}
use Rattle.aud_witness.specs.Agendas.{IsEarliest}
use Rattle.aud_witness.specs.Placings.{CanGoBack}
use Rattle.aud_witness.proofs.PlacingLemmas.{earliest-now, before-kept, step_of, back-pushed, advanced, advanced-view, tried}
use Rattle.aud_witness.proofs.placing.Placing.place_row.Goals as goal

pub earliest_from-self-inside-requires-clause-within : goal.earliest_from-self-inside-requires-clause-within
earliest_from-self-inside-requires-clause-within g c =
    let p = c.self.inside in
    let first = earliest-now p.agenda.now.ends p.placed p.store.past p.earliest (reverse p.steps.items) c.self.invariant.2 in
    subst (λ l. p.earliest ≤ length l) (sym c.ends.ensures.ends) first.within

pub earliest_from-self-inside-requires-clause-before : goal.earliest_from-self-inside-requires-clause-before
earliest_from-self-inside-requires-clause-before g c = λ k d below.
    let p = c.self.inside in
    let first = earliest-now p.agenda.now.ends p.placed p.store.past p.earliest (reverse p.steps.items) c.self.invariant.2 in
    let kept = before-kept p.agenda.now.ends p.placed p.earliest c.args.place first k d below in
    subst (λ l. slice_index_or l (slice_index_or c.ends.result.now k d).row false ≡ true) (sym c.put.ensures)
    (subst (λ l. slice_index_or (slice_set p.placed c.args.place true) (slice_index_or l k d).row false ≡ true) (sym c.ends.ensures.ends) kept)

pub invariant_of-self-2 : goal.invariant_of-self-2
invariant_of-self-2 g c =
    let p = c.self.inside in
    let k = c.args.place in
    let inside : k < length p.placed = subst (λ v. k < length v.configuration.placed) (sym c.self.view_is) c.requires.inside in
    let fresh : slice_index_or p.placed k false ≡ false = subst (λ v. slice_index_or v.configuration.placed k false ≡ false) (sym c.self.view_is) c.requires.fresh in
    let first : IsEarliest p.agenda.now.ends (slice_set p.placed k true) c.earliest_from-self-inside.result =
    subst (λ l. IsEarliest l (slice_set p.placed k true) c.earliest_from-self-inside.result) c.ends.ensures.ends
    (subst (λ l. IsEarliest c.ends.result.now l c.earliest_from-self-inside.result) c.put.ensures c.earliest_from-self-inside.ensures) in
    let ran = tried (replayed p.store.now c.block.result.now) c.in_ok-try_block.field-0 c.args.decision.fate p.store c.try_block.new.store c.in_ok-try_block.ensures.right c.if-not-branch.false in
    let steps : c.push_within.new.list.items ≡ p.steps.items ++ step_of k c.args.decision.fate p.earliest ∷ [] =
    c.push_within.ensures ∙ ap (λ l. l ++ record { row = k; is_kept = c.is_kept.result; earliest = p.earliest } ∷ []) c.in_ok-reserve.ensures.items
    ∙ ap (λ b. p.steps.items ++ record { row = k; is_kept = b; earliest = p.earliest } ∷ []) c.is_kept.ensures in
    let path : c.push_within-2.new.list.items ≡ p.path.items ++ c.args.decision ∷ [] = c.push_within-2.ensures ∙ ap (λ l. l ++ c.args.decision ∷ []) c.in_ok-reserve-2.ensures.items in
    let long : length c.push_within-2.new.list.items ≡ length c.push_within.new.list.items =
    ap length path ∙ length-append p.path.items (c.args.decision ∷ []) ∙ ap (λ n. n + 1) c.self.invariant.1 ∙ sym (ap length steps ∙ length-append p.steps.items (step_of k c.args.decision.fate p.earliest ∷ [])) in (
      ap length c.put.ensures ∙ length-set p.placed k true ∙ c.self.invariant.0,
      long,
      subst (λ l. CanGoBack p.agenda.now.ends l c.try_block.new.store.past c.earliest_from-self-inside.result (reverse c.push_within.new.list.items)) (sym c.put.ensures)
          (back-pushed p.agenda.now.ends p.placed p.store c.try_block.new.store ran.0 p.earliest c.earliest_from-self-inside.result k c.args.decision.fate p.steps.items c.push_within.new.list.items
          inside fresh first c.self.invariant.2 ran.1.1 steps),
    )

pub returns-clause-placed : goal.returns-clause-placed
returns-clause-placed g c =
    let p = c.self.inside in
    let k = c.args.place in
    let d = c.args.decision in
    let fresh : slice_index_or p.placed k false ≡ false = subst (λ v. slice_index_or v.configuration.placed k false ≡ false) (sym c.self.view_is) c.requires.fresh in
    let ran = tried (replayed p.store.now c.block.result.now) c.in_ok-try_block.field-0 d.fate p.store c.try_block.new.store c.in_ok-try_block.ensures.right c.if-not-branch.false in
    let steps : c.push_within.new.list.items ≡ p.steps.items ++ step_of k d.fate p.earliest ∷ [] =
    c.push_within.ensures ∙ ap (λ l. l ++ record { row = k; is_kept = c.is_kept.result; earliest = p.earliest } ∷ []) c.in_ok-reserve.ensures.items
    ∙ ap (λ b. p.steps.items ++ record { row = k; is_kept = b; earliest = p.earliest } ∷ []) c.is_kept.ensures in
    let path : c.push_within-2.new.list.items ≡ p.path.items ++ d ∷ [] = c.push_within-2.ensures ∙ ap (λ l. l ++ d ∷ []) c.in_ok-reserve-2.ensures.items in
    let runs : replayed p.store.now c.args.row.now.block ≡ Some ran.0 = subst (λ b. replayed p.store.now b ≡ Some ran.0) c.block.ensures ran.1.0 in
    rw c.put.ensures
    (advanced-view _ c.args.self.now _ d k c.args.row.now c.self.view_is
    (advanced p.agenda.now p.placed p.store c.try_block.new.store ran.0 p.path.items c.push_within-2.new.list.items p.earliest k d c.args.row.now p.steps.items c.push_within.new.list.items fresh runs ran.1.1 steps path))
