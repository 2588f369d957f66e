use Rattle.std.specs.Prelude.{◌≡◌, ◌<◌, ◌≤◌, nat_le, length, reverse, slice_index_or}
use Rattle.std.proofs.Common.{sym, ◌∙◌, ap, subst}
use Rattle.aud_witness.specs.declared.end.End.{End}
use Rattle.aud_witness.specs.Configurations.{are_earlier_placed}
use Rattle.aud_witness.proofs.PlacingLemmas.{earlier-by_end, earlier-all_placed, earliest-now, lt_from, not_lt}
use Rattle.aud_witness.proofs.placing.Placing.are_earlier_placed.Goals as goal

pub returns-in-Some : goal.returns-in-Some
returns-in-Some g c =
    let p = c.self.inside in
    let first = earliest-now p.agenda.now.ends p.placed p.store.past p.earliest (reverse p.steps.items) c.self.invariant.2 in
    let inside : p.earliest < length p.agenda.now.ends = subst (λ l. p.earliest < length l) c.ends.ensures.ends (lt_from p.earliest (length c.ends.result.now) (sym c.in-Some.ensures.lookup.0)) in
    let at : c.in-Some.end.now ≡ slice_index_or p.agenda.now.ends p.earliest c.in-Some.end.now =
    c.in-Some.ensures.lookup.1 ∙ ap (λ l. slice_index_or l p.earliest c.in-Some.end.now) c.ends.ensures.ends in
    let by_end = earlier-by_end p.agenda.now.rows p.agenda.now.ends p.placed p.earliest c.args.stamp c.in-Some.end.now c.ends.ensures.sound first c.self.invariant.0 inside in
    ap (λ (y : End). nat_le c.args.stamp y.last) at ∙ sym by_end ∙ ap (λ v. are_earlier_placed v.agenda.rows v.configuration.placed c.args.stamp) c.self.view_is

pub returns-in-None : goal.returns-in-None
returns-in-None g c =
    let p = c.self.inside in
    let first = earliest-now p.agenda.now.ends p.placed p.store.past p.earliest (reverse p.steps.items) c.self.invariant.2 in
    let past : length p.agenda.now.ends ≤ p.earliest = subst (λ l. length l ≤ p.earliest) c.ends.ensures.ends (not_lt p.earliest (length c.ends.result.now) (sym c.in-None.ensures.lookup.0)) in
    sym (earlier-all_placed p.agenda.now.rows p.agenda.now.ends p.placed p.earliest c.args.stamp c.ends.ensures.sound first c.self.invariant.0 past)
    ∙ ap (λ v. are_earlier_placed v.agenda.rows v.configuration.placed c.args.stamp) c.self.view_is
