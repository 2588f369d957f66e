use Rattle.std.proofs.Common.{◌≡◌, ◌-◌, true, false, length, arith, sym, ◌∙◌, ap, subst, get_or}
use Rattle.aud_witness.specs.OrderFaults.{least_tx}
use Rattle.aud_witness.proofs.PlacingLemmas.{unplaced-over}
use Rattle.aud_witness.proofs.placing.Placing.least_unplaced.Goals as goal

pub loop-place-preserved : goal.loop-place-preserved
loop-place-preserved g c =
    let rows = c.rows-rows.result.now in
    let placed = c.args.self.now.configuration.placed in
    let n = c.loop-place.place in
    let lengths : length placed ≡ length c.args.self.now.agenda.rows = subst (λ v. length v.configuration.placed ≡ length v.agenda.rows) c.self.view_is c.self.invariant.0 in
    let all : rows ≡ c.args.self.now.agenda.rows = c.rows-rows.ensures ∙ (c.table.ensures ∙ ap (λ v. v.agenda.rows) c.self.view_is) in
    let there : get_or placed (n - 1) false ≡ true = sym c.has_row.ensures ∙ c.if-not-has_row.false in (
      omega (arith, c.loop-place.invariant.0),
      c.loop-place.invariant.1 ∙ ap least_tx (unplaced-over rows placed n (omega (arith, c.loop-place-test.true)) c.loop-place.invariant.0 (lengths ∙ ap length (sym all)) there),
    )
