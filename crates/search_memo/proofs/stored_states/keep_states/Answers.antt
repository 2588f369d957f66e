use Rattle.std.specs.Prelude.{◌++◌, ◌∷◌, [], length}
use Rattle.std.proofs.Common.{sym, ◌∙◌, ap, arith}
use Rattle.aud_order.specs.Shapes.{history_of}
use Rattle.search_memo.specs.StoredStates.{state_from, states_of}
use Rattle.search_memo.proofs.Keeping.{kept-more, kept-there}
use Rattle.search_memo.proofs.stored_states.keep_states.Goals as goal

pub returns-clause-grown : goal.returns-clause-grown
returns-clause-grown g c =
    kept-more (history_of c.args.shape.now) c.args.kept.now.items c.push.new.self.items c.in_ok-fresh.fresh (c.in-Ok.ensures.items ∙ ap (λ l. l ++ c.in_ok-fresh.fresh ∷ []) (c.reserve.ensures.items ∙ c.find_states.ensures.stays))

pub returns-clause-there : goal.returns-clause-there
returns-clause-there g c =
    let h = history_of c.args.shape.now in
    let fresh = c.in_ok-fresh.fresh in
    let same = c.reserve.ensures.items ∙ c.find_states.ensures.stays in
    let long = ap length same in
    kept-there h c.args.kept.now.items c.push.new.self.items fresh c.len-number.result c.args.store.now.now (c.in-Ok.ensures.items ∙ ap (λ l. l ++ fresh ∷ []) same)
    (omega (arith, long, c.reserve.new.list.ok.0, c.len-number.ensures)) (ap (λ l. state_from h (states_of h l) fresh) (sym same ∙ sym c.deref.ensures.value) ∙ c.in_ok-fresh.ensures)
