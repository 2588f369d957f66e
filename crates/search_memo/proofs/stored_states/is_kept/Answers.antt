use Rattle.std.specs.Prelude.{reverse}
use Rattle.std.proofs.Common.{subst, List, ℕ}
use Rattle.aud_order.specs.Shapes.{history_of}
use Rattle.search_memo.specs.StoredStates.{LeadsFrom, IsWay, states_of}
use Rattle.search_memo.proofs.Keeping.{transitions-way}
use Rattle.search_memo.proofs.stored_states.is_kept.Goals as goal

pub returns-in-Some-get_mut-clause-reported : goal.returns-in-Some-get_mut-clause-reported
returns-in-Some-get_mut-clause-reported g c =
    let h = history_of c.args.shape.now in
    let whole = c.in-Some-get_mut.whole.now in
    let way = c.way_to.new.way.items in
    λ it. transitions-way h c.args.kept.now.items c.in-Some.first c.args.number whole whole (reverse way) c.args.store.now.now c.in-Some-get_mut.ensures.item.3.0 c.in-Some-get_mut.ensures.value
    (subst (λ (l : List ℕ). LeadsFrom h whole (reverse l) c.args.store.now.now) c.deref-in-Some-get_mut.ensures.value (c.leads_from.ensures.reported it))
    (subst (λ (l : List _). IsWay h (states_of h l) c.in-Some.first (reverse way) c.args.number) c.deref.ensures.value (c.in-Some.ensures h))
