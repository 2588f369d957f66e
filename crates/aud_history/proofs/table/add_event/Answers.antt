use Rattle.std.specs.Prelude.{◌≡◌, [], ◌∷◌, ◌++◌, map, nat_eq, Some, true, false}
use Rattle.std.proofs.Common.{sym, ◌∙◌, ap, subst, set}
use Rattle.std.specs.List.{list_any, position}
use Rattle.indexmap.proofs.MapLemmas.{OnOk-map}
use Rattle.aud_history.specs.Table.{RowOf, with_event}
use Rattle.aud_history.proofs.Tables.{found_at, rows_with-new, tx-rows_with, with_number-there}
use Rattle.aud_history.proofs.table.add_event.Goals as goal

pub returns-in-Some-clause-rows : goal.returns-in-Some-clause-rows
returns-in-Some-clause-rows g c =
    let rs = c.args.rows.now.items in
    let i = c.in-Some.place in
    let d = c.index_mut.result.now in
    let found : position (nat_eq c.args.tx) (map (λ (r : RowOf). r.tx) rs) ≡ Some i =
    subst (λ ks. position (nat_eq c.args.tx) ks ≡ Some i) c.requires (sym c.in-Some.ensures.index) in
    let at = found_at rs c.args.tx c.args.stamp c.args.event i d found in
    OnOk-map c.add.result (c.add.new.self ≡ with_event d c.args.stamp c.args.event) _
    (λ row. ap (λ r. set rs i r) (row ∙ ap (λ r. with_event r c.args.stamp c.args.event) c.index_mut.ensures.value) ∙ at.1)
    c.add.ensures.ok

pub returns-in-Some-clause-keys : goal.returns-in-Some-clause-keys
returns-in-Some-clause-keys g c =
    let rs = c.args.rows.now.items in
    let i = c.in-Some.place in
    let d = c.index_mut.result.now in
    let found : position (nat_eq c.args.tx) (map (λ (r : RowOf). r.tx) rs) ≡ Some i =
    subst (λ ks. position (nat_eq c.args.tx) ks ≡ Some i) c.requires (sym c.in-Some.ensures.index) in
    let at = found_at rs c.args.tx c.args.stamp c.args.event i d found in
    let there : list_any (nat_eq c.args.tx) (map (λ (r : RowOf). r.tx) rs) ≡ true =
    subst (λ ks. list_any (nat_eq c.args.tx) ks ≡ true) c.requires (sym c.in-Some.ensures.found) in
    OnOk-map c.add.result (c.add.new.self ≡ with_event d c.args.stamp c.args.event) _
    (λ row. c.requires ∙ sym (ap (map (λ (r : RowOf). r.tx))
    (ap (λ r. set rs i r) (row ∙ ap (λ r. with_event r c.args.stamp c.args.event) c.index_mut.ensures.value) ∙ at.1)
    ∙ tx-rows_with rs c.args.tx c.args.stamp c.args.event ∙ with_number-there _ c.args.tx there))
    c.add.ensures.ok

pub returns-in_ok-push-in-None-clause-rows : goal.returns-in_ok-push-in-None-clause-rows
returns-in_ok-push-in-None-clause-rows g c =
    let rs = c.args.rows.now.items in
    let none : list_any (nat_eq c.args.tx) (map (λ (r : RowOf). r.tx) rs) ≡ false =
    subst (λ ks. list_any (nat_eq c.args.tx) ks ≡ false) c.requires (sym c.in-None.ensures.found) in
    c.in_ok-push-in-None.ensures.items
    ∙ ap (λ r. rs ++ r ∷ []) (c.in_ok-add-in-None.ensures.ok ∙ ap (λ r. with_event r c.args.stamp c.args.event) c.fresh-row.ensures)
    ∙ sym (rows_with-new rs c.args.tx c.args.stamp c.args.event none)
