use Rattle.std.specs.Prelude.{◌≡◌, ℕ, ◌<◌, ◌≤◌, length, map, nat_eq}
use Rattle.std.specs.List.{position}
use Rattle.std.proofs.Common.{◌∙◌, ap, subst, get_or}
use Rattle.std.proofs.lemmas.List.{take_all}
use Rattle.aud_event.specs.declared.fact.Event.{Event}
use Rattle.aud_event.specs.declared.fact.Event.TheVariants.{Inv}
use Rattle.aud_event.specs.declared.object.Op.TheVariants.{Read}
use Rattle.aud_history.specs.Table.{RowOf, table_of, rows_with}
use Rattle.aud_history.proofs.Numbers.{places-of_low}
use Rattle.aud_history.proofs.Tables.{table-step}
use Rattle.aud_history.proofs.table.TxTable.of.Goals as goal

pub loop-stamp-preserved : goal.loop-stamp-preserved
loop-stamp-preserved g c =
    let h = c.args.history.now.events in
    let i = c.loop-stamp.stamp in
    let d : ℕ × Event = (0, Inv 0 Read) in
    let inside : i < length h = subst (λ l. i < length l) c.events-tx-items.ensures.events c.loop-stamp-test.true in
    let step = table-step h i d inside c.requires in (
      c.in_ok-add_event.ensures.keys,
      c.in_ok-add_event.ensures.rows ∙ ap (λ l. rows_with c.loop-stamp.rows.items (get_or l i d).0 i (get_or l i d).1) c.events-tx-items.ensures.events
          ∙ ap (λ rs. rows_with rs (get_or h i d).0 i (get_or h i d).1) c.loop-stamp.invariant.1 ∙ step,
    )

pub returns : goal.returns
returns g c =
    let h = c.args.history.now.events in
    let past : length h ≤ c.loop-stamp.stamp = subst (λ l. length l ≤ c.loop-stamp.stamp) c.events-tx-items.ensures.events c.loop-stamp-test.false in
    c.loop-stamp.invariant.1 ∙ ap table_of (take_all c.loop-stamp.stamp h past)

pub invariant_of-result : goal.invariant_of-result
invariant_of-result g c =
    let h = c.args.history.now.events in
    let past : length h ≤ c.loop-stamp.stamp = subst (λ l. length l ≤ c.loop-stamp.stamp) c.events-tx-items.ensures.events c.loop-stamp-test.false in
    let are : c.loop-stamp.rows.items ≡ table_of h = c.loop-stamp.invariant.1 ∙ ap table_of (take_all c.loop-stamp.stamp h past) in
    let low = places-of_low c.args.history.now.plan h c.loop-stamp.numbers.keys c.in_ok-places.places.items c.events-tx-items.ensures.sound.1
    (c.loop-stamp.invariant.0 ∙ ap (map (λ (r : RowOf). r.tx)) are) c.in_ok-places.ensures.count c.in_ok-places.ensures.places in
    λ t. low t ∙ ap (position (nat_eq t)) c.loop-stamp.invariant.0
