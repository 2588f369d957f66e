use Rattle.std.specs.Prelude.{◌≡◌, pos, ◌<◌, ◌≤◌, length}
use Rattle.std.proofs.Common.{ap, subst, arith, get_or}
use Rattle.std.proofs.lemmas.Int.{ints}
use Rattle.std.proofs.lemmas.List.{take_all}
use Rattle.std.proofs.Math.ListN.{length-map}
use Rattle.aud_history.specs.Table.{transactions, row_of, table_of}
use Rattle.search_model.specs.declared.quantity.Quantity.TheVariants.{Count}
use Rattle.search_model.specs.Quantities.{reach_of}
use Rattle.judge_sums.specs.Room.{IsWiderBy}
use Rattle.judge_sums.specs.Sums.{sum_of}
use Rattle.judge_sums.proofs.Adding.{sum_of-more}
use Rattle.judge_sums.proofs.Bounding.{row-there}
use Rattle.judge_sums.proofs.room.after_rows.Goals as goal

pub loop-place-preserved : goal.loop-place-preserved
loop-place-preserved g c =
    let h = c.args.facts.now.history in
    let x = c.args.counter in
    let k = c.loop-place.place in
    let row = row_of h (get_or (transactions h) k 0) in
    let rows : c.rows-place-end.result.now ≡ table_of h = c.rows-place-end.ensures in
    let here : k < length c.rows-place-end.result.now = omega arith in
    let low : k < length (table_of h) = subst (λ l. k < length l) rows here in
    let size : length (table_of h) ≡ length (transactions h) = length-map (transactions h) (row_of h) in
    let next : IsWiderBy c.in_ok-wide.wide c.loop-place.wide (pos (reach_of h (Count x) (get_or (transactions h) k 0))) = c.in_ok-wide.ensures row (row-there h k low) in
    let more = sum_of-more (λ t. pos (reach_of h (Count x) t)) (transactions h) k (omega (arith, low, size)) in
    let before = c.loop-place.invariant in
    (omega (arith, ints, more, next.0, before.0), omega (arith, ints, more, next.1, before.1))

pub returns : goal.returns
returns g c =
    let h = c.args.facts.now.history in
    let rows : c.rows-place-end.result.now ≡ table_of h = c.rows-place-end.ensures in
    let here : length c.rows-place-end.result.now ≤ c.loop-place.place = omega arith in
    let size : length (table_of h) ≡ length (transactions h) = length-map (transactions h) (row_of h) in
    let all : length (transactions h) ≤ c.loop-place.place = let sizes = ap length rows in omega (arith, here, size, sizes) in
    subst (λ ts. IsWiderBy c.loop-place.wide c.args.room (sum_of (λ t. pos (reach_of h (Count c.args.counter) t)) ts)) (take_all c.loop-place.place (transactions h) all) c.loop-place.invariant
