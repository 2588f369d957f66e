use Rattle.std.specs.Prelude.{◌≡◌, pos, ◌-ℤ◌, Option, IfSome}
use Rattle.std.proofs.Common.{subst, sym, arith, w64}
use Rattle.std.proofs.lemmas.Int.{ints}
use mir.Val.{to_z, of_z}
use Rattle.judge_clauses.specs.Clauses.{Unless}
use Rattle.judge_sums.specs.declared.bounds.Bounds.{Bounds}
use Rattle.search_model.specs.declared.quantity.Quantity.TheVariants.{Shortening}
use Rattle.judge_sums.specs.Between.{IsBetween}
use Rattle.search_model.specs.Quantities.{net_of}
use Rattle.judge_sums.specs.Sums.{total}
use Rattle.judge_queues.proofs.Lawful.{valid-own}
use Rattle.judge_queues.proofs.places.is_own_displaced.Goals as goal

pub returns-in-Some : goal.returns-in-Some
returns-in-Some g c = λ so.
    let f = c.args.facts.now in
    let take = c.args.take in
    let bounds : Bounds = c.in-Some.bounds in
    let between : Unless f c.args.clause.now (λ p. IsBetween bounds (total f.history (net_of f.history (Shortening take.object)) p take.taker)) =
    subst (λ (o : Option Bounds). IfSome o (λ b. Unless f c.args.clause.now (λ p. IsBetween b (total f.history (net_of f.history (Shortening take.object)) p take.taker)))) c.in-Some.is c.in_ok-bounds.ensures in
    let number : to_z w64 (of_z w64 c.place_of.result) ≡ pos c.args.addition -ℤ pos take.number = let is = c.place_of.ensures in omega (arith, ints, is) in
    valid-own f c.args.clause.now c.args.take c.args.addition bounds (c.is_there.ensures c.if-not-is_there.false) (c.is_so.ensures c.if-not-is_so.false) between
    (λ w. c.exclude.ensures so (subst (IsBetween bounds) (sym number) w))
