use Rattle.std.specs.Prelude.{false, nat_eq, ◌≡◌, pos, ◌-ℤ◌, Option, IfSome}
use Rattle.std.proofs.Common.{subst, sym, arith, w64}
use Rattle.std.proofs.lemmas.Int.{ints}
use mir.Val.{to_z, of_z}
use Rattle.base_values.proofs.Bools.{is_false, nat_eq-is}
use Rattle.judge_clauses.specs.Clauses.{Unless}
use Rattle.judge_sums.specs.declared.bounds.Bounds.{Bounds}
use Rattle.search_model.specs.declared.quantity.Quantity.TheVariants.{Takes, Additions}
use Rattle.judge_sums.specs.Between.{IsBetween}
use Rattle.search_model.specs.Quantities.{net_of}
use Rattle.judge_sums.specs.Sums.{total}
use Rattle.judge_queues.proofs.Lawful.{taker-behind, valid-place}
use Rattle.judge_queues.proofs.places.is_other_displaced.Goals as goal

pub place_bounds-requires : goal.place_bounds-requires
place_bounds-requires g c =
    let other : nat_eq c.args.adder c.args.take.taker ≡ false = is_false (nat_eq c.args.adder c.args.take.taker) (λ same. c.if-adder-take.false (nat_eq-is c.args.adder c.args.take.taker same)) in
    taker-behind c.args.facts.now c.args.clause.now c.args.take c.args.adder c.args.addition (c.is_there.ensures c.if-not-is_there.false) other (c.is_so.ensures c.if-not-is_so.false)

pub returns-in-Some : goal.returns-in-Some
returns-in-Some g c = λ so.
    let f = c.args.facts.now in
    let take = c.args.take in
    let bounds : Bounds = c.in-Some.bounds in
    let between : Unless f c.args.clause.now (λ p. IsBetween bounds (total f.history (net_of f.history (Takes take.object)) p take.taker -ℤ total f.history (net_of f.history (Additions take.object)) p c.args.adder)) =
    subst (λ (o : Option Bounds). IfSome o (λ b. Unless f c.args.clause.now (λ p. IsBetween b (total f.history (net_of f.history (Takes take.object)) p take.taker -ℤ total f.history (net_of f.history (Additions take.object)) p c.args.adder)))) c.in-Some.is c.in_ok-bounds.ensures in
    let number : to_z w64 (of_z w64 c.place_of.result) ≡ pos c.args.addition -ℤ pos take.number = let is = c.place_of.ensures in omega (arith, ints, is) in
    valid-place f c.args.clause.now c.args.take c.args.adder c.args.addition bounds (c.is_there.ensures c.if-not-is_there.false) (c.is_so.ensures c.if-not-is_so.false) between
    (λ w. c.exclude.ensures so (subst (IsBetween bounds) (sym number) w))
