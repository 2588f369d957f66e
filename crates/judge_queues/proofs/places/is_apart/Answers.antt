use Rattle.std.specs.Prelude.{◌≡◌, false, nat_eq}
use Rattle.judge_queues.proofs.Lawful.{valid-apart}
use Rattle.base_values.proofs.Bools.{is_false, nat_eq-is}
use Rattle.judge_queues.proofs.places.is_apart.Goals as goal

pub returns : goal.returns
returns g c = λ so.
    let other : nat_eq c.args.adder c.args.take.taker ≡ false = is_false (nat_eq c.args.adder c.args.take.taker) (λ same. c.if-adder-take.false (nat_eq-is c.args.adder c.args.take.taker same)) in
    valid-apart c.args.facts.now c.args.clause.now c.args.take c.args.adder c.args.addition (c.is_there.ensures c.if-not-is_there.false) other (c.is_so.ensures c.if-not-is_so.false) (c.never_comes.ensures so)
