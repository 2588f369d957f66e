use Rattle.std.proofs.lemmas.Bool.{ne_eqb}
use Rattle.judge_clauses.proofs.Knowing.{always-two}
use Rattle.judge_clauses.proofs.facts.KnownFacts.are_two.Goals as goal

pub returns : goal.returns
returns g c = λ so.
    always-two c.args.self.now c.args.first c.args.second (ne_eqb c.args.first c.args.second c.if-first-second.false) (c.is_there.ensures c.if-not-is_there.false) (c.is_there-2.ensures so)
