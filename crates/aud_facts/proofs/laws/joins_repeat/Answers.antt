use Rattle.aud_facts.proofs.laws.joins_repeat.Goals as goal

pub returns : goal.returns
returns c = λ x s. λ i. record { plan = x.plan; facts = c.unions_repeat.ensures x.facts s i }
