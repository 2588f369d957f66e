use Rattle.aud_facts.proofs.laws.joins_commute.Goals as goal

pub returns : goal.returns
returns c = λ x y s t e. λ i. record { plan = e i; facts = c.unions_commute.ensures x.facts y.facts s t i }
