use Rattle.aud_facts.proofs.laws.joins_associate.Goals as goal

pub returns : goal.returns
returns c = λ x y z s t u. λ i. record { plan = x.plan; facts = c.unions_associate.ensures x.facts y.facts z.facts s t u i }
