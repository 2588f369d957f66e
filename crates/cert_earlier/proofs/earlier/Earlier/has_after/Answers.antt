use Rattle.cert_earlier.proofs.earlier.Earlier.has_after.Goals as goal

pub returns : goal.returns
returns g c = (
  (λ holds. (c.after.ensures c.args.decision).0 (c.is_among.ensures.0 holds)),
  λ there. c.is_among.ensures.1 ((c.after.ensures c.args.decision).1 there),
)
