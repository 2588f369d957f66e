use Rattle.std.proofs.Common.{◌≡◌, ◌++◌}
use Rattle.aud_facts.specs.Shares.{share_of}
use Rattle.aud_facts.proofs.share.listed_share.Given as goal

abbrev pub invariant-loop-fact : goal.invariant-loop-fact
invariant-loop-fact g l = l.share.items ++ share_of l.shares l.number l.fact-iterator ≡ share_of l.shares l.number l.set
