use Rattle.aud_lattice.proofs.Tries.{pointwise, empty_walk, empty_good}
use Rattle.aud_lattice.specs.declared.trie.Trie.TheVariants.{outs-Fork}
use Rattle.aud_lattice.proofs.trie.Trie.empty.Goals as goal

pub returns-clause-nothing : goal.returns-clause-nothing
returns-clause-nothing g c = pointwise (empty_walk g.D.Ord.cmp _ c.new.result (outs-Fork _) c.new.ensures.empty)

pub returns-clause-good : goal.returns-clause-good
returns-clause-good g c = empty_good g.D.Ord.cmp _ c.new.result (outs-Fork _) c.new.ensures.empty c.new.ensures.ordered
