use Rattle.std.proofs.Common.{length}
use Rattle.aud_lattice.proofs.trie.Trie.+chain.Given as goal

abbrev pub decreases-chain : goal.decreases-chain
decreases-chain g l = length l.list.now
