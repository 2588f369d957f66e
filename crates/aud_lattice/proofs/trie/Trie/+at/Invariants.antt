use Rattle.std.proofs.Common.{length}
use Rattle.aud_lattice.proofs.trie.Trie.+at.Given as goal

abbrev pub decreases-at : goal.decreases-at
decreases-at g l = length l.list.now
