use Rattle.std.proofs.Common.{length}
use Rattle.aud_lattice.proofs.trie.Trie.+mark.Given as goal

abbrev pub decreases-mark : goal.decreases-mark
decreases-mark g l = length l.list.now
