use Rattle.std.proofs.Common.{length, ◌+◌, ◌*◌}
use Rattle.aud_lattice.proofs.trie.Trie.+puts.Given as goal

abbrev pub decreases-with : goal.decreases-with
decreases-with g l = 2 * length l.list.now

abbrev pub decreases-put_under : goal.decreases-put_under
decreases-put_under g l = 2 * length l.rest.now + 1
