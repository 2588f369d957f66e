use Rattle.std.proofs.Common.{◌≡◌, length, arith}
use Rattle.aud_lattice.proofs.Tries.{each_some, one_alone}
use Rattle.aud_lattice.proofs.trie.alone.Goals as goal

pub returns-then-len-eq1 : goal.returns-then-len-eq1
returns-then-len-eq1 g c =
    let one : length c.args.nodes.now.entries ≡ 1 = omega arith in
    each_some c.first_key_value.result _ _ (λ e first. one_alone c.args.nodes.now.entries (e.0.now, e.1.now) one first) c.first_key_value.ensures.first
