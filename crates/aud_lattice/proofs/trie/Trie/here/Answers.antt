use Rattle.std.proofs.Common.{sym, ap, ◌∙◌}
use mathlib.Core.Bool.{true≢false}
use Rattle.aud_lattice.specs.Walks.{mark_here}
use Rattle.aud_lattice.specs.declared.trie.Trie.{out-Trie}
use Rattle.aud_lattice.specs.declared.trie.Trie.TheVariants.{outs-Fork}
use Rattle.aud_lattice.proofs.Pathed.{full_end}
use Rattle.aud_lattice.proofs.trie.Trie.here.Goals as goal

pub returns-else-is_empty : goal.returns-else-is_empty
returns-else-is_empty g c =
    let next = c.in-Fork.next in
    full_end g.D.Ord.cmp next.entries (λ z. true≢false (sym (c.is_empty.ensures.1 z) ∙ c.if-is_empty.false))
    ∙ sym (ap mark_here (ap (out-Trie g.row.D.Denot g.row.A.Denot) c.in-Fork.is ∙ outs-Fork next))
