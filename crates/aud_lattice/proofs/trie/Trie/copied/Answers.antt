use Rattle.std.proofs.Common.{ap, ◌∙◌, sym, subst}
use Rattle.aud_lattice.specs.Walks.{walk, IsTrie}
use Rattle.aud_lattice.proofs.Tries.{alike_good, alike_walk}
use Rattle.aud_lattice.proofs.trie.Trie.copied.Goals as goal

pub returns-in_ok-all-in-Fork-clause-good : goal.returns-in_ok-all-in-Fork-clause-good
returns-in_ok-all-in-Fork-clause-good g c =
    alike_good g.D.Ord.cmp c.in-Fork.nodes c.in_ok-all-in-Fork.all c.in_ok-all-in-Fork.ensures.same c.in_ok-all-in-Fork.ensures.ordered (subst (IsTrie g.D.Ord.cmp) c.in-Fork.is c.requires)

pub returns-in_ok-all-in-Fork-clause-same : goal.returns-in_ok-all-in-Fork-clause-same
returns-in_ok-all-in-Fork-clause-same g c =
    alike_walk g.D.Ord.cmp c.in-Fork.nodes c.in_ok-all-in-Fork.all c.in_ok-all-in-Fork.ensures.same ∙ ap (walk g.D.Ord.cmp) (sym c.in-Fork.is)
