use Rattle.std.proofs.Common.{ap, ◌∙◌, Some, cond}
use Rattle.std.specs.BTreeMap.{get}
use Rattle.std.specs.Ordering.{is_eq}
use Rattle.aud_lattice.proofs.Tries.{set_nodes}
use Rattle.aud_lattice.proofs.trie.set.Goals as goal

pub returns-clause-ok : goal.returns-clause-ok
returns-clause-ok g c =
    λ y. set_nodes g.D.Ord.cmp c.args.next.now c.insert.new.self c.args.first.now y c.args.node (c.in_ok-insert.ensures.updates.0 y ∙ ap (λ x. cond (is_eq (g.D.Ord.cmp x y)) (Some c.args.node) (get g.D.Ord.cmp c.args.next.now y)) c.in_ok-dup.ensures)
