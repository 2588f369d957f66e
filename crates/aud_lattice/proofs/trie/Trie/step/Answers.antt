use Rattle.std.proofs.Common.{Some, sym, ap, ◌∙◌}
use Rattle.std.specs.Option.{option_copied}
use Rattle.aud_lattice.specs.declared.trie.Trie.{out-Trie}
use Rattle.aud_lattice.specs.declared.trie.Trie.TheVariants.{outs-Fork}
use Rattle.aud_lattice.proofs.Tries.{fork_child, found_node, gone_node}
use Rattle.aud_lattice.proofs.trie.Trie.step.Goals as goal

pub returns-in-Some : goal.returns-in-Some
returns-in-Some g c =
    let R = g.D.Ord.cmp in
    let next = c.in-Fork.next in
    let x = c.args.first.now in
    let node = c.in-Some.node.now in
    let at = ap (out-Trie g.row.D.Denot g.row.A.Denot) c.in-Fork.is ∙ outs-Fork next in
    ap Some c.deref.ensures ∙ sym (fork_child R c.args.self.now next at x ∙ found_node R next x node (sym c.get.ensures.value ∙ ap option_copied c.in-Some.is))

pub returns-in-None : goal.returns-in-None
returns-in-None g c =
    let R = g.D.Ord.cmp in
    let next = c.in-Fork.next in
    let x = c.args.first.now in
    let at = ap (out-Trie g.row.D.Denot g.row.A.Denot) c.in-Fork.is ∙ outs-Fork next in
    sym (fork_child R c.args.self.now next at x ∙ gone_node R next x (sym c.get.ensures.value ∙ ap option_copied c.in-None.is))
