use Rattle.std.proofs.Common.{◌∙◌, ap, sym}
use Rattle.std.specs.Arc.{arc_value}
use Rattle.std.specs.Option.{option_copied}
use Rattle.aud_lattice.specs.declared.trie.Trie.{out-Trie}
use Rattle.aud_lattice.specs.declared.trie.Trie.TheVariants.{outs-Fork}
use Rattle.aud_lattice.specs.Walks.{walk_mark}
use Rattle.aud_lattice.proofs.Pathed.{gone_mark, known_mark}
use Rattle.aud_lattice.proofs.Tries.{fork_child, fork_member, found_node, gone_node}
use Rattle.aud_lattice.proofs.trie.Trie.+mark.Goals as goal

pub returns-in-None : goal.returns-in-None
returns-in-None g t c =
    let R = g.D.Ord.cmp in
    let self = c.args.self.now in
    let next = c.in-Fork.next in
    let first = c.in-Some.first.now in
    let at = ap (out-Trie g.row.D.Denot g.row.A.Denot) c.in-Fork.is ∙ outs-Fork next in
    let gone = fork_child R self next at first ∙ gone_node R next first (sym c.get.ensures.value ∙ ap option_copied c.in-None.is) in
    sym (ap (walk_mark R self) c.in-Some.ensures.cases.0 ∙ gone_mark R self first c.in-Some.rest.now (fork_member R self next at) gone)

pub returns-in-Some-get : goal.returns-in-Some-get
returns-in-Some-get g t c =
    let R = g.D.Ord.cmp in
    let self = c.args.self.now in
    let next = c.in-Fork.next in
    let first = c.in-Some.first.now in
    let rest = c.in-Some.rest.now in
    let node = c.in-Some-get.node.now in
    let at = ap (out-Trie g.row.D.Denot g.row.A.Denot) c.in-Fork.is ∙ outs-Fork next in
    let found = fork_child R self next at first ∙ found_node R next first node (sym c.get.ensures.value ∙ ap option_copied c.in-Some-get.is) in
    c.mark.ensures ∙ ap (λ u. walk_mark R u rest) c.deref.ensures ∙ sym (ap (walk_mark R self) c.in-Some.ensures.cases.0 ∙ known_mark R self first rest (arc_value node) found)
