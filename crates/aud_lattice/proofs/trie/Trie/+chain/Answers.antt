use Rattle.std.proofs.Common.{ap}
use Rattle.std.specs.Map.{lookup}
use Rattle.std.specs.BTreeMap.{is_at}
use Rattle.aud_lattice.specs.Covers.{begins}
use Rattle.aud_lattice.specs.Walks.{nodes_of}
use Rattle.aud_lattice.specs.declared.trie.Trie.TheVariants.{Fork, outs-Fork}
use Rattle.aud_lattice.proofs.Tries.{member_is_good, nil_begins, added, begins_live, empty_good, empty_walk, alone}
use Rattle.aud_lattice.proofs.trie.Trie.+chain.Goals as goal

pub returns-in-None-clause-good : goal.returns-in-None-clause-good
returns-in-None-clause-good g t c = member_is_good g.D.Ord.cmp

pub returns-in-None-clause-one : goal.returns-in-None-clause-one
returns-in-None-clause-one g t c = nil_begins g.D.Ord.cmp c.args.list.now c.in-None.ensures.cases

pub returns-in_ok-set-in-Some-clause-good : goal.returns-in_ok-set-in-Some-clause-good
returns-in_ok-set-in-Some-clause-good g t c =
    let p = c.in-Some.rest.now in
    let good = empty_good g.D.Ord.cmp (Fork c.new-next.result) c.new-next.result (outs-Fork _) c.new-next.ensures.empty c.new-next.ensures.ordered in
    let gone = ap (λ es. lookup (is_at (g.D.Ord.cmp c.in-Some.first.now)) (nodes_of es)) c.new-next.ensures.empty in
    (added g.D.Ord.cmp g.met.D.Ord.total g.met.D.Key.exact c.new-next.result c.set.new.next c.in-Some.first.now c.in_ok-node-in-Some-2.node c.set.ensures.ordered c.in_ok-set-in-Some.ensures.ok good c.in_ok-node-in-Some.node c.in_ok-node-in-Some-2.ensures.ok c.in_ok-node-in-Some.ensures.good (begins g.D.Ord.cmp p) (begins_live g.D.Ord.cmp g.met.D.Ord.total p) gone c.in_ok-node-in-Some.ensures.one).0

pub returns-in_ok-set-in-Some-clause-one : goal.returns-in_ok-set-in-Some-clause-one
returns-in_ok-set-in-Some-clause-one g t c =
    let p = c.in-Some.rest.now in
    let good = empty_good g.D.Ord.cmp (Fork c.new-next.result) c.new-next.result (outs-Fork _) c.new-next.ensures.empty c.new-next.ensures.ordered in
    let gone = ap (λ es. lookup (is_at (g.D.Ord.cmp c.in-Some.first.now)) (nodes_of es)) c.new-next.ensures.empty in
    alone g.D.Ord.cmp c.in-Some.first.now p c.args.list.now (Fork c.set.new.next) (Fork c.new-next.result) c.in-Some.ensures.cases.0
    (added g.D.Ord.cmp g.met.D.Ord.total g.met.D.Key.exact c.new-next.result c.set.new.next c.in-Some.first.now c.in_ok-node-in-Some-2.node c.set.ensures.ordered c.in_ok-set-in-Some.ensures.ok good c.in_ok-node-in-Some.node c.in_ok-node-in-Some-2.ensures.ok c.in_ok-node-in-Some.ensures.good (begins g.D.Ord.cmp p) (begins_live g.D.Ord.cmp g.met.D.Ord.total p) gone c.in_ok-node-in-Some.ensures.one).1
    (empty_walk g.D.Ord.cmp (Fork c.new-next.result) c.new-next.result (outs-Fork _) c.new-next.ensures.empty)
