-- Which tries and covers may cross threads: those whose elements and allocator may, and may be shared. A trie reaches itself
-- through the `Arc`s of its nodes, which ask both of what they share.
use denote.RattleType.{RattleType}
use denote.Param.Send.{IsSend, IsSync, Frees, sendable}
use Rattle.std.specs.declared.alloc.Allocator as alloc
use Rattle.std.specs.declared.cmp.Ord as ord
use Rattle.std.specs.declared.cmp.PartialEq as eq
use Rattle.std.specs.declared.cmp.PartialOrd as partial
use Rattle.std.proofs.collections.BTreeMap.TheSendSync as map
use Rattle.std.proofs.sync.Arc.TheSendSync as arc
use Rattle.aud_lattice.specs.contracts.cover.Cover as Cover
use Rattle.aud_lattice.specs.contracts.trie.Trie as Trie
use Rattle.aud_lattice.proofs.trie.Trie.TheLaws.TheKnot as knot

module _ (D A : RattleType) (o : ord.Ghosts D.Denot) (e : eq.Ghosts D.Denot) (p : partial.Ghosts D.Denot) (g : alloc.Ghosts A.Denot) where
  pub trie_send : IsSend D → IsSync D → IsSend A → IsSync A → Frees g g.dealloc_token → IsSend (Trie.the_field D A o e p g).row
  trie_send s y sa ya f =
      knot.both_send-Trie D A o e p g (λ h hs hy. search (map.the_send, arc.the_send, arc.the_sync, sendable) depth 60) (λ h hs hy. search (map.the_sync, arc.the_send, arc.the_sync, sendable) depth 60)

  pub trie_sync : IsSend D → IsSync D → IsSend A → IsSync A → Frees g g.dealloc_token → IsSync (Trie.the_field D A o e p g).row
  trie_sync s y sa ya f =
      knot.both_sync-Trie D A o e p g (λ h hs hy. search (map.the_send, arc.the_send, arc.the_sync, sendable) depth 60) (λ h hs hy. search (map.the_sync, arc.the_send, arc.the_sync, sendable) depth 60)

  pub cover_send : IsSend D → IsSync D → IsSend A → IsSync A → Frees g g.dealloc_token → IsSend (Cover.the_row D A o e p g)
  cover_send s y sa ya f =
      let a = trie_send s y sa ya f in
      search sendable depth 60

  pub cover_sync : IsSend D → IsSync D → IsSend A → IsSync A → Frees g g.dealloc_token → IsSync (Cover.the_row D A o e p g)
  cover_sync s y sa ya f =
      let a = trie_sync s y sa ya f in
      search sendable depth 60
