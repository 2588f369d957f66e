-- Which trees may cross threads: those whose items and allocator may, and may be shared. A tree reaches itself through `Arc`,
-- which asks both of what it shares.
use denote.RattleType.{RattleType}
use denote.Param.Send.{IsSend, IsSync, Frees, sendable}
use Rattle.std.specs.declared.alloc.Allocator as alloc
use Rattle.std.proofs.option.Option.TheSendSync as option
use Rattle.std.proofs.sync.Arc.TheSendSync as arc
use Rattle.base_trees.specs.contracts.tree.Tree as Tree
use Rattle.base_trees.proofs.tree.Tree.TheLaws.TheKnot as knot

module _ (T A : RattleType) (g : alloc.Ghosts A.Denot) where
  pub tree_send : IsSend T → IsSync T → IsSend A → IsSync A → Frees g g.dealloc_token → IsSend (Tree.the_row T A g)
  tree_send s y sa ya f = search (arc.the_send, arc.the_sync, option.the_field_send, option.the_send, option.the_sync, knot.crosses, sendable) depth 60

  pub tree_sync : IsSend T → IsSync T → IsSend A → IsSync A → Frees g g.dealloc_token → IsSync (Tree.the_row T A g)
  tree_sync s y sa ya f = search (arc.the_send, arc.the_sync, option.the_send, option.the_field_sync, option.the_sync, knot.crosses, sendable) depth 60
