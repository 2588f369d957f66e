-- Which sets may cross threads: those whose items and allocator may, and may be shared, as the trees may that they stand on.
use denote.RattleType.{RattleType}
use denote.Param.Send.{IsSend, IsSync, Frees, sendable}
use Rattle.std.specs.declared.alloc.Allocator as alloc
use Rattle.std.specs.declared.clone.Clone as clone
use Rattle.std.specs.declared.cmp.Ord as ord
use Rattle.std.specs.declared.cmp.PartialEq as eq
use Rattle.std.specs.declared.cmp.PartialOrd as partial
use Rattle.std.proofs.option.Option.TheSendSync as option
use Rattle.std.proofs.sync.Arc.TheSendSync as arc
use Rattle.base_trees.proofs.Crosses.{tree_send, tree_sync}
use Rattle.aud_lattice.specs.contracts.union_set.UnionSet as UnionSet

module _ (T A : RattleType) (g : alloc.Ghosts A.Denot) (o : ord.Ghosts T.Denot) (e : eq.Ghosts T.Denot) (p : partial.Ghosts T.Denot) (c : clone.Ghosts A.Denot) where
  pub union_set_send : IsSend T → IsSync T → IsSend A → IsSync A → Frees g g.dealloc_token → IsSend (UnionSet.the_row T A o e p g c)
  union_set_send s y sa ya f =
      let a = tree_send T A g s y sa ya f in
      let b = tree_sync T A g s y sa ya f in
      search (arc.the_send, option.the_field_send, sendable) depth 60

  pub union_set_sync : IsSend T → IsSync T → IsSend A → IsSync A → Frees g g.dealloc_token → IsSync (UnionSet.the_row T A o e p g c)
  union_set_sync s y sa ya f =
      let a = tree_send T A g s y sa ya f in
      let b = tree_sync T A g s y sa ya f in
      search (arc.the_sync, option.the_field_sync, sendable) depth 60
