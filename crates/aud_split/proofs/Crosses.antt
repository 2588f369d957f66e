-- An explorer may be shared by threads, as all that it holds may.
use denote.RattleType.{RattleType}
use denote.Ref.{NamedLft}
use denote.Param.Send.{IsSend, IsSync, sendable}
use Rattle.std.proofs.Crossing as heap
use Rattle.std.proofs.sync.Arc.TheSendSync as arc
use Rattle.std.proofs.alloc.Global.TheSendSync as global
use Rattle.aud_order.proofs.Crosses.{shape_send, shape_sync}
use Rattle.search_memo.proofs.Crosses.{shared_sync}
use Rattle.search_memo.specs.declared.shared.Scene as scene
use Rattle.aud_node.specs.declared.book.Fleet as fleet
use Rattle.aud_node.proofs.Crosses.{node_sync}
use Rattle.aud_split.specs.contracts.explorer.Explorer as Explorer

module _ (κ : NamedLft) (H J S : RattleType) (h : scene.Ghosts H.Denot) (g : fleet.Ghosts J.Denot) where
  pub explorer_sync : IsSend S → IsSync (Explorer.the_row κ H J S h g)
  explorer_sync s = search (node_sync, shape_send, shape_sync, shared_sync, arc.the_sync, global.the_send, global.the_sync, heap.frees, sendable) depth 60 fits 20000
