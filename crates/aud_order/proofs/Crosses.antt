-- Which shapes may cross threads: all, where the allocator may and may be shared.
use denote.RattleType.{RattleType}
use denote.Param.Send.{IsSend, IsSync, Frees, sendable}
use Rattle.std.specs.declared.alloc.Allocator as alloc
use Rattle.std.specs.declared.clone.Clone as clone
use Rattle.std.proofs.sync.Arc.TheSendSync as arc
use Rattle.aud_facts.proofs.Crosses.{sealed_send, sealed_sync}
use Rattle.aud_witness.proofs.agenda.Agenda.TheSendSync as agenda
use Rattle.aud_order.specs.contracts.shape.Shape as Shape

module _ (A : RattleType) (g : alloc.Ghosts A.Denot) (c : clone.Ghosts A.Denot) where
  pub shape_send : IsSend A → IsSync A → Frees g g.dealloc_token → IsSend (Shape.the_row A g c)
  shape_send sa ya f = search (sealed_send, sealed_sync, arc.the_send, agenda.the_send, sendable) depth 60

  pub shape_sync : IsSend A → IsSync A → Frees g g.dealloc_token → IsSync (Shape.the_row A g c)
  shape_sync sa ya f = search (sealed_send, sealed_sync, arc.the_sync, agenda.the_sync, sendable) depth 60
