-- Which sets of facts may cross threads: all, where the allocator may and may be shared.
use denote.RattleType.{RattleType}
use denote.Param.Send.{IsSend, IsSync, Frees, sendable}
use Rattle.std.specs.declared.alloc.Allocator as alloc
use Rattle.std.specs.declared.clone.Clone as clone
use Rattle.std.proofs.sync.Arc.TheSendSync as arc
use Rattle.aud_event.proofs.fact.Fact.TheSendSync as fact
use Rattle.aud_event.proofs.plan.Plan.TheSendSync as plan
use Rattle.aud_history.proofs.history.History.TheSendSync as history
use Rattle.aud_lattice.proofs.Crosses.{union_set_send, union_set_sync}
use Rattle.aud_facts.specs.contracts.fact_set.Facts as Facts
use Rattle.aud_facts.specs.contracts.sealed.Sealed as Sealed

module _ (A : RattleType) (g : alloc.Ghosts A.Denot) (c : clone.Ghosts A.Denot) where
  pub facts_send : IsSend A → IsSync A → Frees g g.dealloc_token → IsSend (Facts.the_row A g c)
  facts_send sa ya f = search (union_set_send, arc.the_send, fact.the_send, fact.the_sync, plan.the_send, plan.the_sync, sendable) depth 60

  pub facts_sync : IsSend A → IsSync A → Frees g g.dealloc_token → IsSync (Facts.the_row A g c)
  facts_sync sa ya f = search (union_set_sync, arc.the_sync, fact.the_send, fact.the_sync, plan.the_send, plan.the_sync, sendable) depth 60

  pub sealed_send : IsSend A → IsSync A → Frees g g.dealloc_token → IsSend (Sealed.the_row A g c)
  sealed_send sa ya f = search (facts_send, history.the_send, sendable) depth 60

  pub sealed_sync : IsSend A → IsSync A → Frees g g.dealloc_token → IsSync (Sealed.the_row A g c)
  sealed_sync sa ya f = search (facts_sync, history.the_sync, sendable) depth 60
