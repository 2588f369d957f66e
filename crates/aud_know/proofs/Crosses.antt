-- What is known, and what is offered, may cross threads, where the allocator may and may be shared.
use denote.RattleType.{RattleType}
use denote.Param.Send.{IsSend, IsSync, Frees, sendable}
use Rattle.std.specs.declared.alloc.Allocator as alloc
use Rattle.std.specs.declared.clone.Clone as clone
use Rattle.std.proofs.option.Option.TheSendSync as option
use Rattle.std.proofs.sync.Arc.TheSendSync as arc
use Rattle.aud_event.proofs.fact.Fact.TheSendSync as fact
use Rattle.aud_facts.proofs.Crosses.{facts_send, facts_sync}
use Rattle.aud_lattice.proofs.CoverCrosses.{cover_send, cover_sync}
use Rattle.aud_witness.proofs.decision.Decision.TheSendSync as decision
use Rattle.aud_witness.proofs.decision.Prefix.TheSendSync as prefix
use Rattle.aud_order.proofs.Crosses.{shape_send, shape_sync}
use Rattle.aud_know.proofs.claim.Claim.TheSendSync as claim
use Rattle.aud_know.specs.contracts.finding.Finding as Finding
use Rattle.aud_know.specs.contracts.item.Item as Item
use Rattle.aud_know.specs.contracts.knowledge.Knowledge as Knowledge

module _ (A : RattleType) (g : alloc.Ghosts A.Denot) (c : clone.Ghosts A.Denot) where
  pub finding_send : IsSend A → IsSync A → Frees g g.dealloc_token → IsSend (Finding.the_row A g c)
  finding_send sa ya f = search (shape_send, shape_sync, arc.the_send, claim.the_field_send, sendable) depth 60

  pub finding_sync : IsSend A → IsSync A → Frees g g.dealloc_token → IsSync (Finding.the_row A g c)
  finding_sync sa ya f = search (shape_send, shape_sync, arc.the_sync, claim.the_field_sync, sendable) depth 60

  pub knowledge_send : IsSend A → IsSync A → Frees g g.dealloc_token → IsSend (Knowledge.the_row A g c)
  knowledge_send sa ya f = search (facts_send, cover_send, cover_sync, prefix.the_send, prefix.the_sync, decision.the_send, decision.the_sync, arc.the_send, option.the_field_send, sendable) depth 60

  pub knowledge_sync : IsSend A → IsSync A → Frees g g.dealloc_token → IsSync (Knowledge.the_row A g c)
  knowledge_sync sa ya f = search (facts_sync, cover_send, cover_sync, prefix.the_send, prefix.the_sync, decision.the_send, decision.the_sync, arc.the_sync, option.the_field_sync, sendable) depth 60

  pub item_send : IsSend A → IsSync A → Frees g g.dealloc_token → IsSend (Item.the_row A g c)
  item_send sa ya f = search (finding_send, knowledge_send, knowledge_sync, fact.the_field_send, arc.the_send, sendable) depth 60 fits 20000

  pub item_sync : IsSend A → IsSync A → Frees g g.dealloc_token → IsSync (Item.the_row A g c)
  item_sync sa ya f = search (finding_sync, knowledge_send, knowledge_sync, fact.the_field_sync, arc.the_sync, sendable) depth 60 fits 20000
