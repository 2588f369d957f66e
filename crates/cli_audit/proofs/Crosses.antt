-- What threads take along and share of an audit. A collector and a crew may go to another thread, as their passes and what they post
-- may. A struct's field is told apart from its row.
use denote.RattleType.{RattleType}
use denote.Param.Send.{IsSend, sendable}
use Rattle.std.proofs.Crossing as heap
use Rattle.std.proofs.option.Option.TheSendSync as option
use Rattle.crossbeam_channel.proofs.channel.Sender.TheSendSync as sender
use Rattle.left_right.proofs.reader.Reader.TheSendSync as reader
use Rattle.aud_know.proofs.Crosses.{knowledge_send, knowledge_sync}
use Rattle.aud_node.proofs.Crosses.{packet_send, packet_sync, pass_send, published_sync, held_field_send}
use Rattle.aud_node.specs.contracts.pass.Pass as Pass
use Rattle.aud_node.specs.declared.book.Fleet as fleet
use Rattle.aud_gossip.specs.contracts.outbox.Outbox as Outbox
use Rattle.cli_audit.specs.contracts.collector.Collector as Collector
use Rattle.cli_audit.specs.contracts.crew.Crew as Crew

outbox_field_send : IsSend (Outbox.the_field).row
outbox_field_send = search (knowledge_send, knowledge_sync, packet_send, packet_sync, sender.the_send, option.the_send, heap.crosses, heap.send, heap.sync, heap.frees, sendable) depth 60 fits 20000

module _ (J : RattleType) (g : fleet.Ghosts J.Denot) where
  pass_field_send : IsSend (Pass.the_field J g).row
  pass_field_send = search (published_sync, held_field_send, reader.the_field_send, heap.send, heap.sync, heap.frees, sendable) depth 60 fits 20000

  pub collector_send : IsSend (Collector.the_row J g)
  collector_send = search (pass_field_send, sendable) depth 60 fits 20000

  pub crew_send : IsSend (Crew.the_row J g)
  crew_send = search (pass_send, outbox_field_send, heap.crosses, heap.send, heap.sync, heap.frees, sendable) depth 60 fits 20000
