-- What threads take along and share of a node. Each pass may go to another thread, and a node may be shared, as all that
-- they hold may. A struct's field is told apart from its row.
use denote.RattleType.{RattleType}
use denote.Param.Send.{IsSend, IsSync, sendable}
use Rattle.std.proofs.Crossing as heap
use Rattle.std.proofs.marker.PhantomData.TheSendSync as mark
use Rattle.std.proofs.sync.Arc.TheSendSync as arc
use Rattle.left_right.proofs.reader.Reader.TheSendSync as reader
use Rattle.left_right.proofs.writer.Writer.TheSendSync as writer
use Rattle.aud_know.proofs.Crosses.{knowledge_send, knowledge_sync, item_send, item_sync}
use Rattle.aud_node.proofs.node.Node.TheSendSync as node
use Rattle.aud_node.proofs.book.Front.TheSendSync as front
use Rattle.aud_node.specs.contracts.desk.Desk as Desk
use Rattle.aud_node.specs.contracts.desk.Scribe as Scribe
use Rattle.aud_node.specs.contracts.node.Node as Node
use Rattle.aud_node.specs.contracts.pass.Packet as Packet
use Rattle.aud_node.specs.contracts.pass.Pass as Pass
use Rattle.aud_node.specs.contracts.published.Held as Held
use Rattle.aud_node.specs.contracts.published.Published as Published
use Rattle.aud_node.specs.declared.book.Fleet as fleet

pub published_send : IsSend Published.the_row
published_send = search (knowledge_send, knowledge_sync, arc.the_send, heap.send, heap.sync, heap.frees, front.the_send, sendable) depth 60 fits 20000

pub published_sync : IsSync Published.the_row
published_sync = search (knowledge_send, knowledge_sync, arc.the_sync, heap.send, heap.sync, heap.frees, front.the_sync, sendable) depth 60 fits 20000

pub published_field_send : IsSend (Published.the_field).row
published_field_send = search (knowledge_send, knowledge_sync, arc.the_send, heap.send, heap.sync, heap.frees, front.the_send, sendable) depth 60 fits 20000

pub published_field_sync : IsSync (Published.the_field).row
published_field_sync = search (knowledge_send, knowledge_sync, arc.the_sync, heap.send, heap.sync, heap.frees, front.the_sync, sendable) depth 60 fits 20000

pub packet_send : IsSend Packet.the_row
packet_send = search (knowledge_send, knowledge_sync, arc.the_send, heap.send, heap.sync, heap.frees, sendable) depth 60 fits 20000

pub packet_sync : IsSync Packet.the_row
packet_sync = search (knowledge_send, knowledge_sync, arc.the_sync, heap.send, heap.sync, heap.frees, sendable) depth 60 fits 20000

module _ (J : RattleType) (g : fleet.Ghosts J.Denot) where
  pub held_send : IsSend (Held.the_row J g)
  held_send = search (published_field_send, mark.the_field_send, sendable) depth 60 fits 20000

  pub held_sync : IsSync (Held.the_row J g)
  held_sync = search (published_field_sync, mark.the_field_sync, sendable) depth 60 fits 20000

  pub held_field_send : IsSend (Held.the_field J g).row
  held_field_send = search (published_field_send, mark.the_field_send, sendable) depth 60 fits 20000

  pub held_field_sync : IsSync (Held.the_field J g).row
  held_field_sync = search (published_field_sync, mark.the_field_sync, sendable) depth 60 fits 20000

  pub pass_send : IsSend (Pass.the_row J g)
  pass_send = search (published_sync, held_field_send, reader.the_field_send, heap.send, heap.sync, heap.frees, sendable) depth 60 fits 20000

  module _ (S : RattleType) where
    pub scribe_field_send : IsSend S → IsSend (Scribe.the_field J S g).row
    scribe_field_send s = search (published_send, published_sync, writer.the_field_send, heap.send, heap.sync, heap.frees, sendable) depth 60 fits 20000

    pub desk_send : IsSend S → IsSend (Desk.the_row J S g)
    desk_send s = search (scribe_field_send, held_field_send, item_send, item_sync, heap.crosses, heap.send, heap.sync, heap.frees, sendable) depth 60 fits 20000

    pub node_sync : IsSend S → IsSync (Node.the_row J (Desk.the_row J S g) g)
    node_sync s = search (node.the_sync, desk_send, sendable) depth 60 fits 20000
