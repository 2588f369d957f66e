-- A search may be shared by threads, as all that it holds may.
use denote.Param.Send.{IsSync, sendable}
use Rattle.std.proofs.Crossing as heap
use Rattle.std.proofs.sync.Arc.TheSendSync as arc
use Rattle.aud_order.proofs.Crosses.{shape_send, shape_sync}
use Rattle.cli_findings.specs.contracts.searching.TaskSearch as TaskSearch

pub search_sync : IsSync TaskSearch.the_row
search_sync = search (shape_send, shape_sync, arc.the_sync, heap.crosses, heap.send, heap.sync, heap.frees, sendable) depth 60 fits 20000
