use Rattle.std.proofs.Common.{◌≡◌, ◌<◌, false, length, get_or, sym, subst, arith}
use denote.Param.Send.{sendable}
use Rattle.std.proofs.Crossing as heap
use Rattle.std.proofs.alloc.Global.TheSendSync as global
use Rattle.std.proofs.option.Option.TheSendSync as option
use Rattle.search_memo.proofs.Crosses.{shared_sync}
use Rattle.aud_node.proofs.Captures.{captures}
use Rattle.aud_node.proofs.Crosses.{node_sync}
use Rattle.cli_audit.specs.Seats.{CrewOf, IsCrewAt}
use Rattle.cli_audit.specs.Searches.{HaveEndedShare}
use Rattle.cli_findings.proofs.Crosses.{search_sync}
use Rattle.cli_audit.proofs.Crosses.{crew_send}
use Rattle.cli_audit.proofs.meeting.search_each.Goals as goal

pub for_each_mut-requires-send-T : goal.for_each_mut-requires-send-T
for_each_mut-requires-send-T g c κs within = search (crew_send, sendable)

pub for_each_mut-requires-sync-F : goal.for_each_mut-requires-sync-F
for_each_mut-requires-sync-F g c κs within = search (captures, node_sync, search_sync, shared_sync, option.the_sync, global.the_send, global.the_sync, heap.frees, sendable) depth 60 fits 20000

pub for_each_mut-requires-clause-accepts : goal.for_each_mut-requires-clause-accepts
for_each_mut-requires-clause-accepts g c κs outlive = λ i p lt is.
    let count = c.requires.crews.count in
    let inside : i < length c.args.nodes.now = omega (arith, lt, count) in
    ((inside, c.requires.named, c.requires.planned, λ n. subst (λ (d : CrewOf). IsCrewAt (get_or c.args.nodes.now i n) d) (sym is) (c.requires.crews.each i n p.now inside)), (search sendable, search sendable, search sendable, search sendable, search sendable, search sendable, search sendable))

pub returns-clause-crews : goal.returns-clause-crews
returns-clause-crews g c =
    let count = c.requires.crews.count in
    let same = c.for_each_mut.auto.s in record {
      count = omega (arith, count, same);
      each = λ k n d lt.
          let f = (c.for_each_mut.ensures k d (omega (arith, lt, count))).1 in
          subst (λ (v : CrewOf). IsCrewAt (get_or c.args.nodes.now k n) v) f.left (f.call.0 n).0;
    }

pub returns-clause-ended : goal.returns-clause-ended
returns-clause-ended g c = record {
  each = λ k n d lt.
      let count = c.requires.crews.count in
      let f = (c.for_each_mut.ensures k d (omega (arith, lt, count))).1 in
      subst (λ (v : CrewOf). v.failed ≡ false → HaveEndedShare c.args.search.now.shape.value c.args.search.now.budget c.args.search.now.tasks.items (length c.args.nodes.now) (get_or c.args.nodes.now k n).number v.passes) f.left (f.call.0 n).1;
}

pub returns-clause-closed : goal.returns-clause-closed
returns-clause-closed g c = λ k d lt.
    let same = c.for_each_mut.auto.s in
    let f = (c.for_each_mut.ensures k d (omega (arith, lt, same))).1 in
    subst (λ (v : CrewOf). v.senders ≡ 0) f.left f.call.1
