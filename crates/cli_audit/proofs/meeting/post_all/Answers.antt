use Rattle.std.proofs.Common.{◌≡◌, ◌<◌, length, get_or, sym, subst, arith}
use denote.Param.Send.{sendable}
use Rattle.std.proofs.alloc.Global.TheSendSync as global
use Rattle.aud_node.proofs.Captures.{captures}
use Rattle.aud_node.proofs.Crosses.{node_sync}
use Rattle.cli_audit.specs.Seats.{CrewOf, IsCrewAt}
use Rattle.cli_audit.proofs.Crosses.{crew_send}
use Rattle.cli_audit.proofs.meeting.post_all.Goals as goal

pub for_each_mut-requires-send-T : goal.for_each_mut-requires-send-T
for_each_mut-requires-send-T g c κs within = search (crew_send, sendable)

pub for_each_mut-requires-sync-F : goal.for_each_mut-requires-sync-F
for_each_mut-requires-sync-F g c κs within = search (captures, node_sync, global.the_sync, sendable) depth 60 fits 20000

pub for_each_mut-requires-clause-accepts : goal.for_each_mut-requires-clause-accepts
for_each_mut-requires-clause-accepts g c κs outlive = λ i p lt is.
    let count = c.requires.count in
    let inside : i < length c.args.nodes.now = omega (arith, lt, count) in
    (inside, λ n. subst (λ (d : CrewOf). IsCrewAt (get_or c.args.nodes.now i n) d) (sym is) (c.requires.each i n p.now inside))

pub returns-clause-crews : goal.returns-clause-crews
returns-clause-crews g c =
    let count = c.requires.count in
    let same = c.for_each_mut.auto.s in record {
      count = omega (arith, count, same);
      each = λ k n d lt.
          let f = (c.for_each_mut.ensures k d (omega (arith, lt, count))).1 in
          subst (λ (v : CrewOf). IsCrewAt (get_or c.args.nodes.now k n) v) f.left (f.call.0 n);
    }

pub returns-clause-closed : goal.returns-clause-closed
returns-clause-closed g c = λ k d lt.
    let same = c.for_each_mut.auto.s in
    let f = (c.for_each_mut.ensures k d (omega (arith, lt, same))).1 in
    subst (λ (v : CrewOf). v.senders ≡ 0) f.left f.call.1
