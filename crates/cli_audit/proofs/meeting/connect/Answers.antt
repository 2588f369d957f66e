use Rattle.std.proofs.Common.{◌≡◌, ◌<◌, ◌+◌, ◌∙◌, length, vec_len, ap, sym, arith, rules}
use Rattle.std.proofs.lemmas.List.{get_or_default}
use Rattle.cli_audit.specs.Seats.{CrewOf, with_senders}
use Rattle.cli_audit.proofs.Connecting.{connected_all, connected_more}
use Rattle.cli_audit.proofs.meeting.connect.Goals as goal

pub loop-place-preserved : goal.loop-place-preserved
loop-place-preserved g c =
    let place = c.loop-place.place in
    let crews = c.loop-place.crews in
    let one = c.reopen.new.self in
    let was = c.index-crews-place.result in
    let count = c.loop-place.invariant.count in
    let lt : place < length c.args.crews.now = omega (arith, c.loop-place-test.true) in
    let own : one.senders ≡ vec_len c.in_ok-others.others = ap (λ (v : CrewOf). v.senders) c.reopen.ensures in
    let all : length c.deref.result.now ≡ length c.args.crews.now = search rules in
    let others = c.in_ok-others.ensures in
    connected_more place c.args.crews.now crews one lt (omega (arith, own, all, others))
    (λ d. c.reopen.ensures ∙ (λ i. with_senders (sym own i) (get_or_default crews place was d (omega (arith, lt, count)) i))) c.loop-place.invariant

pub returns-clause-connected : goal.returns-clause-connected
returns-clause-connected g c = connected_all c.loop-place.place c.args.crews.now c.loop-place.crews (omega (arith, c.loop-place-test.false)) c.loop-place.invariant
