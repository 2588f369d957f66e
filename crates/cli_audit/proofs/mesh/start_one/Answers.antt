use Rattle.std.proofs.Common.{◌≡◌, ◌+◌, length, arith, refl, sym, ◌∙◌, ap, subst}
use Rattle.aud_node.specs.Faults.{HasSeat}
use Rattle.aud_node.specs.Meanings.{NodeOf, node_of}
use Rattle.cli_audit.specs.Seats.{IsCrewAt}
use Rattle.cli_audit.proofs.Seating.{count_of, seated_crew, seated_collector}
use Rattle.cli_audit.proofs.mesh.start_one.Goals as goal

pub seated-requires : goal.seated-requires
seated-requires g c =
    let count : length c.in-Ok.started.1.items ≡ c.args.workers + 1 = ap length c.in-Ok.ensures.passes ∙ count_of c.args.opened.number (c.args.workers + 1) in
    omega (arith, count)

pub returns-clause-collector : goal.returns-clause-collector
returns-clause-collector g c =
    subst (λ (n : NodeOf). HasSeat n.number 0 c.in_ok-collector.collector.pass) (sym c.in-Ok.ensures.node)
    (seated_collector c.args.opened.number (c.args.workers + 1) c.in_ok-collector.collector.pass c.in_ok-collector.crew.passes (sym c.in_ok-collector.ensures.0 ∙ c.in-Ok.ensures.passes))

pub returns-clause-crew : goal.returns-clause-crew
returns-clause-crew g c =
    subst (λ (n : NodeOf). IsCrewAt n c.in_ok-collector.crew) (sym c.in-Ok.ensures.node)
    (seated_crew (node_of c.args.opened c.in_ok-dup.field-0 (c.args.workers + 1)) c.in_ok-collector.crew c.in_ok-collector.collector.pass c.args.workers refl c.requires.workers c.in_ok-collector.ensures.1
    (sym c.in_ok-collector.ensures.0 ∙ c.in-Ok.ensures.passes))
