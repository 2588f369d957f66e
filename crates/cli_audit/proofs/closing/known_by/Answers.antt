use Rattle.std.proofs.Common.{◌∷◌, []}
use Rattle.aud_node.specs.Logs.{written_of}
use Rattle.cli_audit.proofs.Ending.{closed_knows}
use Rattle.cli_audit.proofs.Seating.{close_fault}
use Rattle.cli_audit.proofs.closing.known_by.Goals as goal

pub want_of_memory-requires : goal.want_of_memory-requires
want_of_memory-requires g c = close_fault c.args.node c.args.collector c.args.crew c.in_ok-passes.passes.items c.in-Err.fault c.in_ok-passes.ensures c.requires.collector c.requires.crew c.in-Err.ensures.fault

pub returns-in-Ok-clause-ends : goal.returns-in-Ok-clause-ends
returns-in-Ok-clause-ends g c = λ s budget t.
    closed_knows c.known_is_kept.ensures s budget t c.args.crew.passes c.in_ok-passes.passes.items (c.args.collector.pass ∷ []) c.args.node.plan (written_of c.in-Ok.closed.offered.items) c.in-Ok.closed.known
    c.in_ok-passes.ensures c.in-Ok.ensures.passes c.in-Ok.ensures.known
