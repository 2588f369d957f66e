use Rattle.std.proofs.Common.{◌≡◌, [], replicate}
use Rattle.aud_know.specs.Known.{knowing}
use Rattle.aud_world.proofs.world.empty_nodes.Given as goal

-- as many nodes that know nothing as turns were made
abbrev pub invariant-loop : goal.invariant-loop
invariant-loop g l = l.nodes.items ≡ replicate l.counter (knowing l.plan.value [])
