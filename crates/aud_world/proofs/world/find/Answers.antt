use Rattle.aud_know.specs.Findings.{found}
use Rattle.aud_world.proofs.Gaining.{gains, plans}
use Rattle.aud_world.proofs.Stepping.{nothing_made, left}
use Rattle.aud_world.proofs.Taking.{put_back, only_memory}
use Rattle.aud_world.proofs.world.find.Goals as goal

-- the node at the number gains the atoms
pub returns-clause-gains : goal.returns-clause-gains
returns-clause-gains g c = gains (found c.args.finding.now) c.args.nodes.now.items c.args.number c.index_mut.result.now c.take_finding.new.self c.requires c.index_mut.ensures.value c.in_ok-take_finding.ensures.plan c.in_ok-take_finding.ensures.taken

pub returns-in_err-take_finding-clause-gains : goal.returns-in_err-take_finding-clause-gains
returns-in_err-take_finding-clause-gains g c = nothing_made c.from_residual.result _ c.from_residual.ensures.0

-- and keeps its plan
pub returns-clause-plans : goal.returns-clause-plans
returns-clause-plans g c = plans c.args.nodes.now.items c.args.number c.index_mut.result.now c.take_finding.new.self c.requires c.index_mut.ensures.value c.in_ok-take_finding.ensures.plan

pub returns-in_err-take_finding-clause-plans : goal.returns-in_err-take_finding-clause-plans
returns-in_err-take_finding-clause-plans g c = plans c.args.nodes.now.items c.args.number c.index_mut.result.now c.take_finding.new.self c.requires c.index_mut.ensures.value c.in_err-take_finding.ensures.plan

-- a finding of the plan is refused for memory alone
pub returns-in_err-take_finding-clause-fault : goal.returns-in_err-take_finding-clause-fault
returns-in_err-take_finding-clause-fault g c = only_memory c.args.nodes.now.items c.args.number c.index_mut.result.now c.requires c.index_mut.ensures.value c.args.finding.now.facts.plan c.in_err-take_finding.field-0.0 c.from_residual.result c.from_residual.ensures.1 c.in_err-take_finding.ensures.mismatch.0

-- a refused call leaves the nodes
pub returns-in_err-take_finding-clause-err : goal.returns-in_err-take_finding-clause-err
returns-in_err-take_finding-clause-err g c = left c.from_residual.result _ (put_back c.args.nodes.now.items c.args.number c.index_mut.result.now c.take_finding.new.self c.requires c.index_mut.ensures.value c.in_err-take_finding.ensures.err)
