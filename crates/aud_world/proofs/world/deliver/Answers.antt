use Rattle.aud_know.specs.Norms as norms
use Rattle.aud_world.proofs.Gaining.{gains, plans}
use Rattle.aud_world.proofs.Stepping.{nothing_made, left}
use Rattle.aud_world.proofs.Taking.{put_back, only_memory}
use Rattle.aud_world.proofs.world.deliver.Goals as goal

-- the node at the number gains the atoms
pub returns-clause-gains : goal.returns-clause-gains
returns-clause-gains g c = gains (norms.atoms_of c.args.packet.now.held) c.args.nodes.now.items c.args.number c.index_mut.result.now c.join.new.self c.requires c.index_mut.ensures.value c.in_ok-join.ensures.plan c.in_ok-join.ensures.taken

pub returns-in_err-join-clause-gains : goal.returns-in_err-join-clause-gains
returns-in_err-join-clause-gains g c = nothing_made c.from_residual.result _ c.from_residual.ensures.0

-- and keeps its plan
pub returns-clause-plans : goal.returns-clause-plans
returns-clause-plans g c = plans c.args.nodes.now.items c.args.number c.index_mut.result.now c.join.new.self c.requires c.index_mut.ensures.value c.in_ok-join.ensures.plan

pub returns-in_err-join-clause-plans : goal.returns-in_err-join-clause-plans
returns-in_err-join-clause-plans g c = plans c.args.nodes.now.items c.args.number c.index_mut.result.now c.join.new.self c.requires c.index_mut.ensures.value c.in_err-join.ensures.plan

-- what is of the plan is refused for memory alone
pub returns-in_err-join-clause-fault : goal.returns-in_err-join-clause-fault
returns-in_err-join-clause-fault g c = only_memory c.args.nodes.now.items c.args.number c.index_mut.result.now c.requires c.index_mut.ensures.value c.args.packet.now.plan c.in_err-join.field-0.0 c.from_residual.result c.from_residual.ensures.1 c.in_err-join.ensures.mismatch.0

-- a refused call leaves the nodes
pub returns-in_err-join-clause-err : goal.returns-in_err-join-clause-err
returns-in_err-join-clause-err g c = left c.from_residual.result _ (put_back c.args.nodes.now.items c.args.number c.index_mut.result.now c.join.new.self c.requires c.index_mut.ensures.value c.in_err-join.ensures.err)
