use Rattle.std.proofs.Common.{[], ◌∷◌}
use Rattle.aud_know.specs.Norms as norms
use Rattle.aud_world.proofs.Gaining.{gains, plans}
use Rattle.aud_world.proofs.Stepping.{nothing_made, left}
use Rattle.aud_world.proofs.Taking.{put_back, fits, unfit}
use Rattle.aud_world.proofs.world.feed.Goals as goal

-- the node at the number gains the atoms
pub returns-clause-gains : goal.returns-clause-gains
returns-clause-gains g c = gains (norms.fact c.args.item.now ∷ []) c.args.nodes.now.items c.args.number c.index_mut.result.now c.take_fact.new.self c.requires c.index_mut.ensures.value c.in_ok-take_fact.ensures.plan c.in_ok-take_fact.ensures.taken

pub returns-in_err-take_fact-clause-gains : goal.returns-in_err-take_fact-clause-gains
returns-in_err-take_fact-clause-gains g c = nothing_made c.from_residual.result _ c.from_residual.ensures.0

-- and keeps its plan
pub returns-clause-plans : goal.returns-clause-plans
returns-clause-plans g c = plans c.args.nodes.now.items c.args.number c.index_mut.result.now c.take_fact.new.self c.requires c.index_mut.ensures.value c.in_ok-take_fact.ensures.plan

pub returns-in_err-take_fact-clause-plans : goal.returns-in_err-take_fact-clause-plans
returns-in_err-take_fact-clause-plans g c = plans c.args.nodes.now.items c.args.number c.index_mut.result.now c.take_fact.new.self c.requires c.index_mut.ensures.value c.in_err-take_fact.ensures.plan

-- a fact is taken exactly where it fits the plan
pub returns-clause-fault : goal.returns-clause-fault
returns-clause-fault g c = fits c.args.nodes.now.items c.args.number c.index_mut.result.now c.requires c.index_mut.ensures.value c.args.item.now c.in_ok-take_fact.field-0 c.in_ok-take_fact.ensures.mismatch.1

pub returns-in_err-take_fact-clause-fault : goal.returns-in_err-take_fact-clause-fault
returns-in_err-take_fact-clause-fault g c = unfit c.args.nodes.now.items c.args.number c.index_mut.result.now c.requires c.index_mut.ensures.value c.args.item.now c.in_err-take_fact.field-0.0 c.from_residual.result c.from_residual.ensures.1 c.in_err-take_fact.ensures.mismatch.0 c.in_err-take_fact.ensures.mismatch.1

-- a refused call leaves the nodes
pub returns-in_err-take_fact-clause-err : goal.returns-in_err-take_fact-clause-err
returns-in_err-take_fact-clause-err g c = left c.from_residual.result _ (put_back c.args.nodes.now.items c.args.number c.index_mut.result.now c.take_fact.new.self c.requires c.index_mut.ensures.value c.in_err-take_fact.ensures.err)
