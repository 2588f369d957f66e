use Rattle.std.proofs.Common.{subst, ◌<◌, length, rules}
use Rattle.crossbeam_deque.specs.Handles.{stealer_deque}
use Rattle.node_pool.specs.declared.worker.Member.{Member}
use Rattle.node_pool.specs.Workers.{IsDone}
use Rattle.node_pool.proofs.worker.work_all.Goals as goal

pub returns-clause-done : goal.returns-clause-done
returns-clause-done g c = λ k d lt.
    let lt' : k < length c.args.members.now = search rules in
    let P : Member g.row.T.Denot g.row.S.Denot g.row.A.Denot → Type 0 = λ h. IsDone (stealer_deque c.args.taker.now) (g.W.Work.done c.args.work.now) h in
    let f = (c.for_each_mut.ensures k d lt').1 in
    subst P f.left f.call.0
