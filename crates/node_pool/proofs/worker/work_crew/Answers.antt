use Rattle.std.proofs.Common.{◌≡◌, ◌++◌, ◌∙◌, length, ap, sym, subst, All, rules}
use Rattle.std.proofs.Math.Seq.{take-append_seam}
use lib.ListN.{take, drop}
use Rattle.crossbeam_deque.specs.Handles.{stealer_deque}
use Rattle.node_pool.specs.Workers.{IsDone}
use Rattle.node_pool.proofs.worker.work_crew.Goals as goal

pub returns-clause-done : goal.returns-clause-done
returns-clause-done g c =
    let new = c.work_all.new.members in
    let rest = drop (length new) c.args.members.now.items in
    let len : length new ≡ c.args.members.now.len = search rules in
    let same : take c.args.members.now.len (new ++ rest) ≡ new = ap (λ n. take n (new ++ rest)) (sym len) ∙ take-append_seam new rest in
    subst (All (IsDone (stealer_deque c.args.taker.now) (g.W.Work.done c.args.work.now))) (sym same) c.work_all.ensures.done
