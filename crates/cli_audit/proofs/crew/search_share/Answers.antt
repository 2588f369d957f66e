use Rattle.std.proofs.Common.{◌≡◌, ◌<◌, [], ℕ, List, length, vec_len, subst, arith, rules}
use Rattle.aud_witness.specs.declared.decision.Decision.{Decision}
use Rattle.aud_order.specs.Shapes.{ShapeOf}
use Rattle.cli_audit.specs.Searches.{HaveEndedShare, IsShare}
use Rattle.cli_audit.proofs.Seating.{searched_later}
use Rattle.cli_audit.proofs.Ending.{none_of, share_ended}
use Rattle.cli_audit.proofs.crew.search_share.Goals as goal

pub returns-in-Ok-run_pool_with-clause-later : goal.returns-in-Ok-run_pool_with-clause-later
returns-in-Ok-run_pool_with-clause-later g c = searched_later c.in-Ok-try_clone.shape.value c.args.passes.items c.in-Ok-run_pool_with.end.passes.items c.in-Ok-run_pool_with.ensures.ran.searched

pub returns-in-Ok-run_pool_with-clause-ended : goal.returns-in-Ok-run_pool_with-clause-ended
returns-in-Ok-run_pool_with-clause-ended g c = λ ended.
    let end = c.in-Ok-run_pool_with.end in
    let same : c.in-Ok-try_clone.shape.value ≡ c.args.search.now.shape.value = search rules in
    let shared : IsShare c.args.search.now.tasks.items c.args.nodes c.args.node.now.number c.in-Ok.tasks.items = subst (λ (k : ℕ). IsShare c.args.search.now.tasks.items c.args.nodes k c.in-Ok.tasks.items) c.number.ensures (subst (λ (l : List (List Decision)). IsShare l c.args.nodes c.number.result c.in-Ok.tasks.items) c.deref.ensures.value c.in-Ok.ensures) in
    let count : vec_len end.passes ≡ length end.passes.items = end.passes.ok.0 in
    let some : 0 < vec_len end.passes = (let before : vec_len c.args.passes ≡ length c.args.passes.items = c.args.passes.ok.0 in let later = (searched_later c.in-Ok-try_clone.shape.value c.args.passes.items end.passes.items c.in-Ok-run_pool_with.ensures.ran.searched).count in let crew = c.in-Ok-run_pool_with.ensures.begun.0.0 in omega (arith, count, before, later, crew)) in
    let none : end.faults.items ≡ [] = none_of c.is_empty.result (vec_len end.faults) end.faults.items c.is_empty.ensures end.faults.ok.0 ended in
    subst (λ (s : ShapeOf). HaveEndedShare s c.args.search.now.budget c.args.search.now.tasks.items c.args.nodes c.args.node.now.number end.passes.items) same
    (share_ended c.pool_ends_all.ensures c.in-Ok-try_clone.shape.value c.args.search.now.budget c.args.search.now.tasks.items c.in-Ok.tasks.items end.left.items c.args.nodes c.args.node.now.number (vec_len end.passes) end.passes.items end.drawn.items end.faults.items
    shared count some c.in-Ok-run_pool_with.ensures.ran.all c.in-Ok-run_pool_with.ensures.ran.left_so c.in-Ok-run_pool_with.ensures.ran.workers c.in-Ok-run_pool_with.ensures.ran.settled none)
