use Rattle.std.proofs.Common.{◌≡◌, ◌+ℤ◌, ◌-ℤ◌, Some, None, ap, ◌∙◌, arith, get_or, to_z, of_z, w64}
use Rattle.std.proofs.lemmas.Int.{ints}
use Rattle.search_model.specs.Quantities.{seen_by, change_by}
use Rattle.search_model.proofs.Adding.{idle, asked-next}
use Rattle.search_model.proofs.numbers.asked.Goals as goal

pub loop-execution-preserved : goal.loop-execution-preserved
loop-execution-preserved c =
    let f = c.args.quantity in
    let es = c.args.executions.now in
    let k = c.loop-execution.execution-index in
    let none : seen_by f (get_or es k idle) ≡ None = cc in
    let sum : to_z w64 c.loop-execution.before-bits +ℤ change_by f (get_or es k idle) ≡ to_z w64 (of_z w64 c.in_ok-before.before) =
    let added = c.in_ok-before.ensures.1 in let own = c.change_by.ensures in omega (arith, ints, added, own) in
    λ m is. asked-next f es k idle (to_z w64 c.loop-execution.before-bits) (omega arith) c.loop-execution.invariant none m is ∙ ap (λ n. Some (m -ℤ n)) sum
