use Rattle.std.specs.Prelude.{◌≡◌, ℕ, ℤ, Some, slice_get, true}
use Rattle.std.proofs.Common.{arith, sym, ◌∙◌, subst, get_or, w64}
use Rattle.std.proofs.lemmas.Int.{to_z-of_z}
use mir.Val.{to_z, of_z}
use Rattle.search_model.proofs.Adding.{idle}
use Rattle.search_model.specs.Blocks.{added, is_addition_of}
use Rattle.search_model.proofs.Deeds.{adds-there}
use Rattle.search_model.proofs.queues.adds_value.Goals as goal

pub returns-then-is_addition_of : goal.returns-then-is_addition_of
returns-then-is_addition_of c = λ so.
    let es = c.args.executions.now in
    let k = c.loop-execution.execution-index in
    let bits : ℤ = to_z w64 (of_z w64 c.args.value) in
    let own : is_addition_of c.args.queue bits (get_or es k idle) ≡ true = sym c.is_addition_of.ensures ∙ c.if-is_addition_of.true in
    let there = adds-there c.args.queue bits es k idle (omega arith) own in
    subst (λ v. (i : ℕ) × (slice_get (added c.args.queue es) i ≡ Some v)) (to_z-of_z w64 c.args.value c.ranges.value) there
