use Rattle.std.specs.Prelude.{◌≡◌, ℤ, ◌+◌, ◌+ℤ◌, Option, Some, IfSome}
use Rattle.std.proofs.Common.{sym, ◌∙◌, subst, arith, rules, take, get_or, w64}
use Rattle.std.proofs.lemmas.Int.{ints, to_z-of_z}
use mir.Val.{SFits, to_z, of_z}
use Rattle.search_model.specs.Quantities.{seen_by, net, Tell}
use Rattle.search_model.proofs.Adding.{idle, net-more, tell-at}
use Rattle.search_model.proofs.numbers.contradict.Goals as goal
use Rattle.search_model.proofs.numbers.contradict.Goals.{in-Some+in-Some-checked_sub+else-differs, in_default}

pub returns-then-differs : goal.returns-then-differs
returns-then-differs c = λ so n tell.
    let f = c.args.quantity in
    let es = c.args.executions.now in
    let k = c.loop-execution.execution-index in
    let (m, (known, differ)) = c.differs.ensures c.if-differs.true in
    let seen : seen_by f (get_or es k idle) ≡ Some c.in-Some.found = sym c.seen_by.ensures ∙ c.in-Some.is in
    let here : n +ℤ net f (take k es) ≡ c.in-Some.found = tell-at f es k idle n c.in-Some.found tell (omega arith) seen in
    let before = c.loop-execution.invariant.0 in
    let one : n ≡ m = (subst (λ (o : Option ℤ). IfSome o (λ m. (n : ℤ) → Tell f n es → n ≡ m)) known c.loop-execution.invariant.1) n tell in
    let fits : SFits w64 c.in-Some.found = search rules in
    let found = to_z-of_z w64 c.in-Some.found fits in
    let sub = c.in-Some-checked_sub.ensures in
    differ (omega (arith, ints, one, here, before, sub, found))

pub loop-execution-preserved : goal.loop-execution-preserved
loop-execution-preserved c =
    let f = c.args.quantity in
    let es = c.args.executions.now in
    let k = c.loop-execution.execution-index in
    let more = net-more f es k idle (omega arith) in
    let add = c.in-Some-checked_add.ensures in
    let own = c.change_by.ensures in
    let before = c.loop-execution.invariant.0 in
    let sum : to_z w64 (of_z w64 c.in-Some-checked_add.sum) ≡ net f (take (k + 1) es) = omega (arith, ints, more, add, own, before) in
    elim c.match-seen_by.branch [
      | in-Some+in-Some-checked_sub+else-differs w ↦
          let seen : seen_by f (get_or es k idle) ≡ Some w.in-Some.found = sym c.seen_by.ensures ∙ w.in-Some.is in
          let fits : SFits w64 w.in-Some.found = search rules in
          let found = to_z-of_z w64 w.in-Some.found fits in
          let sub = w.in-Some-checked_sub.ensures in
          let number : ℤ = to_z w64 (of_z w64 w.in-Some-checked_sub.number) in
          let known : (n : ℤ) → Tell f n es → n ≡ number =
          λ n tell. let here = tell-at f es k idle n w.in-Some.found tell (omega arith) seen in omega (arith, ints, here, before, sub, found) in
          (sum, subst (λ (o : Option ℤ). IfSome o (λ m. (n : ℤ) → Tell f n es → n ≡ m)) (sym w.first-is) known)
      | in_default w ↦ (sum, subst (λ (o : Option ℤ). IfSome o (λ m. (n : ℤ) → Tell f n es → n ≡ m)) (sym w.first-is) c.loop-execution.invariant.1)
    ]
