use Rattle.std.specs.Prelude.{◌≡◌, ◌≤◌, ◌-◌, ◌*◌, ◌/◌, length, drop}
use Rattle.std.proofs.Common.{sym, ◌∙◌, ap, arith}
use Rattle.search_visited.specs.Visited.{chunks}
use Rattle.search_visited.proofs.Visiting.{length-chunks, drop-chunks, words-left}
use Rattle.search_visited.proofs.visited_set.VisitedSet.forget_older.Goals as goal

pub invariant_of-self : goal.invariant_of-self
invariant_of-self g c =
    let i = c.self.inside in
    let gone = i.count - i.count / 2 in
    let fewer : gone ≤ i.count = omega arith in
    let rest : i.count - gone ≡ i.count / 2 = omega arith in
    (c.self.invariant.0, ap length c.forget_first.ensures ∙ words-left i.width i.words.items i.count gone fewer c.self.invariant.1 ∙ ap (λ n. n * i.width) rest)

pub returns-clause-fewer : goal.returns-clause-fewer
returns-clause-fewer g c =
    let i = c.self.inside in
    let long : length c.args.self.now ≡ i.count = ap length (sym c.self.view_is) ∙ length-chunks i.width i.words.items i.count in
    omega arith

pub returns-clause-rest : goal.returns-clause-rest
returns-clause-rest g c =
    let i = c.self.inside in
    let gone = i.count - i.count / 2 in
    let fewer : gone ≤ i.count = omega arith in
    let rest : i.count / 2 ≡ i.count - gone = omega arith in
    (λ j. chunks i.width (c.forget_first.ensures j) (rest j)) ∙ drop-chunks i.width i.words.items i.count gone fewer ∙ ap (drop gone) c.self.view_is
