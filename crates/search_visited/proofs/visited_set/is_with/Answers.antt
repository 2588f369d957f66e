use Rattle.std.specs.Prelude.{◌+◌, ◌/◌}
use Rattle.std.proofs.Common.{sym, ◌∙◌, arith, get_or}
use Rattle.base_values.proofs.Bools.{nat_eq-is}
use Rattle.search_visited.proofs.Visiting.{set-between, rest-all}
use Rattle.search_visited.proofs.visited_set.is_with.Goals as goal
use Rattle.search_visited.proofs.visited_set.is_with.Goals.{then-words-at, else-words-at}

pub returns-then-are_same : goal.returns-then-are_same
returns-then-are_same c =
    let words = c.args.words.now in
    let others = c.args.others.now in
    let at = c.args.place / 64 in
    λ it. elim c.if-words-at.branch [
      | then-words-at w ↦ (
        c.with_bit.result,
        (
          omega arith,
          c.with_bit.ensures,
          set-between others words at c.with_bit.result (omega arith) (omega arith) w.if-words-at.true (w.are_same.ensures.0 (sym w.value-is ∙ c.if-are_same.true))
              (sym (rest-all words (at + 1)) ∙ c.are_same-then-are_same.ensures.0 it ∙ rest-all others (at + 1)),
        ),
      )
      | else-words-at w ↦ absurd (w.if-words-at.false (nat_eq-is (get_or words at 0) c.with_bit.result (sym w.value-is ∙ c.if-are_same.true)))
    ]
