use Rattle.std.specs.Prelude.{◌+◌, ◌++◌, ◌∷◌, length, refl}
use Rattle.std.proofs.Common.{◌∙◌, ap, arith}
use Rattle.search_visited.proofs.Visiting.{visited-with, words-grown}
use Rattle.search_visited.proofs.visited_set.VisitedSet.keep.Goals as goal

pub invariant_of-self-then-append : goal.invariant_of-self-then-append
invariant_of-self-then-append g c =
    let i = c.self.inside in
    let marks = c.words-marks.result.now in (
      omega arith,
      words-grown i.width (length marks + 1) i.words.items c.append.new.words.items marks i.count c.args.states (c.is_width.ensures c.if-not-is_width.false) c.self.invariant.1 refl (rw c.if-append.true at c.append.ensures ∙ ap (λ l. l ++ c.args.states ∷ marks) c.reserve.ensures.items),
    )

pub returns-then-append : goal.returns-then-append
returns-then-append g c =
    let i = c.self.inside in
    let marks = c.words-marks.result.now in
    visited-with i.width (length marks + 1) i.words.items c.append.new.words.items marks c.args.placed.now c.args.self.now i.count c.args.states (c.is_width.ensures c.if-not-is_width.false) c.self.invariant.1 refl c.words-marks.ensures
    (rw c.if-append.true at c.append.ensures ∙ ap (λ l. l ++ c.args.states ∷ marks) c.reserve.ensures.items) c.self.view_is
