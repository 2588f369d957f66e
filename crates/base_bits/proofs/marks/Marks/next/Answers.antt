use Rattle.std.specs.Prelude.{◌≡◌, ℕ, ◌<◌, ◌≤◌, ◌+◌, ◌-◌, ◌*◌, ◌/◌, ◌%◌, Bool, Some, None, List, length, slice_index_or}
use Rattle.std.proofs.Common.{sym, ◌∙◌, subst, arith}
use Rattle.std.proofs.lemmas.Grind.{get_or_default_zero}
use Rattle.base_bits.specs.Marked.{IsNextMark, IsNextOfWord}
use Rattle.base_bits.proofs.Marking.{unmarked-word, next-found, next-outside, next-past}
use Rattle.base_bits.proofs.marks.Marks.next.Goals as goal

-- the word as it was read
word-is : (words : List ℕ) (count place word : ℕ) → count ≤ 64 * length words → place < count → word ≡ slice_index_or words (place / 64) word → slice_index_or words (place / 64) 0 ≡ word
word-is words count place word room inside is = let low : place / 64 < length words = omega arith in sym (is ∙ get_or_default_zero words (place / 64) word low)

pub returns-then-found-self : goal.returns-then-found-self
returns-then-found-self g c =
    let i = c.self.inside in
    let place = c.loop-place.place in
    let word = word-is i.words.items i.count place c.index.result.now c.self.invariant.0 c.loop-place-test.true c.index.ensures in
    subst (λ (l : List Bool). IsNextMark l c.args.from (Some (place - place % 64 + c.in-Some.at))) c.self.view_is
    (next-found i.words.items i.count c.args.from place c.in-Some.at c.loop-place.invariant.1 c.loop-place.invariant.0 (subst (λ w. IsNextOfWord w (place % 64) (Some c.in-Some.at)) (sym word) c.in-Some.ensures) c.if-found-self.true)

pub returns-else-found-self : goal.returns-else-found-self
returns-else-found-self g c =
    let i = c.self.inside in
    let place = c.loop-place.place in
    let word = word-is i.words.items i.count place c.index.result.now c.self.invariant.0 c.loop-place-test.true c.index.ensures in
    subst (λ (l : List Bool). IsNextMark l c.args.from None) c.self.view_is
    (next-outside i.words.items i.count c.args.from place c.in-Some.at c.loop-place.invariant.1 (subst (λ w. IsNextOfWord w (place % 64) (Some c.in-Some.at)) (sym word) c.in-Some.ensures) c.if-found-self.false)

pub loop-place-smaller : goal.loop-place-smaller
loop-place-smaller g c =
    let i = c.self.inside in
    let test : c.loop-place.place < i.count = c.loop-place-test.true in
    let less : i.count - c.saturating_add-place.result < i.count - c.loop-place.place = omega (arith, c.self.invariant.1, c.saturating_add-place.ensures) in
    less

pub loop-place-preserved : goal.loop-place-preserved
loop-place-preserved g c =
    let i = c.self.inside in
    let place = c.loop-place.place in
    let word = word-is i.words.items i.count place c.index.result.now c.self.invariant.0 c.loop-place-test.true c.index.ensures in
    let none : IsNextOfWord c.index.result.now (place % 64) None = rw c.in_default.is at c.next_of_word.ensures in
    let free = unmarked-word i.words.items i.count c.args.from place c.loop-place.invariant.1 c.loop-place-test.true (subst (λ w. IsNextOfWord w (place % 64) None) (sym word) none) in (
      omega (arith, c.loop-place.invariant.0, c.saturating_add-place.ensures),
      (λ k past below. free k past (omega (arith, c.saturating_add-place.ensures))),
    )

pub returns : goal.returns
returns g c =
    let i = c.self.inside in
    subst (λ (l : List Bool). IsNextMark l c.args.from None) c.self.view_is (next-past i.words.items i.count c.args.from c.loop-place.place c.loop-place.invariant.1 c.loop-place-test.false)
