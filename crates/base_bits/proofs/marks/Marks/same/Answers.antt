use Rattle.std.specs.Prelude.{◌≡◌, Bool, List, false, slice_index_or, refl}
use Rattle.std.proofs.Common.{sym, ◌∙◌, ap, arith}
use Rattle.base_bits.proofs.Marking.{marks-same, counts-differ}
use Rattle.base_bits.proofs.marks.Marks.same.Goals as goal

pub returns-then-self-other : goal.returns-then-self-other
returns-then-self-other g c =
    let i = c.self.inside in
    let j = c.other.inside in
    ((λ t. cc), (λ is. absurd (counts-differ i.words.items j.words.items i.count j.count (λ n. c.if-self-other.true n) (c.self.view_is ∙ is ∙ sym c.other.view_is))))

pub returns : goal.returns
returns g c =
    let i = c.self.inside in
    let j = c.other.inside in
    let same = marks-same i.words.items j.words.items i.count j.count c.if-self-other.false (λ k below.
    let at : slice_index_or c.args.self.now k false ≡ slice_index_or c.args.other.now k false = c.loop-place.invariant k (omega arith) in
    ap (λ (l : List Bool). slice_index_or l k false) c.self.view_is ∙ at ∙ ap (λ (l : List Bool). slice_index_or l k false) (sym c.other.view_is)) in
    ((λ _. sym c.self.view_is ∙ same ∙ c.other.view_is), (λ _. refl))
